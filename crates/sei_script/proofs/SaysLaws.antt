-- A script that is read from bytes says bytes.
use Rattle.std.proofs.Common.{◌≡◌, ℕ, ◌+◌, ◌-◌, ◌*◌, ◌<◌, ◌^◌, Bool, true, false, List, [], ◌∷◌, ◌++◌, length, refl, subst, arith, Option, Some, None, Ok, Err, Result, IfOk}
use Rattle.std.specs.Prelude.{if◌then◌else◌, ◌==◌, ◌&&◌, nat_le, nat_lt, slice_index, codes, ⊤, All, IfSome}
use Rattle.std.specs.List.{position_or_len}
use Rattle.std.specs.Option.{option_map, option_to_list}
use Rattle.std.specs.Str.{bytes_eq}
use Rattle.std.specs.Str.Lines.{strip_carriage_return}
use Rattle.std.proofs.lemmas.Bool.Decides.{nat_tests}
use Rattle.std.proofs.lemmas.List.Elements.{All-nil, All-cons, All-head, All-tail, All-push, All-take, All-drop, All-from_get_or}
use Rattle.mc_model.specs.declared.geometry.Geometry.{Geometry}
use Rattle.sei_script.specs.Context.{context_of}
use Rattle.sei_script.specs.Faults.{is_planned, is_second, once_by, once}
use Rattle.sei_script.specs.Hexadecimal.{byte_before, unhexed}
use Rattle.sei_script.specs.Escapes.{hex_value, at_digit, step_of, IsPlace, joined, unescaped_behind, unescaped_from, unescaped}
use Rattle.sei_script.specs.Limits.{most_connections}
use Rattle.sei_script.specs.Lines.{lines_in, onto_first_line, word_of, behind_word, Part, part, first_number, first_exact, last_exact}
use Rattle.sei_script.specs.Numbers.{number_of, in_word}
use Rattle.sei_script.specs.Plans.{plan_of}
use Rattle.sei_script.specs.Reading.{Reading, Reads, Fails, ReadsAs, whole, goes_on, ends_at, reading_from, reading_of}
use Rattle.sei_script.specs.Says.{with_part, at_end, is_in_limits, geometry_says, behind_geometry, open_says, say_says, hex_says, clock_says, fault_says, other_says, kind_says, is_skipped, line_says}
use Rattle.sei_script.specs.SaysBytes.{SaysBytes}
use Rattle.sei_script.specs.declared.escapes.Step.{Step}
use Rattle.sei_script.specs.declared.escapes.Place.{Place}
use Rattle.sei_script.specs.declared.escapes.Place.TheVariants.{Plain, Escape, High, Low}
use Rattle.sei_script.specs.declared.line.Context.{Context}
use Rattle.sei_script.specs.declared.line.ScriptLine.{ScriptLine}
use Rattle.sei_script.specs.declared.line.ScriptLine.TheVariants.{Drain}
use Rattle.sei_script.specs.declared.line.Why.TheVariants.{TooBig, SecondFault}
use Rattle.sei_script.specs.declared.reader.ScriptFault.{ScriptFault}
use Rattle.sei_script.specs.declared.line.Said.{Said}
use Rattle.sei_script.specs.declared.line.Said.TheVariants.{Nothing, Line, Wrong}

abbrev Byte : ℕ → Type 0
Byte b = b < 256

abbrev Bytes : List ℕ → Type 0
Bytes bs = All Byte bs

-- the lines of bytes, and what is left behind them
abbrev LinesBytes : List (List ℕ) × List ℕ → Type 0
LinesBytes p = All Bytes p.0 × Bytes p.1

onto_bytes : (b : ℕ) (p : List (List ℕ) × List ℕ) → Byte b → LinesBytes p → LinesBytes (onto_first_line b p)
onto_bytes b ([], rest) h k = (k.0, All-cons Byte b rest h k.1)
onto_bytes b (line ∷ lines, rest) h k =
    (All-cons Bytes (b ∷ line) lines (All-cons Byte b line h (All-head Bytes line lines k.0)) (All-tail Bytes line lines k.0), k.1)

lines_by : (b : ℕ) (bs : List ℕ) (t : Bool) → Byte b → LinesBytes (lines_in bs)
    → LinesBytes (if t then ([] ∷ (lines_in bs).0, (lines_in bs).1) else onto_first_line b (lines_in bs))
lines_by b bs true h k = (All-cons Bytes [] (lines_in bs).0 (All-nil Byte) k.0, k.1)
lines_by b bs false h k = onto_bytes b (lines_in bs) h k

lines_bytes : (bs : List ℕ) → Bytes bs → LinesBytes (lines_in bs)
lines_bytes [] h = (All-nil Bytes, All-nil Byte)
lines_bytes (b ∷ bs) h = lines_by b bs (b == 10) (All-head Byte b bs h) (lines_bytes bs (All-tail Byte b bs h))

either_bytes : (t : Bool) (a b : List ℕ) → Bytes a → Bytes b → Bytes (if t then a else b)
either_bytes true a b p q = p
either_bytes false a b p q = q

strip_bytes : (line : List ℕ) → Bytes line → Bytes (strip_carriage_return line)
strip_bytes line h = either_bytes (slice_index line (length line - 1) == 13) _ _ (All-take Byte (length line - 1) line h) h

-- bytes, where there are some
abbrev SomeBytes : Option (List ℕ) → Type 0
SomeBytes o = IfSome o Bytes

some_by : (t : Bool) (bs : List ℕ) → Bytes bs → SomeBytes (if t then Some bs else None)
some_by true bs h = h
some_by false bs h = tt

behind_bytes : (text : List ℕ) → Bytes text → SomeBytes (behind_word text)
behind_bytes text h = some_by (nat_lt (position_or_len (λ b. b == 32) text) (length text)) _ (All-drop Byte (position_or_len (λ b. b == 32) text + 1) text h)

part_by : (rest : Option (List ℕ)) (n : Option ℕ) → SomeBytes rest → IfSome (option_map (λ n. part n rest) n) (λ p. SomeBytes p.rest)
part_by rest None h = tt
part_by rest (Some n) h = h

number_bytes : (rest : Option (List ℕ)) → SomeBytes rest → IfSome (first_number rest) (λ p. SomeBytes p.rest)
number_bytes None h = tt
number_bytes (Some text) h = part_by (behind_word text) (number_of (word_of text)) (behind_bytes text h)

-- a step leads to a place, and gives a byte or nothing
abbrev StepBytes : Option Step → Type 0
StepBytes o = IfSome o (λ step. IsPlace step.place × IfSome step.gives Byte)

digit_below : (b d : ℕ) → hex_value b ≡ Some d → d < 16
digit_below b d e = by (nat_le 48 b && nat_le b 57) (nat_le 97 b && nat_le b 102) refl refl e
  where
    by : (low high : Bool) → (nat_le 48 b && nat_le b 57) ≡ low → (nat_le 97 b && nat_le b 102) ≡ high
        → (if low then Some (b - 48) else (if high then Some (b - 87) else None)) ≡ Some d → d < 16
    by true high p q r = let same : b - 48 ≡ d = cc in grind (arith, nat_tests)
    by false true p q r = let same : b - 87 ≡ d = cc in grind (arith, nat_tests)
    by false false p q r = cc

step_plain : (b : ℕ) (t : Bool) → Byte b → StepBytes (if t then Some (record { place = Escape; gives = None }) else Some (record { place = Plain; gives = Some b }))
step_plain b true h = (tt, tt)
step_plain b false h = (tt, h)

step_escape : (cr lf backslash hex : Bool)
    → StepBytes (if cr then Some (record { place = Plain; gives = Some 13 })
    else (if lf then Some (record { place = Plain; gives = Some 10 })
    else (if backslash then Some (record { place = Plain; gives = Some 92 })
    else (if hex then Some (record { place = High; gives = None }) else None))))
step_escape true lf backslash hex = (tt, omega arith)
step_escape false true backslash hex = (tt, omega arith)
step_escape false false true hex = (tt, omega arith)
step_escape false false false true = (tt, tt)
step_escape false false false false = tt

step_high : (b : ℕ) (digit : Option ℕ) → hex_value b ≡ digit → StepBytes (at_digit digit (λ d. record { place = Low d; gives = None }))
step_high b None e = tt
step_high b (Some d) e = (digit_below b d e, tt)

step_low : (b high : ℕ) (digit : Option ℕ) → high < 16 → hex_value b ≡ digit → StepBytes (at_digit digit (λ d. record { place = Plain; gives = Some (16 * high + d) }))
step_low b high None h e = tt
step_low b high (Some d) h e = (tt, omega (arith, h, digit_below b d e))

step_bytes : (place : Place) (b : ℕ) → IsPlace place → Byte b → StepBytes (step_of place b)
step_bytes Plain b p h = step_plain b (b == 92) h
step_bytes Escape b p h = step_escape (b == 114) (b == 110) (b == 92) (b == 120)
step_bytes High b p h = step_high b (hex_value b) refl
step_bytes (Low high) b p h = step_low b high (hex_value b) p refl

joined_bytes : (front : Option ℕ) (o : Option (List ℕ)) → IfSome front Byte → SomeBytes o → SomeBytes (joined (option_to_list front) o)
joined_bytes front None h k = tt
joined_bytes None (Some bs) h k = k
joined_bytes (Some b) (Some bs) h k = All-cons Byte b bs h k

unescaped_by : (step : Option Step) (f : Place → Option (List ℕ)) → StepBytes step → ((p : Place) → IsPlace p → SomeBytes (f p)) → SomeBytes (unescaped_behind step f)
unescaped_by None f h k = tt
unescaped_by (Some step) f h k = joined_bytes step.gives (f step.place) h.1 (k step.place h.0)

-- an escaped text of bytes stands for bytes
from_bytes : (place : Place) (text : List ℕ) → IsPlace place → Bytes text → SomeBytes (unescaped_from place text)
from_bytes Plain [] p h = All-nil Byte
from_bytes Escape [] p h = tt
from_bytes High [] p h = tt
from_bytes (Low high) [] p h = tt
from_bytes place (b ∷ bs) p h =
    unescaped_by (step_of place b) (λ q. unescaped_from q bs) (step_bytes place b p (All-head Byte b bs h)) (λ q r. from_bytes q bs r (All-tail Byte b bs h))

pair_bytes : (high low : ℕ) (h l : Option ℕ) (o : Option (List ℕ)) → hex_value high ≡ h → hex_value low ≡ l → SomeBytes o → SomeBytes (byte_before h l o)
pair_bytes high low None l o p q k = tt
pair_bytes high low (Some h) None o p q k = tt
pair_bytes high low (Some h) (Some l) o p q k = joined_bytes (Some (16 * h + l)) o (omega (arith, digit_below high h p, digit_below low l q)) k

-- digits stand for bytes
unhexed_bytes : (text : List ℕ) → SomeBytes (unhexed text)
unhexed_bytes [] = All-nil Byte
unhexed_bytes (high ∷ []) = tt
unhexed_bytes (high ∷ low ∷ rest) = pair_bytes high low (hex_value high) (hex_value low) (unhexed rest) refl refl (unhexed_bytes rest)

-- the line that is said, where one is, says bytes
abbrev SaidBytes : Said → Type 0
SaidBytes Nothing = ⊤
SaidBytes (Line line) = SaysBytes line
SaidBytes (Wrong why) = ⊤

either : (t : Bool) (a b : Said) → SaidBytes a → SaidBytes b → SaidBytes (if t then a else b)
either true a b p q = p
either false a b p q = q

with_bytes : {A : Type 0} (P : A → Type 0) (o : Option A) (f : A → Said) → IfSome o P → ((a : A) → P a → SaidBytes (f a)) → SaidBytes (with_part o f)
with_bytes P None f h k = tt
with_bytes P (Some a) f h k = k a h

with_any : {A : Type 0} (o : Option A) (f : A → Said) → ((a : A) → SaidBytes (f a)) → SaidBytes (with_part o f)
with_any None f k = tt
with_any (Some a) f k = k a

end_bytes : (rest : Option (List ℕ)) (said : Said) → SaidBytes said → SaidBytes (at_end rest said)
end_bytes None said h = h
end_bytes (Some rest) said h = tt

geometry_bytes : (g : Option Geometry) (rest : Option (List ℕ)) → SaidBytes (geometry_says g rest)
geometry_bytes None rest =
    with_any (first_number rest) _ (λ b. with_any (first_number b.rest) _ (λ s. with_any (first_number s.rest) _ (λ w.
    end_bytes w.rest _ (either (is_in_limits (record { buckets = b.number; slots = s.number; value_words = w.number })) _ _ tt tt))))
geometry_bytes (Some g) rest = tt

behind_geometry_bytes : (g : Option Geometry) (said : Said) → SaidBytes said → SaidBytes (behind_geometry g said)
behind_geometry_bytes None said h = tt
behind_geometry_bytes (Some g) said h = h

open_bytes : (x : Context) (rest : Option (List ℕ)) → SaidBytes (open_says x rest)
open_bytes x rest =
    with_any (first_number rest) _ (λ c. with_any c.rest _ (λ mode.
    either (bytes_eq mode (codes "plain")) _ _ (either (nat_le most_connections c.number) _ _ tt (either (c.number == x.opens) _ _ tt tt)) tt))

say_says_bytes : (x : Context) (rest : Option (List ℕ)) → SomeBytes rest → SaidBytes (say_says x rest)
say_says_bytes x rest h =
    with_bytes (λ (c : Part). SomeBytes c.rest) (first_number rest) _ (number_bytes rest h) (λ c i.
    with_bytes Bytes c.rest _ i (λ text j.
    with_bytes Bytes (unescaped text) _ (from_bytes Plain text tt j) (λ bytes k.
    either (nat_lt c.number x.opens) _ _ k tt)))

hex_says_bytes : (x : Context) (rest : Option (List ℕ)) → SaidBytes (hex_says x rest)
hex_says_bytes x rest =
    with_any (first_number rest) _ (λ c. with_any c.rest _ (λ text.
    with_bytes Bytes (unhexed text) _ (unhexed_bytes text) (λ bytes k.
    either (nat_lt c.number x.opens) _ _ k tt)))

word_by : (n : ℕ) (small : Bool) → nat_lt n (2 ^ 64) ≡ small → IfSome (if small then Some n else None) (λ n. n < 2 ^ 64)
word_by n true e = grind (arith, nat_tests)
word_by n false e = tt

word_small : (o : Option ℕ) → IfSome (in_word o) (λ n. n < 2 ^ 64)
word_small None = tt
word_small (Some n) = word_by n (nat_lt n (2 ^ 64)) refl

last_small : (rest : Option (List ℕ)) → IfSome (last_exact rest) (λ n. n < 2 ^ 64)
last_small None = tt
last_small (Some text) = word_small (number_of text)

clock_bytes : (rest : Option (List ℕ)) → SaidBytes (clock_says rest)
clock_bytes rest = with_bytes (λ (n : ℕ). n < 2 ^ 64) (last_exact rest) _ (last_small rest) (λ now k. k)

fault_bytes : (x : Context) (rest : Option (List ℕ)) → SaidBytes (fault_says x rest)
fault_bytes x rest =
    with_any (first_number rest) _ (λ c. with_any (first_exact c.rest) _ (λ t. with_any (plan_of t.rest) _ (λ plan.
    either (nat_lt c.number x.opens) _ _ tt tt)))

other_bytes : (x : Context) (kind : List ℕ) (rest : Option (List ℕ)) → SomeBytes rest → SaidBytes (other_says x kind rest)
other_bytes x kind rest h =
    either (bytes_eq kind (codes "open")) _ _ (open_bytes x rest)
    (either (bytes_eq kind (codes "say")) _ _ (say_says_bytes x rest h)
    (either (bytes_eq kind (codes "hex")) _ _ (hex_says_bytes x rest)
    (either (bytes_eq kind (codes "drain")) _ _ (end_bytes rest (Line Drain) tt)
    (either (bytes_eq kind (codes "clock")) _ _ (clock_bytes rest)
    (either (bytes_eq kind (codes "fault")) _ _ (fault_bytes x rest) tt)))))

kind_bytes : (x : Context) (kind : List ℕ) (rest : Option (List ℕ)) → SomeBytes rest → SaidBytes (kind_says x kind rest)
kind_bytes x kind rest h =
    either (bytes_eq kind (codes "geometry")) _ _ (geometry_bytes x.geometry rest)
    (behind_geometry_bytes x.geometry (other_says x kind rest) (other_bytes x kind rest h))

line_bytes : (x : Context) (line : List ℕ) → Bytes line → SaidBytes (line_says x line)
line_bytes x line h =
    let text : List ℕ = strip_carriage_return line in
    either (is_skipped text) _ _ tt (kind_bytes x (word_of text) (behind_word text) (behind_bytes text (strip_bytes line h)))

once_bytes : (has : ℕ → ℕ → Bool) (said : Said) → SaidBytes said → SaidBytes (once_by has said)
once_bytes has said h = either (is_second has said) (Wrong SecondFault) said tt h

whole_bytes : (script : List ScriptLine) (number : ℕ) (g : Option Geometry) (read : List ScriptLine) → All SaysBytes script → whole script number g ≡ Reads read → All SaysBytes read
whole_bytes script number None read h e = cc
whole_bytes script number (Some g) read h e = let same : script ≡ read = cc in subst (All SaysBytes) same h

goes_bytes : (script : List ScriptLine) (number : ℕ) (said : Said) (next : List ScriptLine → Reading) (read : List ScriptLine) → All SaysBytes script → SaidBytes said
    → ((more : List ScriptLine) → All SaysBytes more → next more ≡ Reads read → All SaysBytes read) → goes_on script number said next ≡ Reads read → All SaysBytes read
goes_bytes script number Nothing next read h s step e = step script h e
goes_bytes script number (Line line) next read h s step e = step (script ++ line ∷ []) (All-push SaysBytes script line h s) e
goes_bytes script number (Wrong why) next read h s step e = cc

ends_bytes : (script : List ScriptLine) (number : ℕ) (rest : List ℕ) (read : List ScriptLine) → All SaysBytes script → ends_at script number rest ≡ Reads read → All SaysBytes read
ends_bytes script number [] read h e = whole_bytes script number (context_of script).geometry read h e
ends_bytes script number (b ∷ bs) read h e = cc

reading_bytes : (script : List ScriptLine) (number : ℕ) (lines : List (List ℕ)) (rest : List ℕ) (read : List ScriptLine) → All Bytes lines → All SaysBytes script
    → reading_from script number lines rest ≡ Reads read → All SaysBytes read
reading_bytes script number [] rest read l h e = ends_bytes script number rest read h e
reading_bytes script number (line ∷ lines) rest read l h e =
    goes_bytes script number (once script (line_says (context_of script) line)) (λ more. reading_from more (number + 1) lines rest) read h
    (once_bytes (is_planned script) (line_says (context_of script) line) (line_bytes (context_of script) line (All-head Bytes line lines l)))
    (λ more k q. reading_bytes more (number + 1) lines rest read (All-tail Bytes line lines l) k q) e

text_bytes : (text : List ℕ) (big : Bool) (script : List ScriptLine) → Bytes text → (if big then Fails 0 TooBig else reading_from [] 1 (lines_in text).0 (lines_in text).1) ≡ Reads script → All SaysBytes script
text_bytes text true script h e = cc
text_bytes text false script h e = reading_bytes [] 1 (lines_in text).0 (lines_in text).1 script (lines_bytes text h).0 (All-nil SaysBytes) e

-- each line of a script that reads says bytes, where the text is bytes
pub reads_bytes : (limit : ℕ) (text : List ℕ) (script : List ScriptLine) → All (λ b. b < 256) text → reading_of limit text ≡ Reads script → All SaysBytes script
reads_bytes limit text script h e = text_bytes text (nat_lt limit (length text)) script h e

-- the same of what the reader answers
pub answer_bytes : (limit : ℕ) (bytes : List ℕ) (r : Result (List ScriptLine) ScriptFault) → ((i : ℕ) → slice_index bytes i < 256) → ReadsAs (reading_of limit bytes) r → IfOk r (λ script. All SaysBytes script)
answer_bytes limit bytes (Ok script) small h = reads_bytes limit bytes script (All-from_get_or (λ b. b < 256) bytes 0 (λ i lt. small i)) h
answer_bytes limit bytes (Err fault) small h = tt
