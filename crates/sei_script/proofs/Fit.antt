-- Lines that are read are fit, and a script that reads has a valid geometry.
use Rattle.std.proofs.Common.{◌≡◌, ℕ, ◌≤◌, Bool, true, false, List, [], ◌∷◌, ◌++◌, length, refl, sym, ◌∙◌, subst, ◌+◌, ◌<◌, arith, Some, None, Option, IsSome, Ok, Err, Result, IfOk}
use Rattle.std.specs.Prelude.{if◌then◌else◌, ◌==◌, nat_le, nat_lt, codes, ⊤}
use Rattle.std.specs.Str.{bytes_eq}
use Rattle.std.specs.Str.Lines.{strip_carriage_return}
use Rattle.std.proofs.lemmas.Bool.Decides.{nat_tests}
use Rattle.mc_model.specs.declared.geometry.Geometry.{Geometry}
use Rattle.mc_model.specs.Server.{IsValid}
use Rattle.sei_code.specs.declared.modes.Mode.TheVariants.{Plain}
use Rattle.sei_script.specs.Context.{empty_context, context_by, context_after, context_from, context_of, geometry_or, geometry_of}
use Rattle.sei_script.specs.Effects.{Effect, Sizes, Opens, Feeds, Serves, SetsClock, PlansFault, effect_of}
use Rattle.sei_script.specs.Escapes.{unescaped}
use Rattle.sei_script.specs.Faults.{is_planned, is_second, once_by, once}
use Rattle.sei_script.specs.Fit.{IsPlaced, IsWellPlaced, AreFit}
use Rattle.sei_script.specs.Hexadecimal.{unhexed}
use Rattle.sei_script.specs.Lines.{word_of, behind_word, first_number, first_exact, last_exact, lines_in}
use Rattle.sei_script.specs.Plans.{plan_of}
use Rattle.sei_script.specs.Reading.{Reading, Reads, Fails, whole, goes_on, ends_at, reading_from, reading_of, ReadsAs}
use Rattle.sei_script.specs.Says.{with_part, at_end, is_in_limits, geometry_numbers, geometry_words, geometry_says, behind_geometry, line_says, open_says, say_says, hex_says, of_open, clock_says, fault_says, other_says, kind_says, is_skipped}
use Rattle.sei_script.specs.Limits.{most_connections}
use Rattle.sei_script.specs.declared.line.Context.{Context}
use Rattle.sei_script.specs.declared.line.ScriptLine.{ScriptLine}
use Rattle.sei_script.specs.declared.line.ScriptLine.TheVariants.{Geometry as GeometryLine, Open, Say, Hex, Drain, Fault}
use Rattle.sei_script.specs.declared.line.Why.TheVariants.{TooBig, GeometryOutOfLimits, TooManyConnections, WrongNumber, UnknownConnection, SecondFault}
use Rattle.sei_script.specs.declared.line.Said.{Said}
use Rattle.sei_script.specs.declared.line.Said.TheVariants.{Nothing, Line, Wrong}
use Rattle.sei_script.specs.declared.reader.ScriptFault.{ScriptFault}
use Rattle.sei_script.proofs.Limits.{valid_in_limits}

-- the line that is said, where one is, is fit
abbrev pub Fit : Context → Said → Type 0
Fit x Nothing = ⊤
Fit x (Line line) = IsWellPlaced x line
Fit x (Wrong why) = ⊤

either : (x : Context) (t : Bool) (a b : Said) → Fit x a → Fit x b → Fit x (if t then a else b)
either x true a b p q = p
either x false a b p q = q

part_fit : {A : Type 0} (x : Context) (o : Option A) (f : A → Said) → ((a : A) → Fit x (f a)) → Fit x (with_part o f)
part_fit x None f h = tt
part_fit x (Some a) f h = h a

end_fit : (x : Context) (rest : Option (List ℕ)) (said : Said) → Fit x said → Fit x (at_end rest said)
end_fit x None said h = h
end_fit x (Some rest) said h = tt

numbers_by : (x : Context) (g : Geometry) (t : Bool) → x.geometry ≡ None → is_in_limits g ≡ t → Fit x (if t then Line (GeometryLine g) else Wrong GeometryOutOfLimits)
numbers_by x g true e q = (e, valid_in_limits g q)
numbers_by x g false e q = tt

numbers_fit : (x : Context) (b s w : ℕ) → x.geometry ≡ None → Fit x (geometry_numbers b s w)
numbers_fit x b s w e = let g : Geometry = record { buckets = b; slots = s; value_words = w } in numbers_by x g (is_in_limits g) e refl

words_fit : (x : Context) (rest : Option (List ℕ)) → x.geometry ≡ None → Fit x (geometry_words rest)
words_fit x rest e =
    part_fit x (first_number rest) _ (λ b. part_fit x (first_number b.rest) _ (λ s. part_fit x (first_number s.rest) _ (λ w.
    end_fit x w.rest _ (numbers_fit x b.number s.number w.number e))))

geometry_fit : (x : Context) (g : Option Geometry) (rest : Option (List ℕ)) → x.geometry ≡ g → Fit x (geometry_says g rest)
geometry_fit x None rest e = words_fit x rest e
geometry_fit x (Some g) rest e = tt

behind_fit : (x : Context) (g : Option Geometry) (said : Said) → x.geometry ≡ g → (IsSome x.geometry → Fit x said) → Fit x (behind_geometry g said)
behind_fit x None said e h = tt
behind_fit x (Some g) said e h = h (subst (λ (o : Option Geometry). IsSome o) (sym e) refl)

open_by : (x : Context) (c : ℕ) (big next : Bool) → IsSome x.geometry → nat_le most_connections c ≡ big → (c == x.opens) ≡ next
    → Fit x (if big then Wrong TooManyConnections else (if next then Line (Open c Plain) else Wrong WrongNumber))
open_by x c true next s p q = tt
open_by x c false true s p q = (s, grind (arith, nat_tests), grind (arith, nat_tests))
open_by x c false false s p q = tt

open_fit : (x : Context) (rest : Option (List ℕ)) → IsSome x.geometry → Fit x (open_says x rest)
open_fit x rest s =
    part_fit x (first_number rest) _ (λ c. part_fit x c.rest _ (λ mode.
    either x (bytes_eq mode (codes "plain")) _ _ (open_by x c.number (nat_le most_connections c.number) (c.number == x.opens) s refl refl) tt))

open_of_by : (x : Context) (c : ℕ) (line : ScriptLine) (known : Bool) → nat_lt c x.opens ≡ known → (c < x.opens → IsWellPlaced x line) → Fit x (if known then Line line else Wrong UnknownConnection)
open_of_by x c line true p f = f (grind (arith, nat_tests))
open_of_by x c line false p f = tt

of_open_fit : (x : Context) (c : ℕ) (line : ScriptLine) → (c < x.opens → IsWellPlaced x line) → Fit x (of_open x c line)
of_open_fit x c line f = open_of_by x c line (nat_lt c x.opens) refl f

say_fit : (x : Context) (rest : Option (List ℕ)) → IsSome x.geometry → Fit x (say_says x rest)
say_fit x rest s =
    part_fit x (first_number rest) _ (λ c. part_fit x c.rest _ (λ text. part_fit x (unescaped text) _ (λ bytes.
    of_open_fit x c.number (Say c.number bytes) (λ l. (s, l)))))

hex_fit : (x : Context) (rest : Option (List ℕ)) → IsSome x.geometry → Fit x (hex_says x rest)
hex_fit x rest s =
    part_fit x (first_number rest) _ (λ c. part_fit x c.rest _ (λ text. part_fit x (unhexed text) _ (λ bytes.
    of_open_fit x c.number (Hex c.number bytes) (λ l. (s, l)))))

fault_fit : (x : Context) (rest : Option (List ℕ)) → IsSome x.geometry → Fit x (fault_says x rest)
fault_fit x rest s =
    part_fit x (first_number rest) _ (λ c. part_fit x (first_exact c.rest) _ (λ t. part_fit x (plan_of t.rest) _ (λ plan.
    of_open_fit x c.number (Fault c.number t.number plan) (λ l. (s, l)))))

clock_fit : (x : Context) (rest : Option (List ℕ)) → IsSome x.geometry → Fit x (clock_says rest)
clock_fit x rest s = part_fit x (last_exact rest) _ (λ now. s)

other_fit : (x : Context) (kind : List ℕ) (rest : Option (List ℕ)) → IsSome x.geometry → Fit x (other_says x kind rest)
other_fit x kind rest s =
    either x (bytes_eq kind (codes "open")) _ _ (open_fit x rest s)
    (either x (bytes_eq kind (codes "say")) _ _ (say_fit x rest s)
    (either x (bytes_eq kind (codes "hex")) _ _ (hex_fit x rest s)
    (either x (bytes_eq kind (codes "drain")) _ _ (end_fit x rest (Line Drain) s)
    (either x (bytes_eq kind (codes "clock")) _ _ (clock_fit x rest s)
    (either x (bytes_eq kind (codes "fault")) _ _ (fault_fit x rest s) tt)))))

kind_fit : (x : Context) (kind : List ℕ) (rest : Option (List ℕ)) → Fit x (kind_says x kind rest)
kind_fit x kind rest =
    either x (bytes_eq kind (codes "geometry")) _ _ (geometry_fit x x.geometry rest refl)
    (behind_fit x x.geometry (other_says x kind rest) refl (other_fit x kind rest))

pub line_fit : (x : Context) (line : List ℕ) → Fit x (line_says x line)
line_fit x line =
    let text : List ℕ = strip_carriage_return line in
    either x (is_skipped text) _ _ tt (kind_fit x (word_of text) (behind_word text))

once_fit : (x : Context) (has : ℕ → ℕ → Bool) (said : Said) → Fit x said → Fit x (once_by has said)
once_fit x has said h = either x (is_second has said) (Wrong SecondFault) said tt h

-- and so is the line where a second fault is wrong
pub said_fit : (x : Context) (script : List ScriptLine) (line : List ℕ) → Fit x (once script (line_says x line))
said_fit x script line = once_fit x (is_planned script) (line_says x line) (line_fit x line)

pub context_more : (x : Context) (script : List ScriptLine) (line : ScriptLine) → context_from x (script ++ line ∷ []) ≡ context_after (context_from x script) line
context_more x [] line = refl
context_more x (first ∷ script) line = context_more (context_after x first) script line

pub fit_more : (x : Context) (script : List ScriptLine) (line : ScriptLine) → AreFit x script → IsWellPlaced (context_from x script) line → AreFit x (script ++ line ∷ [])
fit_more x [] line h f = (f, tt)
fit_more x (first ∷ script) line h f = (h.0, fit_more (context_after x first) script line h.1 f)

few_by : (x : Context) (e : Effect) → x.opens ≤ most_connections → IsPlaced x e → (context_by x e).opens ≤ most_connections
few_by x (Opens c mode) h f = omega (arith, f.1, f.2)
few_by x other h f = h

-- no more connections are opened than there may be
pub few_more : (x : Context) (line : ScriptLine) → x.opens ≤ most_connections → IsWellPlaced x line → (context_after x line).opens ≤ most_connections
few_more x line h f = few_by x (effect_of line) h f

-- a geometry stays
geometry_stays : (x : Context) (e : Effect) (g : Geometry) → x.geometry ≡ Some g → IsPlaced x e → (context_by x e).geometry ≡ Some g
geometry_stays x (Sizes h) g e f = absurd (none_and_some (f.0) e)
  where
    none_and_some : x.geometry ≡ None → x.geometry ≡ Some g → ⊥
    none_and_some p q = cc
geometry_stays x other g e f = e

geometry_from : (x : Context) (script : List ScriptLine) (g : Geometry) → x.geometry ≡ Some g → AreFit x script → (context_from x script).geometry ≡ Some g
geometry_from x [] g e h = e
geometry_from x (line ∷ script) g e h = geometry_from (context_after x line) script g (geometry_stays x (effect_of line) g e h.0) h.1

-- the geometry that the reader knows at the end is the one that is meant, and valid
pub record IsGeometry (meant g : Geometry) : Type 0 where
  pub first : g ≡ meant
  pub valid : IsValid g

no_geometry : {A : Type 0} → IsSome (empty_context).geometry → A
no_geometry h = let none : false ≡ true = h in cc

known_by : (script : List ScriptLine) (e : Effect) (g : Geometry) → IsPlaced empty_context e → AreFit (context_by empty_context e) script → (context_from (context_by empty_context e) script).geometry ≡ Some g
    → IsGeometry (geometry_or e (geometry_of script)) g
known_by script (Sizes first) g p h e =
    let both : Some first ≡ Some g = sym (geometry_from (context_by empty_context (Sizes first)) script first refl h) ∙ e in
    let same : first ≡ g = cc in
    record { first = sym same; valid = subst (λ (x : Geometry). IsValid x) same p.1 }
known_by script (Opens c mode) g p h e = no_geometry p.0
known_by script (Feeds c bytes) g p h e = no_geometry p.0
known_by script Serves g p h e = no_geometry p
known_by script (SetsClock now) g p h e = no_geometry p
known_by script (PlansFault c t plan) g p h e = no_geometry p.0

pub geometry_known : (script : List ScriptLine) (g : Geometry) → AreFit empty_context script → (context_of script).geometry ≡ Some g → IsGeometry (geometry_of script) g
geometry_known [] g h e = cc
geometry_known (line ∷ script) g h e = known_by script (effect_of line) g h.0 h.1 e

-- what is known of a script that reads
pub record IsRead (script : List ScriptLine) : Type 0 where
  pub fit : AreFit empty_context script
  pub valid : IsValid (geometry_of script)

whole_read : (script : List ScriptLine) (number : ℕ) (g : Option Geometry) (read : List ScriptLine) → AreFit empty_context script → (context_of script).geometry ≡ g
    → whole script number g ≡ Reads read → IsRead read
whole_read script number None read h k e = cc
whole_read script number (Some g) read h k e =
    let same : script ≡ read = cc in
    let known : IsGeometry (geometry_of script) g = geometry_known script g h k in
    subst (λ (s : List ScriptLine). IsRead s) same (record { fit = h; valid = subst (λ (x : Geometry). IsValid x) known.first known.valid })

goes_read : (script : List ScriptLine) (number : ℕ) (said : Said) (next : List ScriptLine → Reading) (read : List ScriptLine) → AreFit empty_context script → Fit (context_of script) said
    → ((more : List ScriptLine) → AreFit empty_context more → next more ≡ Reads read → IsRead read) → goes_on script number said next ≡ Reads read → IsRead read
goes_read script number Nothing next read h f step e = step script h e
goes_read script number (Line line) next read h f step e = step (script ++ line ∷ []) (fit_more empty_context script line h f) e
goes_read script number (Wrong why) next read h f step e = cc

ends_read : (script : List ScriptLine) (number : ℕ) (rest : List ℕ) (read : List ScriptLine) → AreFit empty_context script → ends_at script number rest ≡ Reads read → IsRead read
ends_read script number [] read h e = whole_read script number (context_of script).geometry read h refl e
ends_read script number (b ∷ bs) read h e = cc

lines_read : (script : List ScriptLine) (number : ℕ) (lines : List (List ℕ)) (rest : List ℕ) (read : List ScriptLine) → AreFit empty_context script → reading_from script number lines rest ≡ Reads read → IsRead read
lines_read script number [] rest read h e = ends_read script number rest read h e
lines_read script number (line ∷ lines) rest read h e =
    goes_read script number (once script (line_says (context_of script) line)) (λ more. reading_from more (number + 1) lines rest) read h (said_fit (context_of script) script line)
    (λ more k q. lines_read more (number + 1) lines rest read k q) e

text_read : (bytes : List ℕ) (big : Bool) (read : List ScriptLine) → (if big then Fails 0 TooBig else reading_from [] 1 (lines_in bytes).0 (lines_in bytes).1) ≡ Reads read → IsRead read
text_read bytes true read e = cc
text_read bytes false read e = lines_read [] 1 (lines_in bytes).0 (lines_in bytes).1 read tt e

-- each line of a script that reads is fit
pub reads_fit : (limit : ℕ) (bytes : List ℕ) (read : List ScriptLine) → reading_of limit bytes ≡ Reads read → AreFit empty_context read
reads_fit limit bytes read e = (text_read bytes (nat_lt limit (length bytes)) read e).fit

-- and its geometry is valid
pub reads_valid : (limit : ℕ) (bytes : List ℕ) (read : List ScriptLine) → reading_of limit bytes ≡ Reads read → IsValid (geometry_of read)
reads_valid limit bytes read e = (text_read bytes (nat_lt limit (length bytes)) read e).valid

-- the same of what the reader answers
pub answer_fit : (limit : ℕ) (bytes : List ℕ) (r : Result (List ScriptLine) ScriptFault) → ReadsAs (reading_of limit bytes) r → IfOk r (λ script. AreFit empty_context script)
answer_fit limit bytes (Ok script) h = reads_fit limit bytes script h
answer_fit limit bytes (Err fault) h = tt

pub answer_valid : (limit : ℕ) (bytes : List ℕ) (r : Result (List ScriptLine) ScriptFault) → ReadsAs (reading_of limit bytes) r → IfOk r (λ script. IsValid (geometry_of script))
answer_valid limit bytes (Ok script) h = reads_valid limit bytes script h
answer_valid limit bytes (Err fault) h = tt
