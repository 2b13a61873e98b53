-- What output words render to is bytes.
use Rattle.std.proofs.Common.{◌≡◌, ℕ, zero, suc, ◌+◌, ◌/◌, ◌%◌, ◌^◌, ◌<◌, Bool, true, false, cond, List, [], ◌∷◌, ◌++◌, length, Option, Some, None, refl, subst, arith}
use Rattle.std.specs.Prelude.{codes, nat_le, nat_lt, ◌==◌, ◌&&◌, slice_index_or, drop}
use Rattle.std.specs.Fmt.{decimal}
use Rattle.std.specs.Int.{w64, to_be_bytes, byte_at, bytes_high_first}
use Rattle.std.specs.List.{flat_map, list_all}
use Rattle.std.specs.Option.{option_map, option_and_then}
use Rattle.std.specs.Fmt.{digits, digits_onto}
use Rattle.std.proofs.lemmas.Bool.{and_parts, ltb-true}
use Rattle.std.proofs.lemmas.List.Elements.{All-nil, All-cons, All-append, All-take}
use Rattle.mc_model.specs.Packed.{AreBytes, words_for, unpacked}
use Rattle.mc_model.specs.Replies.{unique_text}
use Rattle.mc_model.specs.Texts.{line, texts, text_line}
use Rattle.mc_render.specs.Outputs.{output_text, first_bytes, first_text, first_value, first_number, first_output}
use Rattle.mc_render.specs.Rendering.{outputs_upto, rendered}
use Rattle.mc_render.specs.Shown.{shown}
use Rattle.mc_render.specs.declared.output.Output.{Output}
use Rattle.mc_render.specs.declared.output.Output.TheVariants.{Text, Value}

abbrev IsByte : ℕ → Type 0
IsByte b = b < 256

no_bytes : AreBytes []
no_bytes = All-nil IsByte

more_bytes : (b : ℕ) (bs : List ℕ) → b < 256 → AreBytes bs → AreBytes (b ∷ bs)
more_bytes = All-cons IsByte

both_bytes : (xs ys : List ℕ) → AreBytes xs → AreBytes ys → AreBytes (xs ++ ys)
both_bytes = All-append IsByte

-- a test that computes on a literal list
tested : (bs : List ℕ) → list_all (λ b. nat_lt b 256) bs ≡ true → AreBytes bs
tested [] h = no_bytes
tested (b ∷ bs) h =
    let y = and_parts (nat_lt b 256) (list_all (λ b. nat_lt b 256) bs) h in
    more_bytes b bs (ltb-true b 256 y.0) (tested bs y.1)

-- The parts of a reply.

line_bytes : (bs : List ℕ) → AreBytes bs → AreBytes (line bs)
line_bytes bs h = both_bytes bs (13 ∷ 10 ∷ []) h (tested (13 ∷ 10 ∷ []) refl)

texts_bytes : (ts : List (List ℕ)) (n : ℕ) → list_all (λ t. list_all (λ b. nat_lt b 256) t) ts ≡ true → AreBytes (slice_index_or ts n [])
texts_bytes [] n h = no_bytes
texts_bytes (t ∷ ts) zero h = tested t (and_parts (list_all (λ b. nat_lt b 256) t) (list_all (λ t. list_all (λ b. nat_lt b 256) t) ts) h).0
texts_bytes (t ∷ ts) (suc n) h = texts_bytes ts n (and_parts (list_all (λ b. nat_lt b 256) t) (list_all (λ t. list_all (λ b. nat_lt b 256) t) ts) h).1

text_bytes : (n : ℕ) → AreBytes (text_line n)
unfolding text_line
text_bytes n = line_bytes (slice_index_or texts n []) (texts_bytes texts n refl)

glyph_small : (d : ℕ) → cond (nat_lt (d % 10) 10) (48 + d % 10) (87 + d % 10) < 256
glyph_small d = by_test (nat_lt (d % 10) 10)
  where
    by_test : (t : Bool) → cond t (48 + d % 10) (87 + d % 10) < 256
    by_test true = omega arith
    by_test false = omega arith

digits_bytes : (k n : ℕ) (acc : List ℕ) → AreBytes acc → AreBytes (digits_onto k 10 false n acc)
digits_bytes zero n acc h = h
digits_bytes (suc k) n acc h =
    let acc' = cond (nat_lt (n % 10) 10) (48 + n % 10) (87 + n % 10) ∷ acc in
    let h' : AreBytes acc' = more_bytes _ acc (glyph_small n) h in
    by_test (n / 10 == 0) acc' h' (digits_bytes k (n / 10) acc' h')
  where
    by_test : (t : Bool) (acc' : List ℕ) → AreBytes acc' → AreBytes (digits_onto k 10 false (n / 10) acc') → AreBytes (cond t acc' (digits_onto k 10 false (n / 10) acc'))
    by_test true acc' h more = h
    by_test false acc' h more = more

decimal_bytes : (n : ℕ) → AreBytes (decimal n)
unfolding digits
decimal_bytes n = digits_bytes 64 n [] no_bytes

unique_bytes : (with_unique : Bool) (n : ℕ) → AreBytes (unique_text with_unique n)
unique_bytes true n = both_bytes (codes " ") (decimal n) (tested (codes " ") refl) (decimal_bytes n)
unique_bytes false n = no_bytes

byte_small : (i n : ℕ) → byte_at i n < 256
byte_small zero n = omega arith
byte_small (suc i) n = by_rest (n / 256 ^ suc i)
  where
    by_rest : (m : ℕ) → m % 256 < 256
    by_rest m = omega arith

high_bytes : (k n : ℕ) → AreBytes (bytes_high_first k n)
high_bytes zero n = no_bytes
high_bytes (suc k) n = more_bytes (byte_at k n) (bytes_high_first k n) (byte_small k n) (high_bytes k n)

word_bytes : (w : ℕ) → AreBytes (to_be_bytes w64 w)
word_bytes w = high_bytes 8 w

words_bytes : (ws : List ℕ) → AreBytes (flat_map (to_be_bytes w64) ws)
words_bytes [] = no_bytes
words_bytes (w ∷ ws) = both_bytes (to_be_bytes w64 w) (flat_map (to_be_bytes w64) ws) (word_bytes w) (words_bytes ws)

unpacked_bytes : (n : ℕ) (ws : List ℕ) → AreBytes (unpacked n ws)
unpacked_bytes n ws = All-take IsByte n (flat_map (to_be_bytes w64) ws) (words_bytes ws)

-- The outputs.

value_bytes : (with_unique : Bool) (key : List ℕ) (flags unique : ℕ) (value : List ℕ) → AreBytes key → AreBytes value → AreBytes (output_text (Value (shown with_unique key flags unique value)))
value_bytes with_unique key flags unique value hk hv =
    let space = codes " " in
    let named = codes "VALUE " ++ key in
    let flagged = named ++ space ++ decimal flags in
    let long = flagged ++ space ++ decimal (length value) in
    let head = long ++ unique_text with_unique unique in
    let is_space = tested space refl in
    let h1 = both_bytes (codes "VALUE ") key (tested (codes "VALUE ") refl) hk in
    let h2 = both_bytes (named ++ space) (decimal flags) (both_bytes named space h1 is_space) (decimal_bytes flags) in
    let h3 = both_bytes (flagged ++ space) (decimal (length value)) (both_bytes flagged space h2 is_space) (decimal_bytes (length value)) in
    let h4 = both_bytes long (unique_text with_unique unique) h3 (unique_bytes with_unique unique) in
    both_bytes (line head) (line value) (line_bytes head h4) (line_bytes value hv)

-- the bytes of an output that is there
abbrev IsOfBytes : Option (Output × List ℕ) → Type 0
IsOfBytes None = Unit {0}
IsOfBytes (Some p) = AreBytes (output_text p.0)

abbrev FirstOfBytes : Option (List ℕ × List ℕ) → Type 0
FirstOfBytes None = Unit {0}
FirstOfBytes (Some p) = AreBytes p.0

first_of_bytes : (n : ℕ) (ws : List ℕ) → FirstOfBytes (first_bytes n ws)
first_of_bytes n ws = by_test (nat_le (words_for n) (length ws))
  where
    by_test : (t : Bool) → FirstOfBytes (cond t (Some (unpacked n ws, drop (words_for n) ws)) None)
    by_test true = unpacked_bytes n ws
    by_test false = tt

text_of_bytes : (ws : List ℕ) → IsOfBytes (first_text ws)
text_of_bytes [] = tt
text_of_bytes (n ∷ ws) = by_test (nat_lt n 17)
  where
    by_test : (t : Bool) → IsOfBytes (cond t (Some (Text n, ws)) None)
    by_test true = text_bytes n
    by_test false = tt

number_of_bytes : (ws : List ℕ) → IsOfBytes (first_number ws)
number_of_bytes [] = tt
number_of_bytes (n ∷ ws) = line_bytes (decimal n) (decimal_bytes n)

value_of_bytes : (limit : ℕ) (ws : List ℕ) → IsOfBytes (first_value limit ws)
value_of_bytes limit [] = tt
value_of_bytes limit (a ∷ []) = tt
value_of_bytes limit (a ∷ b ∷ []) = tt
value_of_bytes limit (a ∷ b ∷ c ∷ []) = tt
value_of_bytes limit (a ∷ b ∷ c ∷ d ∷ []) = tt
value_of_bytes limit (cas ∷ key_length ∷ flags ∷ value_length ∷ unique ∷ ws) =
    by_test (nat_le cas 1 && nat_le 1 key_length && nat_le key_length 250 && nat_le value_length limit) (first_bytes key_length ws) (first_of_bytes key_length ws)
  where
    by_value : (k : List ℕ × List ℕ) → AreBytes k.0 → (o : Option (List ℕ × List ℕ)) → FirstOfBytes o → IsOfBytes (option_map (λ v. (Value (shown (cas == 1) k.0 flags unique v.0), v.1)) o)
    by_value k hk None h = tt
    by_value k hk (Some v) h = value_bytes (cas == 1) k.0 flags unique v.0 hk h

    by_key : (o : Option (List ℕ × List ℕ)) → FirstOfBytes o → IsOfBytes (option_and_then (λ k. option_map (λ v. (Value (shown (cas == 1) k.0 flags unique v.0), v.1)) (first_bytes value_length k.1)) o)
    by_key None h = tt
    by_key (Some k) h = by_value k h (first_bytes value_length k.1) (first_of_bytes value_length k.1)

    by_test : (t : Bool) (o : Option (List ℕ × List ℕ)) → FirstOfBytes o → IsOfBytes (cond t (option_and_then (λ k. option_map (λ v. (Value (shown (cas == 1) k.0 flags unique v.0), v.1)) (first_bytes value_length k.1)) o) None)
    by_test true o h = by_key o h
    by_test false o h = tt

output_of_bytes : (limit : ℕ) (ws : List ℕ) → IsOfBytes (first_output limit ws)
output_of_bytes limit [] = tt
output_of_bytes limit (kind ∷ ws) = by_kind (kind == 0) (kind == 1) (kind == 2)
  where
    by_kind : (a b c : Bool) → IsOfBytes (cond a (first_text ws) (cond b (first_value limit ws) (cond c (first_number ws) None)))
    by_kind true b c = text_of_bytes ws
    by_kind false true c = value_of_bytes limit ws
    by_kind false false true = number_of_bytes ws
    by_kind false false false = tt

abbrev AllOfBytes : Option (List Output) → Type 0
AllOfBytes None = Unit {0}
AllOfBytes (Some os) = AreBytes (flat_map output_text os)

outputs_of_bytes : (most limit : ℕ) (ws : List ℕ) → AllOfBytes (outputs_upto most limit ws)
outputs_of_bytes most limit [] = no_bytes
outputs_of_bytes zero limit (w ∷ ws) = tt
outputs_of_bytes (suc most) limit (w ∷ ws) = by_first (first_output limit (w ∷ ws)) (output_of_bytes limit (w ∷ ws)) (λ vs. outputs_of_bytes most limit vs)
  where
    by_rest : (x : Output) → AreBytes (output_text x) → (o : Option (List Output)) → AllOfBytes o → AllOfBytes (option_map (λ xs. x ∷ xs) o)
    by_rest x hx None h = tt
    by_rest x hx (Some xs) h = both_bytes (output_text x) (flat_map output_text xs) hx h

    by_first : (o : Option (Output × List ℕ)) → IsOfBytes o → ((vs : List ℕ) → AllOfBytes (outputs_upto most limit vs)) → AllOfBytes (option_and_then (λ p. option_map (λ xs. p.0 ∷ xs) (outputs_upto most limit p.1)) o)
    by_first None h more = tt
    by_first (Some p) h more = by_rest p.0 h (outputs_upto most limit p.1) (more p.1)

pub rendered_bytes : (limit : ℕ) (ws bs : List ℕ) → rendered limit ws ≡ Some bs → AreBytes bs
unfolding rendered
rendered_bytes limit ws bs is = by_outputs (outputs_upto (length ws) limit ws) (outputs_of_bytes (length ws) limit ws) is
  where
    by_outputs : (o : Option (List Output)) → AllOfBytes o → option_map (flat_map output_text) o ≡ Some bs → AreBytes bs
    by_outputs None h e = absurd (cc)
    by_outputs (Some os) h e = let same : flat_map output_text os ≡ bs = cc in subst AreBytes same h
