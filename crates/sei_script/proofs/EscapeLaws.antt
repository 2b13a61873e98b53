-- What is printed can be read again.
use Rattle.std.proofs.Common.{◌≡◌, ℕ, suc, ◌+◌, ◌*◌, ◌/◌, ◌%◌, ◌<◌, Bool, true, false, get_or, List, [], ◌∷◌, ◌++◌, Option, Some, None, refl, ap, ◌∙◌, subst, arith}
use Rattle.std.specs.Prelude.{if◌then◌else◌, ◌==◌, ◌&&◌, nat_le}
use Rattle.std.proofs.lemmas.Bool.Decides.{nat_tests}
use Rattle.sei_script.specs.Escapes.{hex_value, hex_digit, joined, unescaped_from, unescaped, escape_of, escaped}
use Rattle.sei_script.specs.declared.escapes.Place.TheVariants.{Plain}

joined_none : (o : Option (List ℕ)) → joined [] o ≡ o
joined_none None = refl
joined_none (Some bytes) = refl

pub hex_value-hex_digit : (n : ℕ) → n < 16 → hex_value (hex_digit n) ≡ Some n
hex_value-hex_digit n h = grind (arith, nat_tests)

-- a byte as it is printed, and more text
abbrev pub Reads : ℕ → List ℕ → Type 0
Reads b text = (more : List ℕ) → unescaped_from Plain (text ++ more) ≡ joined (b ∷ []) (unescaped_from Plain more)

pub byte_is : (b c : ℕ) → (b == c) ≡ true → c ≡ b
byte_is b c e = grind (arith, nat_tests)

-- an escape that gives one byte
pub reads_one : (b c : ℕ) (rest : Option (List ℕ)) → c ≡ b → joined [] (joined (c ∷ []) rest) ≡ joined (b ∷ []) rest
reads_one b c rest e = joined_none (joined (c ∷ []) rest) ∙ ap (λ x. joined (x ∷ []) rest) e

pub reads_plain : (b : ℕ) → (b == 92) ≡ false → Reads b (b ∷ [])
reads_plain b h more = rw h refl

pub reads_digits : (h l high low : ℕ) → hex_value h ≡ Some high → hex_value l ≡ Some low → Reads (16 * high + low) (92 ∷ 120 ∷ h ∷ l ∷ [])
reads_digits h l high low p q more =
    let rest : Option (List ℕ) = unescaped_from Plain more in
    let byte : List ℕ = (16 * high + low) ∷ [] in
    rw (p, q) (joined_none (joined [] (joined [] (joined byte rest))) ∙ joined_none (joined [] (joined byte rest)) ∙ joined_none (joined byte rest))

reads_hex : (b : ℕ) → b < 256 → Reads b (92 ∷ 120 ∷ hex_digit (b / 16) ∷ hex_digit (b % 16) ∷ [])
reads_hex b h =
    let same : 16 * (b / 16) + b % 16 ≡ b = omega arith in
    let high : hex_value (hex_digit (b / 16)) ≡ Some (b / 16) = hex_value-hex_digit (b / 16) (omega arith) in
    let low : hex_value (hex_digit (b % 16)) ≡ Some (b % 16) = hex_value-hex_digit (b % 16) (omega arith) in
    subst (λ x. Reads x (92 ∷ 120 ∷ hex_digit (b / 16) ∷ hex_digit (b % 16) ∷ [])) same (reads_digits (hex_digit (b / 16)) (hex_digit (b % 16)) (b / 16) (b % 16) high low)

reads_by : (b : ℕ) (cr lf backslash shown : Bool) → b < 256 → (b == 13) ≡ cr → (b == 10) ≡ lf → (b == 92) ≡ backslash
    → Reads b (if cr then 92 ∷ 114 ∷ []
    else (if lf then 92 ∷ 110 ∷ []
    else (if backslash then 92 ∷ 92 ∷ []
    else (if shown then b ∷ []
    else 92 ∷ 120 ∷ hex_digit (b / 16) ∷ hex_digit (b % 16) ∷ []))))
reads_by b true lf backslash shown h p q r = λ more. reads_one b 13 (unescaped_from Plain more) (byte_is b 13 p)
reads_by b false true backslash shown h p q r = λ more. reads_one b 10 (unescaped_from Plain more) (byte_is b 10 q)
reads_by b false false true shown h p q r = λ more. reads_one b 92 (unescaped_from Plain more) (byte_is b 92 r)
reads_by b false false false true h p q r = reads_plain b r
reads_by b false false false false h p q r = reads_hex b h

reads_byte : (b : ℕ) → b < 256 → Reads b (escape_of b)
reads_byte b h = reads_by b (b == 13) (b == 10) (b == 92) (nat_le 32 b && nat_le b 126) h refl refl refl

-- bytes that are printed can be read again
pub unescaped-escaped : (bytes : List ℕ) → ((k : ℕ) → get_or bytes k 0 < 256) → unescaped (escaped bytes) ≡ Some bytes
unescaped-escaped [] h = refl
unescaped-escaped (b ∷ bytes) h = reads_byte b (h 0) (escaped bytes) ∙ ap (joined (b ∷ [])) (unescaped-escaped bytes (λ k. h (suc k)))
