-- What an escaped text stands for is what the places in it lead to.
use Rattle.std.proofs.Common.{◌≡◌, ◌≢◌, ℕ, ◌+◌, ◌*◌, Bool, true, false, List, [], ◌∷◌, ◌++◌, Option, Some, None, refl, ap, ◌∙◌, subst, arith}
use Rattle.std.specs.Prelude.{⊤, if◌then◌else◌, ◌==◌}
use Rattle.std.specs.Option.{option_to_list}
use Rattle.std.proofs.lemmas.Bool.Decides.{nat_tests}
use Rattle.sei_script.specs.Escapes.{hex_value, at_digit, step_of, joined, unescaped_behind, unescaped_from, unescaped}
use Rattle.sei_script.specs.Unescapes.{Unescapes}
use Rattle.sei_script.specs.Unescapes.Unescapes.{Empty, Itself, CarriageReturn, LineFeed, Backslash, Hexadecimal}
use Rattle.sei_script.specs.declared.escapes.Step.{Step}
use Rattle.sei_script.specs.declared.escapes.Place.{Place}
use Rattle.sei_script.specs.declared.escapes.Place.TheVariants.{Plain, Escape, High, Low}
use Rattle.sei_script.proofs.EscapeLaws.{Reads, byte_is, reads_one, reads_plain, reads_digits}

no_backslash : (b : ℕ) → b ≢ 92 → (b == 92) ≡ false
no_backslash b h = grind (arith, nat_tests)

other_byte : (b c : ℕ) → (b == c) ≡ false → b ≢ c
other_byte b c e = grind (arith, nat_tests)

-- text that is read as a byte, and then more text
read : (text bytes front rest more : List ℕ) (b : ℕ) → Reads b front → text ≡ front ++ rest → bytes ≡ b ∷ more → unescaped rest ≡ Some more → unescaped text ≡ Some bytes
read text bytes front rest more b reads t s h = rw (t, s) (reads rest ∙ ap (joined (b ∷ [])) h)

pub stands_unescaped : (text bytes : List ℕ) → Unescapes text bytes → unescaped text ≡ Some bytes
stands_unescaped text bytes (Empty t s) = rw (t, s) refl
stands_unescaped text bytes (Itself rest more b other t s h) = read text bytes (b ∷ []) rest more b (reads_plain b (no_backslash b other)) t s (stands_unescaped rest more h)
stands_unescaped text bytes (CarriageReturn rest more t s h) = read text bytes (92 ∷ 114 ∷ []) rest more 13 (λ x. reads_one 13 13 (unescaped_from Plain x) refl) t s (stands_unescaped rest more h)
stands_unescaped text bytes (LineFeed rest more t s h) = read text bytes (92 ∷ 110 ∷ []) rest more 10 (λ x. reads_one 10 10 (unescaped_from Plain x) refl) t s (stands_unescaped rest more h)
stands_unescaped text bytes (Backslash rest more t s h) = read text bytes (92 ∷ 92 ∷ []) rest more 92 (λ x. reads_one 92 92 (unescaped_from Plain x) refl) t s (stands_unescaped rest more h)
stands_unescaped text bytes (Hexadecimal rest more h l high low p q t s u) =
    read text bytes (92 ∷ 120 ∷ h ∷ l ∷ []) rest more (16 * high + low) (reads_digits h l high low p q) t s (stands_unescaped rest more u)

-- what led to a place, and then this text, stands for these bytes
abbrev Means : Place → List ℕ → List ℕ → Type 0
Means Plain text bytes = Unescapes text bytes
Means Escape text bytes = Unescapes (92 ∷ text) bytes
Means High text bytes = Unescapes (92 ∷ 120 ∷ text) bytes
Means (Low high) text bytes = (h : ℕ) → hex_value h ≡ Some high → Unescapes (92 ∷ 120 ∷ h ∷ text) bytes

-- a step keeps the meaning
abbrev Keeps : Place → ℕ → List ℕ → Option Step → Type 0
Keeps place b rest None = ⊤
Keeps place b rest (Some step) = (more : List ℕ) → Means step.place rest more → Means place (b ∷ rest) (option_to_list step.gives ++ more)

keeps_plain : (b : ℕ) (rest : List ℕ) (backslash : Bool) → (b == 92) ≡ backslash
    → Keeps Plain b rest (if backslash then Some (record { place = Escape; gives = None }) else Some (record { place = Plain; gives = Some b }))
keeps_plain b rest true e = λ more m. subst (λ x. Unescapes (x ∷ rest) more) (byte_is b 92 e) m
keeps_plain b rest false e = λ more m. Itself rest more b (other_byte b 92 e) refl refl m

keeps_escape : (b : ℕ) (rest : List ℕ) (cr lf backslash hex : Bool) → (b == 114) ≡ cr → (b == 110) ≡ lf → (b == 92) ≡ backslash → (b == 120) ≡ hex
    → Keeps Escape b rest (if cr then Some (record { place = Plain; gives = Some 13 })
    else (if lf then Some (record { place = Plain; gives = Some 10 })
    else (if backslash then Some (record { place = Plain; gives = Some 92 })
    else (if hex then Some (record { place = High; gives = None }) else None))))
keeps_escape b rest true lf backslash hex p q r s = λ more m. subst (λ x. Unescapes (92 ∷ x ∷ rest) (13 ∷ more)) (byte_is b 114 p) (CarriageReturn rest more refl refl m)
keeps_escape b rest false true backslash hex p q r s = λ more m. subst (λ x. Unescapes (92 ∷ x ∷ rest) (10 ∷ more)) (byte_is b 110 q) (LineFeed rest more refl refl m)
keeps_escape b rest false false true hex p q r s = λ more m. subst (λ x. Unescapes (92 ∷ x ∷ rest) (92 ∷ more)) (byte_is b 92 r) (Backslash rest more refl refl m)
keeps_escape b rest false false false true p q r s = λ more m. subst (λ x. Unescapes (92 ∷ x ∷ rest) more) (byte_is b 120 s) m
keeps_escape b rest false false false false p q r s = tt

keeps_high : (b : ℕ) (rest : List ℕ) (digit : Option ℕ) → hex_value b ≡ digit → Keeps High b rest (at_digit digit (λ d. record { place = Low d; gives = None }))
keeps_high b rest None e = tt
keeps_high b rest (Some d) e = λ more m. m b e

keeps_low : (b high : ℕ) (rest : List ℕ) (digit : Option ℕ) → hex_value b ≡ digit
    → Keeps (Low high) b rest (at_digit digit (λ d. record { place = Plain; gives = Some (16 * high + d) }))
keeps_low b high rest None e = tt
keeps_low b high rest (Some d) e = λ more m h p. Hexadecimal rest more h b high d p e refl refl m

step_keeps : (place : Place) (b : ℕ) (rest : List ℕ) → Keeps place b rest (step_of place b)
step_keeps Plain b rest = keeps_plain b rest (b == 92) refl
step_keeps Escape b rest = keeps_escape b rest (b == 114) (b == 110) (b == 92) (b == 120) refl refl refl refl
step_keeps High b rest = keeps_high b rest (hex_value b) refl
step_keeps (Low high) b rest = keeps_low b high rest (hex_value b) refl

-- bytes in front of more bytes
joined_some : (front : List ℕ) (o : Option (List ℕ)) (bytes : List ℕ) → joined front o ≡ Some bytes → (more : List ℕ) × (o ≡ Some more) × (front ++ more ≡ bytes)
joined_some front None bytes e = cc
joined_some front (Some more) bytes e = (more, refl, cc)

behind : (place : Place) (b : ℕ) (rest bytes : List ℕ) (step : Option Step) → Keeps place b rest step
    → ((p : Place) (more : List ℕ) → unescaped_from p rest ≡ Some more → Means p rest more)
    → unescaped_behind step (λ p. unescaped_from p rest) ≡ Some bytes → Means place (b ∷ rest) bytes
behind place b rest bytes None keeps means e = cc
behind place b rest bytes (Some step) keeps means e =
    let j : (more : List ℕ) × (unescaped_from step.place rest ≡ Some more) × (option_to_list step.gives ++ more ≡ bytes) = joined_some (option_to_list step.gives) (unescaped_from step.place rest) bytes e in
    subst (Means place (b ∷ rest)) j.2 (keeps j.0 (means step.place j.0 j.1))

means_from : (place : Place) (text bytes : List ℕ) → unescaped_from place text ≡ Some bytes → Means place text bytes
means_from Plain [] bytes e = Empty refl cc
means_from Escape [] bytes e = cc
means_from High [] bytes e = cc
means_from (Low high) [] bytes e = cc
means_from place (b ∷ rest) bytes e = behind place b rest bytes (step_of place b) (step_keeps place b rest) (λ p more h. means_from p rest more h) e

pub unescaped_stands : (text bytes : List ℕ) → unescaped text ≡ Some bytes → Unescapes text bytes
unescaped_stands text bytes e = means_from Plain text bytes e
