-- Bytes that are written as pairs of digits, pair by pair.
use Rattle.std.proofs.Common.{◌≡◌, ℕ, ◌+◌, ◌-◌, ◌*◌, ◌/◌, ◌%◌, ◌<◌, ◌≤◌, Bool, true, false, List, [], ◌∷◌, ◌++◌, length, drop, get_or, Option, Some, None, refl, ap, sym, ◌∙◌, subst, arith}
use Rattle.std.specs.Prelude.{All, ◌&&◌, nat_le, if◌then◌else◌}
use Rattle.std.proofs.lemmas.Bool.Decides.{nat_tests}
use Rattle.std.proofs.lemmas.List.Elements.{All-nil, All-cons, All-head, All-tail}
use Rattle.std.proofs.lemmas.List.{append_assoc}
use Rattle.sei_script.specs.Escapes.{hex_digit, hex_value, joined}
use Rattle.sei_script.specs.Hexadecimal.{byte_before, unhexed}
use Rattle.sei_script.specs.Spelling.{hex_text}
use Rattle.sei_script.proofs.EscapeLaws.{hex_value-hex_digit}

joined_one : (bs : List ℕ) (x : ℕ) (o : Option (List ℕ)) → joined bs (joined (x ∷ []) o) ≡ joined (bs ++ x ∷ []) o
joined_one bs x None = refl
joined_one bs x (Some ys) = ap (λ (zs : List ℕ). Some zs) (sym (append_assoc bs (x ∷ []) ys))

-- what a text that begins with two bytes stands for
two : (rest : List ℕ) → 2 ≤ length rest → unhexed rest ≡ byte_before (hex_value (get_or rest 0 0)) (hex_value (get_or rest 1 0)) (unhexed (drop 2 rest))
two [] l = absurd (omega (arith, l))
two (high ∷ []) l = absurd (omega (arith, l))
two (high ∷ low ∷ rest) l = refl

-- a pair of digits more
pub pair_more : (bs rest : List ℕ) (h l : ℕ) (whole : Option (List ℕ)) → 2 ≤ length rest → Some h ≡ hex_value (get_or rest 0 0) → Some l ≡ hex_value (get_or rest 1 0)
    → joined bs (unhexed rest) ≡ whole → joined (bs ++ (16 * h + l) ∷ []) (unhexed (drop 2 rest)) ≡ whole
pair_more bs rest h l whole few p q i =
    sym (joined_one bs (16 * h + l) (unhexed (drop 2 rest)))
    ∙ ap (λ (o : Option ℕ). joined bs (byte_before o (Some l) (unhexed (drop 2 rest)))) p
    ∙ ap (λ (o : Option ℕ). joined bs (byte_before (hex_value (get_or rest 0 0)) o (unhexed (drop 2 rest)))) q
    ∙ sym (ap (joined bs) (two rest few))
    ∙ i

-- bytes that are spelled by digits are read again

pub unhexed-hex_text : (bytes : List ℕ) → All (λ b. b < 256) bytes → unhexed (hex_text bytes) ≡ Some bytes
unhexed-hex_text [] h = refl
unhexed-hex_text (b ∷ bytes) h =
    let small : b < 256 = All-head (λ b. b < 256) b bytes h in
    let whole : 16 * (b / 16) + b % 16 ≡ b = omega arith in
    ap (λ (o : Option ℕ). byte_before o (hex_value (hex_digit (b % 16))) (unhexed (hex_text bytes))) (hex_value-hex_digit (b / 16) (omega arith))
    ∙ ap (λ (o : Option ℕ). byte_before (Some (b / 16)) o (unhexed (hex_text bytes))) (hex_value-hex_digit (b % 16) (omega arith))
    ∙ ap (λ (o : Option (List ℕ)). joined ((16 * (b / 16) + b % 16) ∷ []) o) (unhexed-hex_text bytes (All-tail (λ b. b < 256) b bytes h))
    ∙ ap (λ (x : ℕ). Some (x ∷ bytes)) whole

-- a digit by its value
record DigitOf (b d : ℕ) : Type 0 where
  is : b ≡ hex_digit d
  small : d < 16

digit_of : (b d : ℕ) → hex_value b ≡ Some d → DigitOf b d
digit_of b d e = by (nat_le 48 b && nat_le b 57) (nat_le 97 b && nat_le b 102) refl refl e
  where
    by : (one two : Bool) → (nat_le 48 b && nat_le b 57) ≡ one → (nat_le 97 b && nat_le b 102) ≡ two
        → (if one then Some (b - 48) else (if two then Some (b - 87) else None)) ≡ Some d → DigitOf b d
    by true two p q r =
        let same : b - 48 ≡ d = cc in
        subst (DigitOf b) same (record { is = grind (arith, nat_tests); small = grind (arith, nat_tests) })
    by false true p q r =
        let same : b - 87 ≡ d = cc in
        subst (DigitOf b) same (record { is = grind (arith, nat_tests); small = grind (arith, nat_tests) })
    by false false p q r = cc

-- digits that were read
pub record HexIn (text bytes : List ℕ) : Type 0 where
  pub is : text ≡ hex_text bytes
  pub small : All (λ b. b < 256) bytes

pub hex_cut : (text bytes : List ℕ) → unhexed text ≡ Some bytes → HexIn text bytes
hex_cut [] bytes e = let same : [] ≡ bytes = cc in subst (HexIn []) same (record { is = refl; small = All-nil (λ b. b < 256) })
hex_cut (high ∷ []) bytes e = cc
hex_cut (high ∷ low ∷ rest) bytes e = by (hex_value high) (hex_value low) (unhexed rest) (λ more f. hex_cut rest more f) refl refl refl e
  where
    by : (a b : Option ℕ) (o : Option (List ℕ)) → ((more : List ℕ) → unhexed rest ≡ Some more → HexIn rest more) → hex_value high ≡ a → hex_value low ≡ b → unhexed rest ≡ o → byte_before a b o ≡ Some bytes → HexIn (high ∷ low ∷ rest) bytes
    by None b o step p q r h = cc
    by (Some x) None o step p q r h = cc
    by (Some x) (Some y) None step p q r h = cc
    by (Some x) (Some y) (Some more) step p q r h =
        let one : DigitOf high x = digit_of high x p in
        let two : DigitOf low y = digit_of low y q in
        let later : HexIn rest more = step more r in
        let same : (16 * x + y) ∷ more ≡ bytes = cc in
        let front : (16 * x + y) / 16 ≡ x = omega (arith, two.small) in
        let last : (16 * x + y) % 16 ≡ y = omega (arith, two.small) in
        let tens : high ≡ hex_digit ((16 * x + y) / 16) = one.is ∙ ap hex_digit (sym front) in
        let ones : low ≡ hex_digit ((16 * x + y) % 16) = two.is ∙ ap hex_digit (sym last) in
        subst (HexIn (high ∷ low ∷ rest)) same (record {
          is = ap (λ (d : ℕ). d ∷ low ∷ rest) tens ∙ ap (λ (d : ℕ). hex_digit ((16 * x + y) / 16) ∷ d ∷ rest) ones ∙ ap (λ (t : List ℕ). hex_digit ((16 * x + y) / 16) ∷ hex_digit ((16 * x + y) % 16) ∷ t) later.is;
          small = All-cons (λ b. b < 256) (16 * x + y) more (omega (arith, one.small, two.small)) later.small;
        })
