-- Numbers that are read, digit by digit.
use Rattle.std.proofs.Common.{◌≡◌, ℕ, ◌+◌, ◌-◌, ◌*◌, ◌<◌, ◌≤◌, Bool, true, false, cond, List, [], ◌∷◌, length, drop, refl, sym, ap, subst, arith, Some, None, drop-cons, add-one}
use Rattle.std.specs.Prelude.{◌&&◌, nat_le, slice_index}
use Rattle.std.specs.List.{list_all}
use Rattle.std.proofs.lemmas.Bool.{leb-true}
use Rattle.std.proofs.lemmas.Bool.Decides.{nat_tests}
use Rattle.mc_model.specs.Numbers.{is_digit, value_after, decimal_value, number_upto}

-- a number that is read is at most the limit
pub number_within : (max : ℕ) (w : List ℕ) (n : ℕ) → number_upto max w ≡ Some n → n ≤ max
number_within max [] n e = cc
number_within max (b ∷ bs) n e = by_tests (list_all is_digit (b ∷ bs)) (nat_le (decimal_value (b ∷ bs)) max) refl e
  where
    by_tests : (d t : Bool) → nat_le (decimal_value (b ∷ bs)) max ≡ t → cond (d && t) (Some (decimal_value (b ∷ bs))) None ≡ Some n → n ≤ max
    by_tests true true t f = let same : decimal_value (b ∷ bs) ≡ n = cc in subst (λ m. m ≤ max) same (leb-true _ _ t)
    by_tests true false t f = cc
    by_tests false d t f = cc

-- more digits spell no smaller number
grows : (n : ℕ) (w : List ℕ) → n ≤ value_after n w
grows n [] = omega arith
grows n (b ∷ bs) = omega (arith, grows (10 * n + (b - 48)) bs)

pub no_number : (max : ℕ) (w : List ℕ) → list_all is_digit w ≡ false → number_upto max w ≡ None
no_number max [] e = refl
no_number max (b ∷ bs) e = simp e

pub too_great : (max : ℕ) (w : List ℕ) → max < decimal_value w → number_upto max w ≡ None
too_great max [] h = refl
too_great max (b ∷ bs) h = by_digits (list_all is_digit (b ∷ bs))
  where
    great : nat_le (decimal_value (b ∷ bs)) max ≡ false
    great = grind (arith, nat_tests)

    by_digits : (d : Bool) → cond (d && nat_le (decimal_value (b ∷ bs)) max) (Some (decimal_value (b ∷ bs))) None ≡ None
    by_digits true = simp great
    by_digits false = refl

pub a_number : (max : ℕ) (w : List ℕ) (n : ℕ) → 0 < length w → list_all is_digit w ≡ true → n ≡ decimal_value w → n ≤ max → number_upto max w ≡ Some n
a_number max [] n some d e le = absurd (omega arith)
a_number max (b ∷ bs) n some d e le =
    let small : nat_le (decimal_value (b ∷ bs)) max ≡ true = within (decimal_value (b ∷ bs)) (subst (λ m. m ≤ max) e le) in
    simp (d, small) (ap (λ (m : ℕ). Some m) (sym e))
  where
    within : (m : ℕ) → m ≤ max → nat_le m max ≡ true
    within m h = grind (arith, nat_tests)

-- one digit more

pub next_value : (n i : ℕ) (w : List ℕ) → i < length w → value_after n (drop i w) ≡ value_after (10 * n + (slice_index w i - 48)) (drop (i + 1) w)
next_value n i w h = rw (add-one, drop-cons w i 0) refl

pub next_digit : (i : ℕ) (w : List ℕ) → i < length w → list_all is_digit (drop i w) ≡ (is_digit (slice_index w i) && list_all is_digit (drop (i + 1) w))
next_digit i w h = rw (add-one, drop-cons w i 0) refl

pub greater : (max n m i : ℕ) (w : List ℕ) → i < length w → value_after n (drop i w) ≡ m → max < 10 * n + (slice_index w i - 48) → max < m
greater max n m i w h e lt = omega (arith, grows (10 * n + (slice_index w i - 48)) (drop (i + 1) w), next_value n i w h)
