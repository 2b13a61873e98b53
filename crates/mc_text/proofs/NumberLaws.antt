-- Numbers that a line has are within their limits.
use Rattle.std.proofs.Common.{◌≡◌, ℕ, ◌-◌, ◌≤◌, ◌^◌, Bool, true, false, cond, List, [], ◌∷◌, subst, ap, refl, Option, Some, None}
use Rattle.std.specs.Prelude.{not, ◌&&◌, ◌==◌}
use Rattle.mc_model.specs.Numbers.{number_upto}
use Rattle.mc_model.proofs.Public.{number_within}
use Rattle.mc_text.specs.Fields.{signed, exptime_of}

signed_within : (max : ℕ) (negative : Bool) (o : Option ℕ) (e : Bool × ℕ) → ((n : ℕ) → o ≡ Some n → n ≤ max) → signed negative o ≡ Some e → e.1 ≤ max
signed_within max negative None e h f = cc
signed_within max negative (Some n) e h f = let same : ◌≡◌ {A = Bool × ℕ} (negative && not (n == 0), n) e = cc in subst (λ m. m ≤ max) (ap (λ (p : Bool × ℕ). p.1) same) (h n refl)

pub exptime_within : (w : List ℕ) (e : Bool × ℕ) → exptime_of w ≡ Some e → e.1 ≤ 2 ^ 63 - 1
exptime_within [] e f = cc
exptime_within (b ∷ bs) e f = by_test (b == 45) f
  where
    by_test : (t : Bool) → cond t (signed true (number_upto (2 ^ 63 - 1) bs)) (signed false (number_upto (2 ^ 63 - 1) (b ∷ bs))) ≡ Some e → e.1 ≤ 2 ^ 63 - 1
    by_test true g = signed_within (2 ^ 63 - 1) true (number_upto (2 ^ 63 - 1) bs) e (number_within (2 ^ 63 - 1) bs) g
    by_test false g = signed_within (2 ^ 63 - 1) false (number_upto (2 ^ 63 - 1) (b ∷ bs)) e (number_within (2 ^ 63 - 1) (b ∷ bs)) g
