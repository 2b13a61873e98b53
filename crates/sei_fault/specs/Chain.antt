-- Many steps, one after the other.
use Rattle.std.specs.Prelude.{◌≡◌, ℕ, zero, suc}

-- n steps lead from x to z
abbrev pub Chain : {X : Type 0} → (X → X → Type 0) → ℕ → X → X → Type 0
Chain Step zero x z = z ≡ x
Chain Step (suc n) x z = (y : _) × Chain Step n x y × Step y z
