-- Which slots are free at a moment.
use Rattle.std.specs.Prelude.{◌≡◌, ℕ, ◌<◌, Bool, true, false, not, ◌||◌, ◌&&◌, ◌==◌, nat_le, List}
use Rattle.mc_model.specs.declared.geometry.Geometry.{Geometry}
use Rattle.sei_words.specs.Layout.{field, used_offset, expiry_offset}

-- the item has expired: its expiry is not 0, which is never, and the moment has reached it
abbrev pub has_expired : ℕ → ℕ → Bool
has_expired moment expiry = not (expiry == 0) && nat_le expiry moment

-- the slot is not used, or its item has expired
abbrev pub is_free : Geometry → List ℕ → ℕ → ℕ → Bool
is_free g words moment i = field g words i used_offset == 0 || has_expired moment (field g words i expiry_offset)

abbrev pub IsFree : Geometry → List ℕ → ℕ → ℕ → Type 0
IsFree g words moment i = is_free g words moment i ≡ true

-- the slot holds an item that is live
abbrev pub IsTaken : Geometry → List ℕ → ℕ → ℕ → Type 0
IsTaken g words moment i = is_free g words moment i ≡ false

-- the lowest free slot
pub record IsFirstFree (g : Geometry) (words : List ℕ) (moment i : ℕ) : Type 0 where
  pub within : i < g.slots
  pub free : IsFree g words moment i
  pub lowest : (j : ℕ) → j < i → IsTaken g words moment j

-- no slot is free
abbrev pub IsFull : Geometry → List ℕ → ℕ → Type 0
IsFull g words moment = (i : ℕ) → i < g.slots → IsTaken g words moment i
