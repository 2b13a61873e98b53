-- What it means that slots hold a map, whatever their layout and whatever an item is.
use Rattle.std.specs.Prelude.{◌≡◌, ℕ, ◌<◌, List, Option, Some}

-- the taken ones of n slots, each read as a key and an item, are exactly the map, each key in one slot
pub record Holds {Item : Type 0} (n : ℕ) (Taken : ℕ → Type 0) (Has : ℕ → List ℕ → Item → Type 0) (map : List ℕ → Option Item) : Type 0 where
  pub each : (i : ℕ) → i < n → Taken i → (k : List ℕ) × (x : Item) × Has i k x × (map k ≡ Some x)
  pub every : (k : List ℕ) (x : Item) → map k ≡ Some x → (i : ℕ) × (i < n) × Taken i × Has i k x
  pub one : (i j : ℕ) → i < n → j < n → Taken i → Taken j → (k : List ℕ) (x y : Item) → Has i k x → Has j k y → i ≡ j
