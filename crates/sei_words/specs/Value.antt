-- The value words of a slot, and what does not change when one slot is written.
use Rattle.std.specs.Prelude.{◌≡◌, ◌≢◌, ⊤, ℕ, ◌+◌, ◌<◌, ◌≤◌, List, length, slice_index}
use Rattle.mc_model.specs.declared.geometry.Geometry.{Geometry}
use Rattle.sei_words.specs.Layout.{slot_at, field, value_offset}
use Rattle.sei_words.specs.Free.{IsTaken}
use Rattle.sei_words.specs.Stored.{StoredAt}

-- the value of slot i has these words
pub record HasValue (g : Geometry) (words : List ℕ) (i : ℕ) (vs : List ℕ) : Type 0 where
  pub fits : length vs ≤ g.value_words
  pub stored : StoredAt words (slot_at g i + value_offset) vs

-- what holds of the words beyond the map
abbrev pub RestIsSound : Geometry → List ℕ → Type 0
RestIsSound g words = ⊤

-- slot j has the same value words in t
abbrev pub SameValue : Geometry → List ℕ → List ℕ → ℕ → Type 0
SameValue g ws t j = (n : ℕ) → n < g.value_words → slice_index t (slot_at g j + value_offset + n) ≡ slice_index ws (slot_at g j + value_offset + n)

-- the words of a slot before its value are as before
abbrev pub FieldsSame : Geometry → List ℕ → List ℕ → ℕ → Type 0
FieldsSame g ws t j = (n : ℕ) → n < value_offset → field g t j n ≡ field g ws j n

-- the fields of all slots but i stay, and the values of the taken ones too
pub record OthersStay (g : Geometry) (moment : ℕ) (ws t : List ℕ) (i : ℕ) : Type 0 where
  pub size : length t ≡ length ws
  pub fields : (j : ℕ) → j < g.slots → j ≢ i → FieldsSame g ws t j
  pub values : (j : ℕ) → j < g.slots → j ≢ i → IsTaken g ws moment j → SameValue g ws t j
  pub rest : RestIsSound g ws → RestIsSound g t
