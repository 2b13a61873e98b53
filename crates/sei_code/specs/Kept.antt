-- Lists whose room is fixed when they are made.
use Rattle.std.specs.Prelude.{ℕ, List, [], ◌∷◌, ◌++◌, length, slice_set, Bool, nat_lt, if◌then◌else◌}

-- a list that never grows past its room
pub record Kept (A : Type 0) : Type 0 where
  pub items : List A
  pub room : ℕ

abbrev pub has_room : {A : Type 0} → Kept A → Bool
has_room k = nat_lt (length k.items) k.room

-- with one item more at the end
abbrev pub pushed : {A : Type 0} → Kept A → A → Kept A
pushed k x = record { items = k.items ++ x ∷ []; room = k.room }

-- with one item more at the end if there is room, else unchanged
abbrev pub offered : {A : Type 0} → Kept A → A → Kept A
offered k x = if has_room k then pushed k x else k

-- with another item in the place of the one at i
abbrev pub replaced : {A : Type 0} → Kept A → ℕ → A → Kept A
replaced k i x = record { items = slice_set k.items i x; room = k.room }

-- with more items at the end
abbrev pub extended : {A : Type 0} → Kept A → List A → Kept A
extended k xs = record { items = k.items ++ xs; room = k.room }

-- no items, and this room
abbrev pub empty_kept : (A : Type 0) → ℕ → Kept A
empty_kept A room = record { items = []; room = room }

-- no items, and the same room
abbrev pub emptied : {A : Type 0} → Kept A → Kept A
emptied k = record { items = []; room = k.room }
