-- How programs change the words of a bucket, by what was stored and what is as before.
use Rattle.std.specs.Prelude.{◌≡◌, ◌≢◌, ◌⊎◌, ℕ, ◌+◌, ◌<◌, ◌≤◌, List, length, slice_index, Some, None}
use Rattle.sei_code.specs.Codes.{fnv64}
use Rattle.mc_model.specs.declared.geometry.Geometry.{Geometry}
use Rattle.mc_model.specs.Bucket.{Item, Entries, Bucket, lookup}
use Rattle.mc_model.specs.Packed.{AreBytes, words_for, pack}
use Rattle.sei_words.specs.Layout.{moment_address, counter_address, first_slot, width, slot_at, field, used_offset, hash_offset, key_length_offset, flags_offset, expiry_offset, unique_offset, value_length_offset, key_offset, key_room, value_offset}
use Rattle.sei_words.specs.Free.{IsTaken}
use Rattle.sei_words.specs.Stored.{StoredAt}
use Rattle.sei_words.specs.Value.{HasValue, FieldsSame, OthersStay}
use Rattle.sei_words.specs.Stands.{Reads}

-- the words before the first slot are those of the bucket
pub record HasHead (words : List ℕ) (b : Bucket) : Type 0 where
  pub moment : slice_index words moment_address ≡ b.moment
  pub counter : slice_index words counter_address ≡ b.counter

-- only words before the first slot were stored
pub record HeadStored (ws t : List ℕ) : Type 0 where
  pub size : length t ≡ length ws
  pub off : (a : ℕ) → first_slot ≤ a → slice_index t a ≡ slice_index ws a

-- the moment is another one, and all other words are as before
pub record Moved (ws t : List ℕ) (moment : ℕ) : Type 0 where
  pub size : length t ≡ length ws
  pub first : slice_index t moment_address ≡ moment
  pub others : (a : ℕ) → a ≢ moment_address → slice_index t a ≡ slice_index ws a

-- only words of slot i before its value were stored
pub record OnlyFields (g : Geometry) (ws t : List ℕ) (i : ℕ) : Type 0 where
  pub size : length t ≡ length ws
  pub off : (a : ℕ) → (a < slot_at g i) ⊎ (slot_at g i + value_offset ≤ a) → slice_index t a ≡ slice_index ws a

-- only words of slot i were stored, those of its value among them
pub record OnlySlot (g : Geometry) (ws t : List ℕ) (i : ℕ) : Type 0 where
  pub size : length t ≡ length ws
  pub off : (a : ℕ) → (a < slot_at g i) ⊎ (slot_at g i + width g ≤ a) → slice_index t a ≡ slice_index ws a

-- the value of slot i was stored: all fields and the words before all slots stay, and so do the values of other taken slots
pub record ValueStored (g : Geometry) (moment : ℕ) (ws t : List ℕ) (i : ℕ) (vs : List ℕ) : Type 0 where
  pub value : HasValue g t i vs
  pub others : OthersStay g moment ws t i
  pub fields : FieldsSame g ws t i
  pub head : (a : ℕ) → a < first_slot → slice_index t a ≡ slice_index ws a

-- the first word of each slot became 0, and all other words are as before
pub record AllUnused (g : Geometry) (ws t : List ℕ) : Type 0 where
  pub size : length t ≡ length ws
  pub off : (a : ℕ) → ((j : ℕ) → j < g.slots → a ≢ slot_at g j + used_offset) → slice_index t a ≡ slice_index ws a
  pub unused : (j : ℕ) → j < g.slots → field g t j used_offset ≡ 0

-- the words of slot i before its value read as this key and item
pub record HasFields (g : Geometry) (words : List ℕ) (i : ℕ) (k : List ℕ) (x : Item) : Type 0 where
  pub hash : field g words i hash_offset ≡ fnv64 k
  pub key_length : field g words i key_length_offset ≡ length k
  pub flags : field g words i flags_offset ≡ x.flags
  pub expiry : field g words i expiry_offset ≡ x.expiry
  pub unique : field g words i unique_offset ≡ x.unique
  pub value_length : field g words i value_length_offset ≡ length x.value
  pub key_bytes : AreBytes k
  pub key_fits : words_for (length k) ≤ key_room
  pub key : StoredAt words (slot_at g i + key_offset) (pack k)

-- some words of slot i were stored, but not its hash, its key's length or its key
pub record KeepsKey (g : Geometry) (ws t : List ℕ) (i : ℕ) : Type 0 where
  pub hash : field g t i hash_offset ≡ field g ws i hash_offset
  pub key_length : field g t i key_length_offset ≡ field g ws i key_length_offset
  pub key : (j : ℕ) → j < key_room → field g t i (key_offset + j) ≡ field g ws i (key_offset + j)

-- slot i has the flags, the expiry, the cas unique and the length of value of this item
pub record HasItem (g : Geometry) (words : List ℕ) (i : ℕ) (x : Item) : Type 0 where
  pub flags : field g words i flags_offset ≡ x.flags
  pub expiry : field g words i expiry_offset ≡ x.expiry
  pub unique : field g words i unique_offset ≡ x.unique
  pub value_length : field g words i value_length_offset ≡ length x.value

-- before, slot i holds the key, or is free and the key absent
abbrev pub WasThere : Geometry → List ℕ → Bucket → ℕ → List ℕ → Type 0
WasThere g ws b i k = (IsTaken g ws b.moment i × ((x : Item) × Reads g ws i k x)) ⊎ ((IsTaken g ws b.moment i → ⊥) × (lookup k b.items ≡ None))

-- afterwards it reads as the key and its new item, or is free and the key absent
abbrev pub IsThere : Geometry → List ℕ → ℕ → ℕ → List ℕ → Entries → Type 0
IsThere g t moment i k items = (IsTaken g t moment i × ((x : Item) × Reads g t i k x × (lookup k items ≡ Some x))) ⊎ ((IsTaken g t moment i → ⊥) × (lookup k items ≡ None))
