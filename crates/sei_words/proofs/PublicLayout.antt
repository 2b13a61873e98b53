-- The laws of the layout. Nothing else multiplies.
use Rattle.std.proofs.Common.{◌≡◌, ◌≢◌, ℕ, ◌+◌, ◌<◌, ◌≤◌, ◌^◌, ◌⊎◌, inl, inr, List, refl, ap, arith}
use Rattle.std.specs.Prelude.{slice_index}
use Rattle.std.proofs.lemmas.Bool.{cases_lt}
use Rattle.mc_model.specs.declared.geometry.Geometry.{Geometry}
use Rattle.mc_model.specs.Server.{IsValid}
use Rattle.sei_words.specs.Layout.{first_slot, key_offset, value_offset, width, slot_at, word_count, field}

pub slot_first : (g : Geometry) → slot_at g 0 ≡ first_slot
unfolding slot_at
slot_first g = omega arith

pub slot_next : (g : Geometry) (i : ℕ) → slot_at g i + width g ≡ slot_at g (i + 1)
unfolding slot_at
slot_next g i = omega arith

pub width_is : (g : Geometry) → width g ≡ value_offset + g.value_words
unfolding width
width_is g = refl

pub slot_floor : (g : Geometry) (i : ℕ) → first_slot ≤ slot_at g i
unfolding slot_at
slot_floor g i = omega arith

-- a lower slot ends where a higher one begins, or before
pub slot_apart : (g : Geometry) (i j : ℕ) → i < j → slot_at g i + width g ≤ slot_at g j
unfolding slot_at
slot_apart g i j lt = grind arith

-- the last slot ends with the words
pub slot_within : (g : Geometry) (i : ℕ) → i < g.slots → slot_at g i + width g ≤ word_count g
slot_within g i lt = slot_apart g i g.slots lt

-- each place before the value has its word
pub field_within : (g : Geometry) (i offset : ℕ) → i < g.slots → offset < value_offset → slot_at g i + offset < word_count g
field_within g i offset lt o = omega (arith, slot_within g i lt, width_is g)

pub few_words : (g : Geometry) → IsValid g → word_count g < 2 ^ 32
unfolding slot_at width
few_words g v = grind (arith, v.few_slots, v.few_words)

-- a word of slot j is no word of another slot i
pub off_slot : (g : Geometry) (i j n : ℕ) → j ≢ i → n < width g → (slot_at g j + n < slot_at g i) ⊎ (slot_at g i + width g ≤ slot_at g j + n)
off_slot g i j n ne lt = elim (cases_lt j i) [
  | inl below ↦ inl (omega (arith, slot_apart g j i below, lt))
  | inr le ↦ inr (let above : i < j = omega (arith, le, ne) in omega (arith, slot_apart g i j above))
]

-- a word of the key is a field
pub key_word : (g : Geometry) (words : List ℕ) (i j : ℕ) → field g words i (key_offset + j) ≡ slice_index words (slot_at g i + key_offset + j)
key_word g words i j = ap (slice_index words) (omega arith)
