-- Where in the words of a bucket its moment, its counter and the parts of its slots are.
use Rattle.std.specs.Prelude.{ℕ, ◌+◌, ◌*◌, List, slice_index}
use Rattle.mc_model.specs.declared.geometry.Geometry.{Geometry}

abbrev pub moment_address : ℕ
moment_address = 0

abbrev pub counter_address : ℕ
counter_address = 1

-- the address at which the first slot begins
abbrev pub first_slot : ℕ
first_slot = 2

-- the places in a slot, from where it begins; a slot whose first word is 0 is free

abbrev pub used_offset : ℕ
used_offset = 0

abbrev pub hash_offset : ℕ
hash_offset = 1

abbrev pub key_length_offset : ℕ
key_length_offset = 2

abbrev pub flags_offset : ℕ
flags_offset = 3

abbrev pub expiry_offset : ℕ
expiry_offset = 4

abbrev pub unique_offset : ℕ
unique_offset = 5

abbrev pub value_length_offset : ℕ
value_length_offset = 6

abbrev pub key_offset : ℕ
key_offset = 7

-- the words that the longest key takes
abbrev pub key_room : ℕ
key_room = 32

-- the words of a slot before its value
abbrev pub value_offset : ℕ
value_offset = key_offset + key_room

-- the number of words of a slot
unfoldable pub width : Geometry → ℕ
width g = value_offset + g.value_words

-- the address at which slot i begins
unfoldable pub slot_at : Geometry → ℕ → ℕ
unfolding width
slot_at g i = first_slot + i * width g

-- the number of words of a bucket
abbrev pub word_count : Geometry → ℕ
word_count g = slot_at g g.slots

-- a word of slot i
abbrev pub field : Geometry → List ℕ → ℕ → ℕ → ℕ
field g words i offset = slice_index words (slot_at g i + offset)
