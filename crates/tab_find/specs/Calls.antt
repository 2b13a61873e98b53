-- The input words of a call.
use Rattle.std.specs.Prelude.{◌≡◌, ◌≢◌, ℕ, ◌+◌, ◌≤◌, Bool, List, [], length, slice_index, if◌then◌else◌}
use Rattle.sei_code.specs.Codes.{fnv64}
use Rattle.mc_model.specs.Call.{Call, verb_number}
use Rattle.mc_model.specs.Packed.{AreBytes, words_for, pack}
use Rattle.sei_words.specs.Layout.{key_room}
use Rattle.sei_words.specs.Stored.{StoredAt}
use Rattle.tab_find.specs.Inputs.{verb_index, key_length_index, hash_index, flags_index, negative_index, exptime_index, unique_index, value_index, block_length_index, last_index, noreply_index, text_index, key_words_index, block_words_index, key_index, block_index}

-- a mark as a word
abbrev pub mark : Bool → ℕ
mark set = if set then 1 else 0

-- the words of the call's key. Its packing fills the last word up with zero bytes
pub record HasKey (input key : List ℕ) : Type 0 where
  pub room : block_index ≤ length input
  pub key_length : slice_index input key_length_index ≡ length key
  pub hash : slice_index input hash_index ≡ fnv64 key
  pub key_words : slice_index input key_words_index ≡ words_for (length key)
  pub bytes : AreBytes key
  pub fits : words_for (length key) ≤ key_room
  pub words : StoredAt input key_index (pack key)

-- the words of the call's block
pub record HasBlock (input block : List ℕ) : Type 0 where
  pub room : block_index + words_for (length block) ≤ length input
  pub block_length : slice_index input block_length_index ≡ length block
  pub block_words : slice_index input block_words_index ≡ words_for (length block)
  pub bytes : AreBytes block
  pub words : StoredAt input block_index (pack block)

-- all input words of a call. A call on one bucket and a fixed text have no key, and their hash is left open
pub record IsCall (input : List ℕ) (c : Call) : Type 0 where
  pub verb : slice_index input verb_index ≡ verb_number c.verb
  pub key : c.key ≢ [] → HasKey input c.key
  pub block : HasBlock input c.block
  pub flags : slice_index input flags_index ≡ c.flags
  pub negative : slice_index input negative_index ≡ mark c.negative
  pub exptime : slice_index input exptime_index ≡ c.exptime
  pub unique : slice_index input unique_index ≡ c.unique
  pub value : slice_index input value_index ≡ c.value
  pub last : slice_index input last_index ≡ mark c.last
  pub noreply : slice_index input noreply_index ≡ mark c.noreply
  pub text : slice_index input text_index ≡ c.text
