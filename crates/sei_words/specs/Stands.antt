-- When words stand for a bucket of the model. Many lists of words stand for one bucket.
use Rattle.std.specs.Prelude.{◌≡◌, ℕ, ◌+◌, ◌≤◌, List, length, slice_index}
use Rattle.sei_code.specs.Codes.{fnv64}
use Rattle.mc_model.specs.declared.geometry.Geometry.{Geometry}
use Rattle.mc_model.specs.Bucket.{Item, Bucket, IsBucket, lookup}
use Rattle.sei_words.specs.Layout.{moment_address, counter_address, word_count, slot_at, field, hash_offset, key_length_offset, flags_offset, expiry_offset, unique_offset, value_length_offset, key_offset, key_room}
use Rattle.sei_words.specs.Free.{IsTaken}
use Rattle.mc_model.specs.Packed.{AreBytes, words_for, pack}
use Rattle.sei_words.specs.Stored.{StoredAt}
use Rattle.sei_words.specs.Value.{HasValue, RestIsSound}
use Rattle.sei_words.specs.Holds.{Holds}

-- slot i reads as this key and item. Lengths are in bytes. The words of the key and of the value are their packings,
-- zero bytes of the last word too. The words after them have no meaning.
pub record Reads (g : Geometry) (words : List ℕ) (i : ℕ) (k : List ℕ) (x : Item) : Type 0 where
  pub hash : field g words i hash_offset ≡ fnv64 k
  pub key_length : field g words i key_length_offset ≡ length k
  pub flags : field g words i flags_offset ≡ x.flags
  pub expiry : field g words i expiry_offset ≡ x.expiry
  pub unique : field g words i unique_offset ≡ x.unique
  pub value_length : field g words i value_length_offset ≡ length x.value
  pub key_bytes : AreBytes k
  pub key_fits : words_for (length k) ≤ key_room
  pub key : StoredAt words (slot_at g i + key_offset) (pack k)
  pub value_bytes : AreBytes x.value
  pub value : HasValue g words i (pack x.value)

-- the moment is that of the words, so what has expired is not in the bucket
pub record StandsFor (g : Geometry) (words : List ℕ) (b : Bucket) : Type 0 where
  pub size : length words ≡ word_count g
  pub moment : slice_index words moment_address ≡ b.moment
  pub counter : slice_index words counter_address ≡ b.counter
  pub model : IsBucket b
  pub rest : RestIsSound g words
  pub holds : Holds g.slots (IsTaken g words b.moment) (Reads g words) (λ k. lookup k b.items)
