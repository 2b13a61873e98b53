-- The words of a bucket as a value, with the bucket's number, and the geometry that they are laid out by.
use Rattle.std.specs.Prelude.{◌≡◌, ℕ, ◌<◌, List, length, replicate, slice_set}
use Rattle.mc_model.specs.declared.geometry.Geometry.{Geometry}
use Rattle.mc_model.specs.Server.{IsValid}
use Rattle.sei_words.specs.Layout.{word_count}

pub record BucketWords : Type 0 where
  pub words : List ℕ
  pub bucket : ℕ
  pub geometry : Geometry

-- there are as many words as the geometry says, and it has such a bucket
pub record IsLaidOut (ws : BucketWords) : Type 0 where
  pub valid : IsValid ws.geometry
  pub within : ws.bucket < ws.geometry.buckets
  pub long : length ws.words ≡ word_count ws.geometry

-- all words are 0
abbrev pub fresh_words : Geometry → ℕ → BucketWords
fresh_words g bucket = record { words = replicate (word_count g) 0; bucket = bucket; geometry = g }

-- one word is another, and all else is the same
abbrev pub with_word : BucketWords → ℕ → ℕ → BucketWords
with_word ws a w = record ws { words = slice_set ws.words a w }
