-- The words that are lent, if a bucket is lent.
use Rattle.std.specs.Prelude.{◌≡◌, ℕ, List, [], Option, Some, None, ⊤}
use Rattle.mc_model.specs.declared.geometry.Geometry.{Geometry}
use Rattle.sei_words.specs.Words.{BucketWords}

-- the words of the bucket, and none if no bucket is lent
abbrev pub words_of : Option BucketWords → List ℕ
words_of None = []
words_of (Some b) = b.words

-- the number of the bucket, if one is lent
abbrev pub bucket_of : Option BucketWords → Option ℕ
bucket_of None = None
bucket_of (Some b) = Some b.bucket

-- the bucket that is lent, and how it is laid out
pub record Place : Type 0 where
  pub bucket : ℕ
  pub geometry : Geometry

abbrev pub place_of : Option BucketWords → Option Place
place_of None = None
place_of (Some b) = Some (record { bucket = b.bucket; geometry = b.geometry })

-- what is lent is laid out by this geometry
abbrev pub IsOf : Geometry → Option BucketWords → Type 0
IsOf g None = ⊤
IsOf g (Some b) = b.geometry ≡ g
