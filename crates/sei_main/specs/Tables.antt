-- A server as words: each of its buckets is a list of words.
use Rattle.std.specs.Prelude.{◌≡◌, ℕ, ◌<◌, List, map, length, slice_index_or, All}
use Rattle.std.specs.List.{range_with_len}
use Rattle.mc_model.specs.declared.geometry.Geometry.{Geometry}
use Rattle.mc_model.specs.Server.{IsValid, Server, room_of, bucket_at}
use Rattle.sei_words.specs.Words.{BucketWords, fresh_words}
use Rattle.sei_pass.specs.Spaces.{pass_space}
use Rattle.sei_hand.specs.Served.{Stands}
use Rattle.sei_traverse.specs.State.{TraversalState}

pub record Tables : Type 0 where
  pub geometry : Geometry
  pub buckets : List BucketWords

-- nothing was asked yet
abbrev pub fresh_tables : Geometry → Tables
fresh_tables g = record { geometry = g; buckets = map (fresh_words g) (range_with_len 0 g.buckets) }

-- the words of a bucket; one that is not there has none of its own
abbrev pub bucket_words : Tables → ℕ → BucketWords
bucket_words t b = slice_index_or t.buckets b (fresh_words t.geometry b)

-- the words of a bucket are its own, of its geometry, and stand for the bucket of a server
pub record IsBucketImage (g : Geometry) (s : Server) (b : ℕ) (w : BucketWords) : Type 0 where
  pub bucket : w.bucket ≡ b
  pub geometry : w.geometry ≡ g
  pub stands : Stands g w.words (bucket_at s b)

-- the geometry is valid, the server has its room and its buckets, and so are the words of each bucket
pub record AreServer (t : Tables) (s : Server) : Type 0 where
  pub valid : IsValid t.geometry
  pub room : s.room ≡ room_of t.geometry
  pub tables : length t.buckets ≡ t.geometry.buckets
  pub buckets : length s.buckets ≡ t.geometry.buckets
  pub each : (b : ℕ) → b < t.geometry.buckets → IsBucketImage t.geometry s b (bucket_words t b)

-- and so those of a geometry
pub record AreServerOf (g : Geometry) (t : Tables) (s : Server) : Type 0 where
  pub geometry : t.geometry ≡ g
  pub are : AreServer t s

-- the words of a bucket are of this geometry
abbrev pub IsOfGeometry : Geometry → BucketWords → Type 0
IsOfGeometry g w = w.geometry ≡ g

-- tables are laid out as their geometry says, whatever their words are, and a traversal beside them has the space of the same geometry
pub record IsTableServer (t : Tables) (traversal : TraversalState) : Type 0 where
  pub space : traversal.space ≡ pass_space t.geometry
  pub valid : IsValid t.geometry
  pub laid_out : All (IsOfGeometry t.geometry) t.buckets
