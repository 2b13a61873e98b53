-- A server: a list of buckets, and the room of each: limits on its items and on the bytes of a value.
use Rattle.std.specs.Prelude.{ℕ, ◌*◌, ◌≤◌, List, replicate, slice_index_or, slice_set}
use Rattle.mc_model.specs.declared.geometry.Geometry.{Geometry}
use Rattle.mc_model.specs.declared.call.Room.{Room}
use Rattle.mc_model.specs.Bucket.{Bucket, empty_bucket}
use Rattle.mc_model.specs.Call.{Placed}
use Rattle.mc_model.specs.Answer.{answer}

-- the limits of a geometry
pub record IsValid (g : Geometry) : Type 0 where
  pub some_buckets : 1 ≤ g.buckets
  pub few_buckets : g.buckets ≤ 64
  pub some_slots : 1 ≤ g.slots
  pub few_slots : g.slots ≤ 1024
  pub some_words : 3 ≤ g.value_words
  pub few_words : g.value_words ≤ 1024

-- what a bucket has room for: an item in each slot, and eight bytes in each value word
abbrev pub room_of : Geometry → Room
room_of g = record { slots = g.slots; value_bytes = 8 * g.value_words }

-- its buckets, all with the same room
pub record Server : Type 0 where
  pub room : Room
  pub buckets : List Bucket

-- as many empty buckets as the geometry says
abbrev pub empty_server : Geometry → Server
empty_server g = record { room = room_of g; buckets = replicate g.buckets empty_bucket }

-- the bucket with a number; one that is not there is empty
abbrev pub bucket_at : Server → ℕ → Bucket
bucket_at s b = slice_index_or s.buckets b empty_bucket

-- the call's bucket answers, and the others do not change
abbrev pub server_answer : Server → ℕ → Placed → Server × List ℕ
server_answer s now p =
    let a = answer s.room (bucket_at s p.bucket) now p.call in
    (record { room = s.room; buckets = slice_set s.buckets p.bucket a.0 }, a.1)
