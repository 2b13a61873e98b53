-- What a request of the code means in the bytes that it was read from.
use Rattle.std.specs.Prelude.{◌≡◌, ℕ, ◌<◌, ◌≤◌, List, [], length, take, slice_range}
use Rattle.mc_model.specs.Call.{Call, Placed}
use Rattle.mc_model.specs.Views.{call_with}
use Rattle.mc_text.specs.declared.limits.Limits.{Limits}
use Rattle.mc_text.specs.declared.request.Request.{Request}
use Rattle.mc_text.specs.Words.{words}
use Rattle.mc_text.specs.Meaning.{Meaning, key_calls, bucket_calls, calls_of}
use Rattle.mc_text.specs.Lines.{some_words}
use Rattle.mc_text.specs.Spells.{Spells}
use Rattle.mc_text.specs.Parsed.{meaning_of, IsTemplateOf}

-- what its calls have in common
abbrev pub shared_call : List ℕ → Request → Call
shared_call bytes r = call_with [] (slice_range bytes r.block.from r.block.to) r.template.call

-- its keys
abbrev pub keys_at : List ℕ → Request → List (List ℕ)
keys_at bytes r = some_words (words (take r.line bytes)) r.template.first r.template.count

-- what it asks for
abbrev pub meaning_at : List ℕ → Request → Meaning
meaning_at bytes r = meaning_of (slice_range bytes r.block.from r.block.to) (words (take r.line bytes)) r.template

-- how long it is, and what it asks for
abbrev pub front_of : List ℕ → Request → ℕ × Meaning
front_of bytes r = (r.length, meaning_at bytes r)

-- of how many buckets
abbrev pub buckets_of : Request → ℕ
buckets_of r = r.buckets

-- a call at each of its keys
abbrev pub key_calls_at : List ℕ → Request → List Placed
key_calls_at bytes r = key_calls (buckets_of r) (shared_call bytes r) (keys_at bytes r)

-- a call at each of the buckets
abbrev pub bucket_calls_at : List ℕ → Request → List Placed
bucket_calls_at bytes r = bucket_calls (shared_call bytes r) 0 (buckets_of r)

-- its calls
abbrev pub calls_at : List ℕ → Request → List Placed
calls_at bytes r = calls_of (buckets_of r) (meaning_at bytes r)

-- its places are within these bytes
pub record IsOf (bytes : List ℕ) (r : Request) : Type 0 where
  pub some_buckets : 0 < r.buckets
  pub line : r.line ≤ length bytes
  pub template : IsTemplateOf (words (take r.line bytes)) r.template
  pub block_order : r.block.from ≤ r.block.to
  pub block_end : r.block.to ≤ length bytes

-- it is the one request that these bytes spell
pub record IsReading (l : Limits) (bytes : List ℕ) (r : Request) : Type 0 where
  pub spelled : Spells l bytes (meaning_at bytes r)
  pub only : (m : Meaning) → Spells l bytes m → m ≡ meaning_at bytes r
  pub buckets : buckets_of r ≡ l.buckets
  pub calls : calls_at bytes r ≡ calls_of l.buckets (meaning_at bytes r)
  pub of : IsOf bytes r

-- how long it is
abbrev pub length_of : Request → ℕ
length_of r = r.length

-- its places are within its own bytes
pub record StandsInside (r : Request) : Type 0 where
  pub line : r.line ≤ r.length
  pub block : r.block.to ≤ r.length

-- it begins these bytes, and is the one request that the bytes of its length spell
pub record BeginsAs (l : Limits) (bytes : List ℕ) (r : Request) : Type 0 where
  pub within : length_of r ≤ length bytes
  pub reading : IsReading l (take (length_of r) bytes) r
