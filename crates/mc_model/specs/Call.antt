-- Calls: a command on one key, on one bucket, or a fixed text.
use Rattle.std.specs.Prelude.{◌≡◌, ℕ, ◌%◌, ◌<◌, Bool, true, false, List, []}
use Rattle.sei_code.specs.Codes.{fnv64}
use Rattle.mc_model.specs.declared.call.Verb.{Verb}
use Rattle.mc_model.specs.declared.call.Verb.TheVariants.{Set, Add, Replace, Append, Prepend, Cas, Get, Gets, Gat, Gats, Touch, Delete, Incr, Decr, Flush, Fixed}

-- the commands are numbered in the order of the type
abbrev pub verb_number : Verb → ℕ
verb_number Set = 0
verb_number Add = 1
verb_number Replace = 2
verb_number Append = 3
verb_number Prepend = 4
verb_number Cas = 5
verb_number Get = 6
verb_number Gets = 7
verb_number Gat = 8
verb_number Gats = 9
verb_number Touch = 10
verb_number Delete = 11
verb_number Incr = 12
verb_number Decr = 13
verb_number Flush = 14
verb_number Fixed = 15

-- a field that the command does not have is 0, false or empty. `last` and `noreply` are its marks, `text` is the number
-- of a fixed text
pub record Call : Type 0 where
  pub verb : Verb
  pub key : List ℕ
  pub flags : ℕ
  pub negative : Bool
  pub exptime : ℕ
  pub unique : ℕ
  pub value : ℕ
  pub block : List ℕ
  pub last : Bool
  pub noreply : Bool
  pub text : ℕ

-- a call with nothing but its command
abbrev pub blank : Verb → Call
blank verb = record { verb = verb; key = []; flags = 0; negative = false; exptime = 0; unique = 0; value = 0; block = []; last = true; noreply = false; text = 0 }

-- a call, and the bucket that it is for
pub record Placed : Type 0 where
  pub bucket : ℕ
  pub call : Call

-- a key belongs to the bucket whose number is the hash of the key modulo the number of buckets
abbrev pub bucket_of_key : ℕ → List ℕ → ℕ
bucket_of_key buckets key = fnv64 key % buckets

-- the bucket of a command: that of its key, any bucket for a call on one bucket, the first one for a text
abbrev pub IsBucketOf : ℕ → Verb → List ℕ → ℕ → Type 0
IsBucketOf buckets Flush key b = b < buckets
IsBucketOf buckets Fixed key b = b ≡ 0
IsBucketOf buckets verb key b = b ≡ bucket_of_key buckets key

-- a call is at its own bucket, one of n
abbrev pub IsPlaced : ℕ → Placed → Type 0
IsPlaced buckets p = IsBucketOf buckets p.call.verb p.call.key p.bucket
