-- Histories: what was answered, in order, and which histories are those of a memcached of one thread.
use Rattle.std.specs.Prelude.{◌≡◌, ℕ, ◌==◌, if◌then◌else◌, List, [], ◌∷◌, ◌++◌, ⊤}
use Rattle.mc_model.specs.declared.geometry.Geometry.{Geometry}
use Rattle.mc_model.specs.declared.call.Room.{Room}
use Rattle.mc_model.specs.Bucket.{Bucket, empty_bucket}
use Rattle.mc_model.specs.Call.{Call, Placed, IsPlaced}
use Rattle.mc_model.specs.Answer.{answer}
use Rattle.mc_model.specs.Server.{room_of}

-- an answered call: whose it is and its number there, its bucket, the clock's answer, the call and its reply
pub record Entry : Type 0 where
  pub connection : ℕ
  pub number : ℕ
  pub bucket : ℕ
  pub now : ℕ
  pub call : Call
  pub reply : List ℕ

abbrev pub placed_in : Entry → Placed
placed_in entry = record { bucket = entry.bucket; call = entry.call }

-- bucket b, led through the entries that are its own
abbrev pub led_through : Room → ℕ → Bucket → List Entry → Bucket
led_through room b bucket [] = bucket
led_through room b bucket (entry ∷ entries) =
    led_through room b (if entry.bucket == b then (answer room bucket entry.now entry.call).0 else bucket) entries

-- the state of bucket b after a history
abbrev pub state_after : Room → ℕ → List Entry → Bucket
state_after room b history = led_through room b empty_bucket history

-- an entry behind others: it stands at its call's bucket, and has the reply that this bucket gives after them
pub record IsLegalEntry (geometry : Geometry) (earlier : List Entry) (entry : Entry) : Type 0 where
  pub placed : IsPlaced geometry.buckets (placed_in entry)
  pub reply : entry.reply ≡ (answer (room_of geometry) (state_after (room_of geometry) entry.bucket earlier) entry.now entry.call).1

-- each of these entries is legal after the earlier ones and those before it
abbrev pub IsLegalBehind : Geometry → List Entry → List Entry → Type 0
IsLegalBehind geometry earlier [] = ⊤
IsLegalBehind geometry earlier (entry ∷ entries) = IsLegalEntry geometry earlier entry × IsLegalBehind geometry (earlier ++ entry ∷ []) entries

-- a memcached of one thread could have answered so: each entry is legal after all before it
abbrev pub IsLegal : Geometry → List Entry → Type 0
IsLegal geometry history = IsLegalBehind geometry [] history
