-- What a call finds at a key, what is there after it, and what a reader is shown.
use Rattle.std.specs.Prelude.{◌≡◌, ◌≢◌, ◌⊎◌, ℕ, ◌<◌, Bool, false, List, [], ◌∷◌, ◌++◌, ⊤, Option, All, codes}
use Rattle.mc_model.specs.declared.call.Room.{Room}
use Rattle.mc_model.specs.declared.call.Verb.{Verb}
use Rattle.mc_model.specs.declared.call.Verb.TheVariants.{Set, Add, Replace, Cas, Get, Gets, Flush}
use Rattle.mc_model.specs.Texts.{line}
use Rattle.mc_model.specs.Bucket.{Item, Bucket, IsBucket, lookup, arrived}
use Rattle.mc_model.specs.Call.{Call}
use Rattle.mc_model.specs.Items.{item_of_call}
use Rattle.mc_model.specs.Replies.{value_text, end_text}
use Rattle.mc_model.specs.Answer.{answer, seen_in}

-- the bucket after a call
abbrev pub left_by : Room → Bucket → ℕ → Call → Bucket
left_by room b now c = (answer room b now c).0

-- the bucket after calls, each at its moment
abbrev pub left_by_all : Room → Bucket → List (ℕ × Call) → Bucket
left_by_all room b [] = b
left_by_all room b (c ∷ cs) = left_by_all room (left_by room b c.0 c.1) cs

-- the reply to a call
abbrev pub reply_to : Room → Bucket → ℕ → Call → List ℕ
reply_to room b now c = (answer room b now c).1

-- the moment at which a call is done
abbrev pub moment_in : ℕ → Bucket → ℕ
moment_in now b = (arrived now b).moment

-- the item that a call finds at a key
abbrev pub found : ℕ → Bucket → List ℕ → Option Item
found now b key = lookup key (arrived now b).items

-- an item with this expiry is live at the moment
abbrev pub IsUnexpired : ℕ → ℕ → Type 0
IsUnexpired expiry moment = (expiry ≡ 0) ⊎ (moment < expiry)

-- the command stores the block that comes with it
abbrev pub StoresBlock : Verb → Type 0
StoresBlock Set = ⊤
StoresBlock Add = ⊤
StoresBlock Replace = ⊤
StoresBlock Cas = ⊤
StoresBlock _ = ⊥

-- its block was stored
pub record HasStored (room : Room) (b : Bucket) (now : ℕ) (c : Call) : Type 0 where
  pub verb : StoresBlock c.verb
  pub reply : reply_to room b now c ≡ line (codes "STORED")

-- a call that changes nothing at this key
pub data LeavesKey (key : List ℕ) (c : Call) : Type 0 where
  AtOtherKey : c.key ≢ key → c.verb ≢ Flush → LeavesKey key c
  OnlyReads : (c.verb ≡ Get) ⊎ (c.verb ≡ Gets) → LeavesKey key c

-- a call of this command that asks for its reply
pub record Asks (command : Verb) (c : Call) : Type 0 where
  pub verb : c.verb ≡ command
  pub reply : c.noreply ≡ false

-- the item that a call spells, once it arrives
abbrev pub own_item : Room → Bucket → ℕ → Call → Item
own_item room b now c = item_of_call (seen_in room (arrived now b)) c

-- what a `get` shows of an item: its flags and its value
abbrev pub shown : List ℕ → ℕ → List ℕ → Bool → List ℕ
shown key flags value last = value_text false key (record { flags = flags; expiry = 0; unique = 0; value = value }) ++ end_text last

-- a call on a bucket, others after it, and at last a `get`
pub record LaterGet : Type 0 where
  pub room : Room
  pub bucket : Bucket
  pub now : ℕ
  pub call : Call
  pub others : List (ℕ × Call)
  pub later : ℕ
  pub get : Call

-- the bucket at which the `get` arrives
abbrev pub bucket_then : LaterGet → Bucket
bucket_then s = left_by_all s.room (left_by s.room s.bucket s.now s.call) s.others

-- the block of the call was stored, the others do not change its key, and the `get` reads that key before it expires
pub record GetsStored (s : LaterGet) : Type 0 where
  pub bucket : IsBucket s.bucket
  pub stored : HasStored s.room s.bucket s.now s.call
  pub left : All (λ o. LeavesKey s.call.key o.1) s.others
  pub asks : Asks Get s.get
  pub key : s.get.key ≡ s.call.key
  pub unexpired : IsUnexpired (own_item s.room s.bucket s.now s.call).expiry (moment_in s.later (bucket_then s))
