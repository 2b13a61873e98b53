-- What each part of a command leads to, as facts about the bucket that the words stand for.
use Rattle.std.specs.Prelude.{◌≡◌, ℕ, ◌<◌, ◌≤◌, ◌⊎◌, List, length, Some, None}
use Rattle.sei_code.specs.Codes.{fnv64}
use Rattle.mc_model.specs.declared.geometry.Geometry.{Geometry}
use Rattle.mc_model.specs.declared.outcome.Change.{Change}
use Rattle.mc_model.specs.Answer.{bucket_after}
use Rattle.mc_model.specs.Bucket.{Item, Bucket, lookup, arrived, purged}
use Rattle.mc_model.specs.Packed.{words_for}
use Rattle.sei_words.specs.Layout.{slot_at, word_count}
use Rattle.sei_words.specs.Free.{IsTaken, IsFree, IsFull}
use Rattle.sei_words.specs.Stands.{Reads, StandsFor}
use Rattle.sei_stmt.specs.Order.{timed, slotted}
use Rattle.sei_stmt.specs.Runs.{RunState}
use Rattle.tab_find.specs.Answers.{HasConstants}
use Rattle.tab_find.specs.Registers.{r_key_length, r_hash, r_key_words, r_place}

-- the key has this item, in the slot that begins at this place
pub record IsPresent (g : Geometry) (ws : List ℕ) (b : Bucket) (key : List ℕ) (x : Item) (place : ℕ) : Type 0 where
  pub slot : ℕ
  pub within : slot < g.slots
  pub begins : place ≡ slot_at g slot
  pub item : lookup key b.items ≡ Some x
  pub taken : IsTaken g ws b.moment slot
  pub reads : Reads g ws slot key x

-- the key has no item, and the place is the end of all slots
pub record IsAbsent (g : Geometry) (b : Bucket) (key : List ℕ) (place : ℕ) : Type 0 where
  pub item : lookup key b.items ≡ None
  pub ends : place ≡ word_count g

-- what the find says of a key
abbrev pub KeyFound : Geometry → List ℕ → Bucket → List ℕ → ℕ → Type 0
KeyFound g ws b key place = ((x : Item) × IsPresent g ws b key x place) ⊎ IsAbsent g b key place

-- a free slot, which begins at this place
pub record IsGiven (g : Geometry) (ws : List ℕ) (moment place : ℕ) : Type 0 where
  pub slot : ℕ
  pub within : slot < g.slots
  pub begins : place ≡ slot_at g slot
  pub free : IsFree g ws moment slot

-- no slot is free, and the place is the end of all slots
pub record IsRefused (g : Geometry) (ws : List ℕ) (moment place : ℕ) : Type 0 where
  pub full : IsFull g ws moment
  pub ends : place ≡ word_count g

abbrev pub SlotGiven : Geometry → List ℕ → ℕ → ℕ → Type 0
SlotGiven g ws moment place = IsGiven g ws moment place ⊎ IsRefused g ws moment place

-- the words of the bucket as it is when the call arrives, after the moment's program
pub record Arrived (g : Geometry) (now : ℕ) (b : Bucket) (bound most : ℕ) (t : RunState) : Type 0 where
  pub steps : t.steps ≤ bound
  pub stores : t.stores ≤ most
  pub floor : t.floor ≡ 1
  pub stage : t.stage ≡ timed
  pub constants : HasConstants g (arrived now b).moment t
  pub stands : StandsFor g t.words (arrived now b)

-- the registers of the call's key
pub record KeyLoaded (key : List ℕ) (r6 r7 r8 : ℕ) : Type 0 where
  pub key_length : r6 ≡ length key
  pub hash : r7 ≡ fnv64 key
  pub key_words : r8 ≡ words_for (length key)

abbrev pub HasKeyLoaded : List ℕ → RunState → Type 0
HasKeyLoaded key s = KeyLoaded key (s.regs r_key_length) (s.regs r_hash) (s.regs r_key_words)

-- after the find
pub record Sought (g : Geometry) (ws : List ℕ) (b : Bucket) (key : List ℕ) (bound : ℕ) (t : RunState) : Type 0 where
  pub steps : t.steps ≤ bound
  pub loaded : HasKeyLoaded key t
  pub result : KeyFound g ws b key (t.regs r_place)

-- after a free slot was asked for
pub record Offered (g : Geometry) (ws : List ℕ) (moment bound : ℕ) (t : RunState) : Type 0 where
  pub steps : t.steps ≤ bound
  pub stage : t.stage ≡ slotted
  pub answer : SlotGiven g ws moment (t.regs r_place)

-- after the program of a change: the words stand for the bucket after it
pub record Changed (g : Geometry) (key : List ℕ) (change : Change) (b : Bucket) (bound most : ℕ) (t : RunState) : Type 0 where
  pub steps : t.steps ≤ bound
  pub stores : t.stores ≤ most
  pub stands : StandsFor g t.words (purged (bucket_after key change b))
