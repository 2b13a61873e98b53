-- The state in which each shared program begins, and the state to which its law says that it leads.
use Rattle.std.specs.Prelude.{◌≡◌, ℕ, ◌+◌, ◌≤◌, List, length}
use Rattle.mc_model.specs.declared.geometry.Geometry.{Geometry}
use Rattle.mc_model.specs.Bucket.{Item, Bucket}
use Rattle.mc_model.specs.Server.{IsValid}
use Rattle.sei_words.specs.Stands.{StandsFor}
use Rattle.sei_stmt.specs.Order.{parsed, timed}
use Rattle.sei_stmt.specs.Programs.{Prog, Post, Ends, IsParsed}
use Rattle.sei_stmt.specs.Runs.{Given, RunState}
use Rattle.tab_find.specs.Answers.{HasConstants, IsBounded}
use Rattle.tab_find.specs.Calls.{HasKey}
use Rattle.tab_find.specs.Copies.{CanCopy, CanStoreIn, HasLoaded}
use Rattle.tab_find.specs.Fit.{FitIsAnswer}
use Rattle.tab_find.specs.Found.{IsPresent}
use Rattle.tab_find.specs.Registers.{r_zero, r_one, r_place, r_address, r_index, r_limit, r_expiry, r_unique}

-- From each state that meets From the program ends in one that meets To, within any limits that leave room for these
-- stores and steps. `most` limits the stores and `bound` the statements, and the log has room for `most`.
abbrev pub Leads : Given → Post → Prog → (ℕ → ℕ → Post) → (stores steps : ℕ) → Type 0
Leads e From p To stores steps =
    (s : RunState) (bound most : ℕ) → From s → s.stores + stores ≤ most → most ≤ e.log_room → s.steps + steps ≤ bound → Ends e p s (To bound most)

-- the input was parsed, and nothing was stored since. A register holds 0 when a run begins
pub record JustParsed (g : Geometry) (b : Bucket) (s : RunState) : Type 0 where
  pub stands : StandsFor g s.words b
  pub stage : s.stage ≡ parsed
  pub none : s.regs r_zero ≡ 0
  pub unstored : s.floor ≡ 0

-- the key of the call can be looked for
pub record CanFind (g : Geometry) (e : Given) (b : Bucket) (key : List ℕ) (s : RunState) : Type 0 where
  pub valid : IsValid g
  pub stands : StandsFor g s.words b
  pub bounded : IsBounded b
  pub has_key : HasKey e.input key
  pub some : 1 ≤ length key
  pub parsed : IsParsed s.stage
  pub constants : HasConstants g b.moment s

-- a free slot can be asked for
pub record CanAsk (g : Geometry) (e : Given) (m : ℕ) (s : RunState) : Type 0 where
  pub valid : IsValid g
  pub fit : FitIsAnswer g e
  pub time : s.stage ≡ timed
  pub constants : HasConstants g m s

-- these input words can be copied over the words ws, from the address a on
abbrev pub CanCopyTo : Given → ℕ → List ℕ → List ℕ → ℕ → Post
CanCopyTo e index vs ws a s = CanCopy e.input index vs ws a s.words s.stage s.floor (s.regs r_one) (s.regs r_address) (s.regs r_index) (s.regs r_limit)

-- these input words can become the value of slot i of the words ws
pub record CanStoreOver (g : Geometry) (e : Given) (ws : List ℕ) (index i : ℕ) (vs : List ℕ) (s : RunState) : Type 0 where
  pub same : s.words ≡ ws
  pub can : CanStoreIn g e index i vs s

-- the bucket can be changed: of its words the first alone may have been stored
pub record CanChange (g : Geometry) (b : Bucket) (s : RunState) : Type 0 where
  pub valid : IsValid g
  pub stands : StandsFor g s.words b
  pub constants : HasConstants g b.moment s
  pub low : s.floor ≤ 1

-- the bucket can be changed, and the find gave the place of the key's item
pub record HasFound (g : Geometry) (b : Bucket) (key : List ℕ) (old : Item) (s : RunState) : Type 0 where
  pub can : CanChange g b s
  pub present : IsPresent g s.words b key old (s.regs r_place)

-- the item x can be put in the place of the key's item. Its value is in the input words from `index` on, w at most
pub record CanPut (g : Geometry) (e : Given) (b : Bucket) (key : List ℕ) (x : Item) (index w : ℕ) (s : RunState) : Type 0 where
  pub old : Item
  pub found : HasFound g b key old s
  pub loaded : HasLoaded e.input index w g x s
  pub unique : s.regs r_unique ≡ x.unique
  pub parsed : IsParsed s.stage

-- the expiry can be put into the key's item
pub record CanPutExpiry (g : Geometry) (b : Bucket) (key : List ℕ) (old : Item) (expiry : ℕ) (s : RunState) : Type 0 where
  pub found : HasFound g b key old s
  pub loaded : s.regs r_expiry ≡ expiry

-- the item with another expiry
abbrev pub until : ℕ → Item → Item
until expiry x = record x { expiry = expiry }
