-- A sound handler, for the passes of a traversal.
use Rattle.std.specs.Prelude.{◌≡◌, ℕ, ◌<◌, List, Some, All}
use Rattle.sei_code.specs.Coded.{sealed, read_of}
use Rattle.sei_stmt.specs.Handling.{Parsed}
use Rattle.sei_stmt.specs.Passes.{Space}
use Rattle.sei_stmt.specs.Sound.{IsSoundHandler}
use Rattle.sei_pass.specs.Spaces.{space_in}
use Rattle.sei_traverse.specs.declared.workspace.Workspace.{Workspace}
use Rattle.sei_traverse.specs.CallContext.{CallContext, TellsTime, given_in}
use Rattle.sei_traverse.specs.Phases.{reply_of}
use Rattle.sei_traverse.specs.Given.{call_of}
use Rattle.sei_traverse.specs.Struck.{IsHonestResult}

-- a sound handler serves the call context: the input is bytes, its call is the sealed one and its space that of the call, if there
-- is one, the clock tells numbers of 64 bits, if it tells them, and the words that were taken are some on which a run starts
pub record IsServedBy {B : Type 0} (space_of : List ℕ → ℕ → Space) (Before Stands : List ℕ → B → Type 0) (answer : List ℕ → ℕ → B → ℕ → B × List ℕ)
    (e : CallContext) : Type 0 where
  pub handler : IsSoundHandler e.behavior space_of e.space.geometry.buckets Before Stands answer
  pub bytes : All (λ b. b < 256) e.input
  pub call : (p : Parsed) → call_of (given_in e) e.sealed ≡ Some p → e.call ≡ p
  pub space : (nth : ℕ) → read_of e.sealed.nth ≡ Some nth → space_of e.input nth ≡ space_in e.space
  pub clock : TellsTime e.clock
  pub held : B
  pub begins : Before e.taken held

-- the words stand for what the answer to the sealed call leaves at the noted time, and the reply is the answer's
pub record IsModelAnswer {B : Type 0} (Stands : List ℕ → B → Type 0) (answer : List ℕ → ℕ → B → ℕ → B × List ℕ) (held : B) (e : CallContext)
    (w : Workspace) (words : List ℕ) : Type 0 where
  pub nth : ℕ
  pub reads : read_of e.sealed.nth ≡ Some nth
  pub time : ℕ
  pub noted : w.notes.now ≡ Some (sealed time)
  pub stands : Stands words (answer e.input nth held time).0
  pub reply : reply_of w ≡ (answer e.input nth held time).1

-- what is to be entered is the answer
abbrev pub GivesModelAnswer : {B : Type 0} → (List ℕ → B → Type 0) → (List ℕ → ℕ → B → ℕ → B × List ℕ) → B → CallContext → Type 0
GivesModelAnswer Stands answer held e = (w : Workspace) (words : List ℕ) (asked : ℕ) → IsHonestResult e w words asked → IsModelAnswer Stands answer held e w words
