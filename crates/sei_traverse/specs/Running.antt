-- Many steps of a traversal.
use Rattle.std.specs.Prelude.{◌≡◌, ℕ, suc, ◌+◌, ◌-◌, ◌^◌, ◌<◌, ◌≤◌, Bool, true, false, List, Option, min}
use Rattle.sei_fault.specs.Chain.{Chain}
use Rattle.sei_fault.specs.Counts.{Counts}
use Rattle.sei_fault.specs.Question.{Question, Answer}
use Rattle.sei_fault.specs.Tree.{Tree, bound}
use Rattle.sei_fault.specs.Tree.Tree.{Done as Ended}
use Rattle.sei_words.specs.LentBucket.{place_of}
use Rattle.sei_words.specs.Words.{BucketWords}
use Rattle.sei_pass.specs.declared.loops.Exit.{Exit}
use Rattle.sei_pass.specs.declared.loops.Exit.TheVariants.{At, Halted, Bad, Struck, Alone}
use Rattle.sei_pass.specs.declared.spaces.PassSpace.{PassSpace}
use Rattle.sei_traverse.specs.declared.turned.Many.{Many}
use Rattle.sei_traverse.specs.declared.turned.State.{State}
use Rattle.sei_traverse.specs.declared.turned.State.TheVariants.{Went}
use Rattle.sei_traverse.specs.declared.turned.Turned.{Turned}
use Rattle.sei_traverse.specs.declared.turned.Want.TheVariants.{Nothing}
use Rattle.sei_traverse.specs.declared.workspace.Workspace.{Workspace}
use Rattle.sei_traverse.specs.Acts.{at, closes, next_phase}
use Rattle.sei_traverse.specs.Noting.{NotesTime}
use Rattle.sei_traverse.specs.Given.{Given}
use Rattle.sei_stmt.specs.Handling.{Behavior}
use Rattle.sei_traverse.specs.State.{TraversalState, IsTraversal, one_more, is_running}
use Rattle.sei_traverse.specs.Step.{StepResult, step_result, aborted, arrival, goes_on, step_as, traversal_step}
use Rattle.sei_traverse.specs.Work.{Work, work, ComesTo, TurnsAs}

-- a traversal, what is lent to it, and its core
pub record On (S : Type 0) : Type 0 where
  pub traversal : TraversalState
  pub lent : Option BucketWords
  pub core : S

abbrev pub on : {S : Type 0} → TraversalState → Option BucketWords → S → On S
on traversal lent core = record { traversal = traversal; lent = lent; core = core }

abbrev pub work_on : {S : Type 0} → On S → Work S
work_on x = work x.traversal.workspace x.lent x.core

-- one step of the definition, whatever the core answers, which leads there and turned out so
pub record StepsTo {S : Type 0} (gives : S → (q : Question) → Answer q → S → Type 0) (told : Option ℕ) (behavior : Behavior) (input : List ℕ) (x y : On S) (state : State) : Type 0 where
  pub turned : TurnsAs gives told behavior input x.traversal.space traversal_step (work_on x) (work_on y) state
  pub lent : place_of y.lent ≡ place_of x.lent
  pub sealed : y.traversal.workspace.sealed ≡ x.traversal.workspace.sealed
  pub space : y.traversal.space ≡ x.traversal.space
  pub steps : y.traversal.steps ≡ one_more x.traversal.steps

-- all that holds of such a step, as the code makes it
pub record Makes {S : Type 0} (gives : S → (q : Question) → Answer q → S → Type 0) (counts : S → Counts) (told : Option ℕ) (behavior : Behavior) (input : List ℕ)
    (x y : On S) (t : Turned) : Type 0 where
  pub turned : TurnsAs gives told behavior input x.traversal.space traversal_step (work_on x) (work_on y) t.state
  pub want : t.want ≡ y.traversal.workspace.want
  pub lent : place_of y.lent ≡ place_of x.lent
  pub sealed : y.traversal.workspace.sealed ≡ x.traversal.workspace.sealed
  pub space : y.traversal.space ≡ x.traversal.space
  pub steps : y.traversal.steps ≡ one_more x.traversal.steps
  pub running : y.traversal.running ≡ is_running t.state
  -- logs, outputs and copies keep their rooms
  pub rooms : IsTraversal y.traversal
  -- what is noted of the time is the clock's answer
  pub noted : NotesTime told x.traversal.workspace.notes.now y.traversal.workspace.notes.now
  -- no question is taken back, and no strike; at its last value the count of questions stands still
  pub asked : min (counts x.core).asked (2 ^ 128 - 1) ≤ (counts y.core).asked
  pub struck : (counts x.core).struck ≤ (counts y.core).struck

-- nothing is wanted, and the traversal goes on
abbrev pub quiet : Turned
quiet = record { want = Nothing; state = Went }

-- a step that turned out so
abbrev pub Quiet : {S : Type 0} → (S → (q : Question) → Answer q → S → Type 0) → (S → Counts) → Option ℕ → Behavior → List ℕ → On S → On S → Type 0
Quiet gives counts told behavior input x y = Makes gives counts told behavior input x y quiet

-- n quiet steps, and one more that turned out so
pub record RunsOn {S : Type 0} (gives : S → (q : Question) → Answer q → S → Type 0) (counts : S → Counts) (told : Option ℕ) (behavior : Behavior) (input : List ℕ)
    (n : ℕ) (x z : On S) (t : Turned) : Type 0 where
  pub last : On S
  pub chain : Chain (Quiet gives counts told behavior input) n x last
  pub makes : Makes gives counts told behavior input last z t

-- a traversal on this workspace, which goes on
abbrev pub begun_at : Workspace → PassSpace → ℕ → TraversalState
begun_at w space steps = record { workspace = w; space = space; steps = steps; running = true }

-- the same after a run
abbrev pub left_at : Workspace → PassSpace → ℕ → Many → TraversalState
left_at w space steps many = record { workspace = w; space = space; steps = min (steps + suc many.before) (2 ^ 64 - 1); running = is_running many.turned.state }

-- such a run, however many steps were made before it
abbrev pub RunsAs : {S : Type 0} → (S → (q : Question) → Answer q → S → Type 0) → (S → Counts) →
    Option ℕ → Behavior → List ℕ → PassSpace → Work S → Work S → Many → Type 0
RunsAs gives counts told behavior input space x y many =
    (steps : ℕ) → steps < 2 ^ 64 → RunsOn gives counts told behavior input many.before
    (on (begun_at x.workspace space steps) x.lent x.core) (on (left_at y.workspace space steps many) y.lent y.core) many.turned

-- the phase is closed, and the traversal goes on to the next one
abbrev pub halted_tree : Workspace → List ℕ → Tree StepResult
halted_tree w words = bound (closes w.place.phase w words Nothing (at (next_phase w.place.phase) 0)) goes_on

-- what is left to do of a step of a pass if the loop over its steps left it so. The place is still that of the step
abbrev pub rest : Exit → Given → ℕ → ℕ → Workspace → List ℕ → Tree StepResult
rest (At p) g now later w words = Ended (step_result (record w { place = p }) words (arrival w.place.phase p w.gate.done))
rest Halted g now later w words = halted_tree w words
rest (Bad cause) g now later w words = Ended (step_result w words (aborted w.place.phase cause))
rest (Struck act times) g now later w words = step_as g now later w words act times
rest Alone g now later w words = traversal_step g now later w words

-- a step that was begun: it is whole, and the traversal goes on, or whatever does what is left of it makes it whole
abbrev pub Begins : {S : Type 0} → (S → (q : Question) → Answer q → S → Type 0) → Option ℕ → Behavior → List ℕ → PassSpace → Work S → Work S → Exit → Bool → Type 0
Begins gives told behavior input space x y exit true = TurnsAs gives told behavior input space traversal_step x y Went
Begins gives told behavior input space x y exit false =
    (core : _) (z : StepResult) → ComesTo gives told behavior input space (rest exit) y core z → ComesTo gives told behavior input space traversal_step x core z

-- the same, whatever the clock answers and the input is
abbrev pub BeginsStep : {S : Type 0} → (S → (q : Question) → Answer q → S → Type 0) → Behavior → Work S → Work S → Exit → Bool → Type 0
BeginsStep gives behavior x y exit whole =
    (told : Option ℕ) (input : List ℕ) (space : PassSpace) → x.workspace.first.space ≡ space → Begins gives told behavior input space x y exit whole
