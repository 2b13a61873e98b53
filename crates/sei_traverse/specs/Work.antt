-- What an act comes to, a step, and a part of one, whatever the core answers.
use Rattle.std.specs.Prelude.{◌≡◌, ℕ, List, Option}
use Rattle.sei_fault.specs.Counts.{Counts}
use Rattle.sei_fault.specs.Question.{Question, Answer}
use Rattle.sei_fault.specs.Tree.{Tree, Runs}
use Rattle.sei_words.specs.LentBucket.{words_of, bucket_of}
use Rattle.sei_words.specs.Words.{BucketWords}
use Rattle.sei_stmt.specs.Handling.{Behavior}
use Rattle.sei_pass.specs.declared.frame.PassStep.{PassStep}
use Rattle.sei_pass.specs.declared.given.Which.{Which}
use Rattle.sei_pass.specs.declared.spaces.PassSpace.{PassSpace}
use Rattle.sei_pass.specs.Frames.{outcome_of}
use Rattle.sei_pass.specs.Steps.{Stepped}
use Rattle.sei_traverse.specs.declared.turned.State.{State}
use Rattle.sei_traverse.specs.declared.workspace.Ending.{Ending}
use Rattle.sei_traverse.specs.declared.workspace.Workspace.{Workspace}
use Rattle.sei_traverse.specs.Acts.{Acted, acted}
use Rattle.sei_traverse.specs.Given.{Given, given_of, setting_in}
use Rattle.sei_traverse.specs.PassActs.{machine_in, with_machine}
use Rattle.sei_traverse.specs.Step.{StepResult, step_result, Timed, TimedTwice}

-- what is worked on: a workspace, what is lent to it, and its core
pub record Work (S : Type 0) : Type 0 where
  pub workspace : Workspace
  pub lent : Option BucketWords
  pub core : S

abbrev pub work : {S : Type 0} → Workspace → Option BucketWords → S → Work S
work workspace lent core = record { workspace = workspace; lent = lent; core = core }

-- for some answer of the clock, the act leads from x to y, and ends so
abbrev pub ActsAs : {S : Type 0} → (S → (q : Question) → Answer q → S → Type 0) → Option ℕ → Behavior → List ℕ → PassSpace →
    (Given → ℕ → Workspace → List ℕ → Tree Acted) → Work S → Work S → Ending → Type 0
ActsAs gives told behavior input space tree x y ending =
    Timed gives told (λ now. tree (given_of behavior input space (bucket_of x.lent)) now x.workspace (words_of x.lent))
    x.core y.core (acted y.workspace (words_of y.lent) ending)

-- the same of an act that asks no clock, and neither reads nor changes what is lent
abbrev pub ActsAlone : {S : Type 0} → (S → (q : Question) → Answer q → S → Type 0) → (Workspace → List ℕ → Tree Acted) → Workspace → S → Workspace → S → Ending → Type 0
ActsAlone gives tree w c v d ending = (words : List ℕ) → Runs gives (tree w words) c d (acted v words ending)

-- for some answer of the clock, the work leads from x to y, and the step ends so
abbrev pub GoesAs : {S : Type 0} → (S → (q : Question) → Answer q → S → Type 0) → Option ℕ → Behavior → List ℕ → PassSpace →
    (Given → ℕ → Workspace → List ℕ → Tree StepResult) → Work S → Work S → State → Type 0
GoesAs gives told behavior input space tree x y state =
    Timed gives told (λ now. tree (given_of behavior input space (bucket_of x.lent)) now x.workspace (words_of x.lent))
    x.core y.core (step_result y.workspace (words_of y.lent) state)

-- for two answers of the clock, the work leads from x to this core, and comes to this
abbrev pub ComesTo : {S : Type 0} → (S → (q : Question) → Answer q → S → Type 0) → Option ℕ → Behavior → List ℕ → PassSpace →
    (Given → ℕ → ℕ → Workspace → List ℕ → Tree StepResult) → Work S → S → StepResult → Type 0
ComesTo gives told behavior input space tree x core z =
    TimedTwice gives told (λ now later. tree (given_of behavior input space (bucket_of x.lent)) now later x.workspace (words_of x.lent)) x.core core z

-- the same, where the step ends so on y
abbrev pub TurnsAs : {S : Type 0} → (S → (q : Question) → Answer q → S → Type 0) → Option ℕ → Behavior → List ℕ → PassSpace →
    (Given → ℕ → ℕ → Workspace → List ℕ → Tree StepResult) → Work S → Work S → State → Type 0
TurnsAs gives told behavior input space tree x y state = ComesTo gives told behavior input space tree x y.core (step_result y.workspace (words_of y.lent) state)

-- the step of a pass at this place leads from x to y, and comes to this; it changes the pass, its log and the notes alone
pub record StepsIn {S : Type 0} (gives : S → (q : Question) → Answer q → S → Type 0) (counts : S → Counts) (told : Option ℕ) (behavior : Behavior) (input : List ℕ)
    (space : PassSpace) (which : Which) (x y : Work S) (step : PassStep) : Type 0 where
  pub stepped : Stepped gives counts told (setting_in (given_of behavior input space (bucket_of x.lent)) which x.workspace.sealed) x.workspace.place.index
      (machine_in which x.workspace (words_of x.lent)) (machine_in which y.workspace (words_of y.lent)) (outcome_of step) x.core y.core
  pub rest : with_machine which x.workspace (machine_in which y.workspace (words_of y.lent)) ≡ y.workspace
