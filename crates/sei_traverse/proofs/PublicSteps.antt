-- What holds of one step of the definition, whatever the core answers.
use Rattle.std.proofs.Common.{◌≡◌, ℕ, List, Option, sym, subst}
use Rattle.sei_fault.specs.Counts.{Counts, Answered}
use Rattle.sei_fault.specs.Question.{Question, Answer, honestly_to}
use Rattle.sei_words.specs.LentBucket.{words_of, bucket_of}
use Rattle.sei_stmt.specs.Handling.{Behavior}
use Rattle.sei_traverse.specs.declared.turned.State.{State}
use Rattle.sei_traverse.specs.Given.{given_of}
use Rattle.sei_traverse.specs.Promises.{KeepsBound, KeepsRoom, KeepsTime, KeepsOnWay, KeepsIsolated, RefusesUnfit, RefusedAtGuard, turned_at, OfEachStep}
use Rattle.sei_traverse.specs.declared.turned.Turned.{Turned}
use Rattle.sei_traverse.specs.declared.turned.Want.{Want}
use Rattle.sei_traverse.specs.Running.{On, StepsTo, Makes}
use Rattle.sei_traverse.specs.Step.{step_result, traversal_step}
use Rattle.sei_traverse.specs.State.{IsTraversal}
use Rattle.sei_traverse.proofs.Isolated.{isolates_one}
use Rattle.sei_traverse.proofs.NotingLaws.{notes_time}
use Rattle.sei_traverse.proofs.Onward.{stays_on_way_given, refused_run}
use Rattle.sei_traverse.proofs.RefusingLaws.{refused_at_guard}
use Rattle.sei_traverse.proofs.StepsBound.{steps_after_turned, room_left_turned}

module _ {S : Type 0} (gives : S → (q : Question) → Answer q → S → Type 0) (counts : S → Counts)
    (law : (s : S) (q : Question) (a : Answer q) (t : S) → gives s q a t → Answered (a ≡ honestly_to q) (counts s) (counts t))
    (told : Option ℕ) (behavior : Behavior) (input : List ℕ) (x y : On S) (state : State) (step : StepsTo gives told behavior input x y state) where
  -- one strike is isolated
  pub step_isolates : KeepsIsolated counts told behavior input x y (turned_at y state)
  step_isolates = λ e begin trusted tells same_behavior same_input lends facts few.
      isolates_one gives counts law told e begin x.traversal y.traversal x.lent y.lent state x.core y.core behavior input same_behavior same_input
      step.turned step.lent step.space step.steps step.sealed trusted tells lends facts few

  -- with one strike at most, the number of steps stays bounded
  pub step_within : IsTraversal x.traversal → KeepsBound counts x y (turned_at y state)
  step_within is = λ begin within.
      steps_after_turned gives counts law told (given_of behavior input x.traversal.space (bucket_of x.lent)) (words_of x.lent) (words_of y.lent) begin x.traversal y.traversal state x.core y.core
      step.turned is step.space step.steps within

  -- a traversal that is on its way stays on it
  pub step_on_way : KeepsOnWay counts told behavior input x y (turned_at y state)
  step_on_way = λ e begin call_context tells same_behavior same_input lends way.
      stays_on_way_given gives counts law told e begin x.traversal y.traversal x.lent y.lent state x.core y.core behavior input same_behavior same_input
      step.turned step.lent step.space step.steps call_context tells lends way

  -- no more strikes fall than the room of the core allows
  pub step_room : KeepsRoom counts x y
  step_room =
      room_left_turned gives counts law told (λ now later. traversal_step (given_of behavior input x.traversal.space (bucket_of x.lent)) now later x.traversal.workspace (words_of x.lent))
      x.core y.core (step_result y.traversal.workspace (words_of y.lent) state) step.turned

  -- without a strike an unfit input is refused
  pub step_refuses : RefusesUnfit counts behavior input x y (turned_at y state)
  step_refuses = λ unfit same.
      refused_run gives counts law told behavior input x.traversal.space (bucket_of x.lent) x.traversal.workspace y.traversal.workspace (words_of x.lent) (words_of y.lent) state x.core y.core
      step.turned unfit same

  -- what is noted of the time is the clock's answer
  pub step_notes : KeepsTime told x y
  step_notes =
      notes_time told gives (given_of behavior input x.traversal.space (bucket_of x.lent)) x.traversal.workspace y.traversal.workspace (words_of x.lent) (words_of y.lent) state x.core y.core step.turned

  -- it is refused only at Guard
  pub step_at_guard : RefusedAtGuard x (turned_at y state)
  step_at_guard =
      refused_at_guard gives told (given_of behavior input x.traversal.space (bucket_of x.lent)) x.traversal.workspace y.traversal.workspace (words_of x.lent) (words_of y.lent) state x.core y.core step.turned

-- what holds of each step of the definition, holds of each step that the code makes
pub of_made : {S : Type 0} (gives : S → (q : Question) → Answer q → S → Type 0) (counts : S → Counts) (Holds : Option ℕ → Behavior → List ℕ → On S → On S → Turned → Type 0) →
    OfEachStep gives Holds → (told : Option ℕ) (behavior : Behavior) (input : List ℕ) (x y : On S) (t : Turned) → Makes gives counts told behavior input x y t → Holds told behavior input x y t
of_made gives counts Holds each told behavior input x y t m =
    subst (λ (want : Want). Holds told behavior input x y (record { want = want; state = t.state })) (sym m.want)
    (each told behavior input x y t.state (record { turned = m.turned; lent = m.lent; sealed = m.sealed; space = m.space; steps = m.steps }))
