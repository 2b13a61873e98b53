-- What a step keeps follows from what it does.
use Rattle.std.proofs.Common.{◌≡◌, ℕ, List, Option, refl, sym, ◌∙◌}
use Rattle.sei_fault.specs.Counts.{Counts, Answered}
use Rattle.sei_fault.specs.Question.{Question, Answer, honestly_to}
use Rattle.sei_fault.specs.Tree.{Tree}
use Rattle.sei_fault.proofs.Public.{always}
use Rattle.sei_words.specs.LentBucket.{words_of, bucket_of, place_of}
use Rattle.sei_traverse.specs.declared.turned.State.{State}
use Rattle.sei_traverse.specs.declared.turned.Turned.{Turned}
use Rattle.sei_traverse.specs.Running.{On, work_on, Makes}
use Rattle.sei_traverse.specs.Given.{Given, given_of}
use Rattle.sei_stmt.specs.Handling.{Behavior}
use Rattle.sei_traverse.specs.State.{IsTraversal, one_more, is_running}
use Rattle.sei_traverse.specs.Step.{StepResult, step_result, traversal_step}
use Rattle.sei_traverse.specs.Work.{TurnsAs}
use Rattle.sei_traverse.specs.Workspaces.{FitsIn}
use Rattle.sei_traverse.proofs.CountLaws.{asked_turned, struck_turned}
use Rattle.sei_traverse.proofs.NotingLaws.{notes_time}
use Rattle.sei_traverse.proofs.PublicWorkspaceKept.{KeepsWorkspace, step_kept}

module _ {S : Type 0} (gives : S → (q : Question) → Answer q → S → Type 0) (counts : S → Counts)
    (law : (s : S) (q : Question) (a : Answer q) (t : S) → gives s q a t → Answered (a ≡ honestly_to q) (counts s) (counts t)) (told : Option ℕ) (behavior : Behavior) (input : List ℕ) where
  abbrev pub given_at : On S → Given
  given_at x = given_of behavior input x.traversal.space (bucket_of x.lent)

  -- a step of the definition that ends in this state
  abbrev pub Turns : On S → On S → State → Type 0
  Turns x y state = TurnsAs gives told behavior input x.traversal.space traversal_step (work_on x) (work_on y) state

  abbrev pub KeepsOn : On S → On S → Type 0
  KeepsOn x y = KeepsWorkspace x.traversal.space (behavior.parsed input) x.traversal.workspace (words_of x.lent) y.traversal.workspace (words_of y.lent)

  pub turns_keeps : (x y : On S) (state : State) → Turns x y state → KeepsOn x y
  turns_keeps x y state turned =
      always gives (λ (z : StepResult). KeepsWorkspace x.traversal.space (behavior.parsed input) x.traversal.workspace (words_of x.lent) z.workspace z.words)
      (traversal_step (given_at x) turned.now turned.later x.traversal.workspace (words_of x.lent)) x.core y.core (step_result y.traversal.workspace (words_of y.lent) state)
      (step_kept x.traversal.space (behavior.parsed input) x.traversal.workspace (words_of x.lent) (given_at x) refl refl turned.now turned.later) turned.runs

  pub makes_one : (x y : On S) (t : Turned) → Turns x y t.state → t.want ≡ y.traversal.workspace.want → place_of y.lent ≡ place_of x.lent → y.traversal.space ≡ x.traversal.space →
      y.traversal.steps ≡ one_more x.traversal.steps → y.traversal.running ≡ is_running t.state → IsTraversal x.traversal → FitsIn x.traversal.space (behavior.parsed input) x.traversal.workspace.sealed →
      Makes gives counts told behavior input x y t
  makes_one x y t turned want lent space steps running is fits =
      let kept = turns_keeps x y t.state turned in
      let tree : ℕ → ℕ → Tree StepResult = λ now later. traversal_step (given_at x) now later x.traversal.workspace (words_of x.lent) in
      let end : StepResult = step_result y.traversal.workspace (words_of y.lent) t.state in
      record {
        turned = turned;
        want = want;
        lent = lent;
        sealed = kept.sealed;
        space = space;
        steps = steps;
        running = running;
        rooms = record { workspace = kept.workspace is.workspace is.space fits; space = kept.space ∙ is.space ∙ sym space };
        noted = notes_time told gives (given_at x) x.traversal.workspace y.traversal.workspace (words_of x.lent) (words_of y.lent) t.state x.core y.core turned;
        asked = asked_turned gives counts law told tree x.core y.core end turned;
        struck = struck_turned gives counts law told tree x.core y.core end turned;
      }
