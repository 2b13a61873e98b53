-- What is left of a step of a pass, by how the loop left it.
use Rattle.std.proofs.Common.{◌≡◌, ℕ, List, Option, sym, subst}
use Rattle.sei_fault.specs.declared.place.Phase.{Phase}
use Rattle.sei_fault.specs.Question.{Question, Answer}
use Rattle.sei_fault.specs.Tree.{Runs, bound}
use Rattle.sei_fault.proofs.Public.{runs_bound}
use Rattle.sei_pass.specs.declared.loops.Exit.{Exit}
use Rattle.sei_pass.proofs.Public.{some_answer}
use Rattle.sei_traverse.specs.declared.turned.Want.TheVariants.{Nothing}
use Rattle.sei_traverse.specs.declared.workspace.Ending.{Ending}
use Rattle.sei_traverse.specs.declared.workspace.Workspace.{Workspace}
use Rattle.sei_traverse.specs.Acts.{acted, at, closes, next_phase}
use Rattle.sei_traverse.specs.Running.{rest}
use Rattle.sei_traverse.specs.Given.{Given}
use Rattle.sei_traverse.specs.Step.{StepResult, goes_from, goes_on, TimedTwice}

module _ {S : Type 0} (gives : S → (q : Question) → Answer q → S → Type 0) (w : Workspace) (words : List ℕ) where
  -- the phase is closed, and the step goes on to the next one
  pub halted_runs : (next : Phase) (v : Workspace) (e : Ending) (s m t : S) (y : StepResult) → next ≡ next_phase w.place.phase → Runs gives (closes w.place.phase w words Nothing (at next 0)) s m (acted v words e) →
      Runs gives (goes_from v words e) m t y → Runs gives (bound (closes w.place.phase w words Nothing (at (next_phase w.place.phase) 0)) goes_on) s t y
  halted_runs next v e s m t y is closed on =
      runs_bound gives (closes w.place.phase w words Nothing (at (next_phase w.place.phase) 0)) goes_on s m t (acted v words e) y
      (subst (λ (p : Phase). Runs gives (closes w.place.phase w words Nothing (at p 0)) s m (acted v words e)) is closed) on

  module _ (told : Option ℕ) (g : Given) (exit : Exit) (s t : S) (y : StepResult) where
    -- the loop left the step so
    pub rest_is : (other : Exit) → exit ≡ other → TimedTwice gives told (λ now later. rest other g now later w words) s t y → TimedTwice gives told (λ now later. rest exit g now later w words) s t y
    rest_is other e r = subst (λ (x : Exit). TimedTwice gives told (λ now later. rest x g now later w words) s t y) (sym e) r

    -- and what is left does not look at the clock
    pub rest_plain : (other : Exit) → exit ≡ other → ((now later : ℕ) → Runs gives (rest other g now later w words) s t y) → TimedTwice gives told (λ now later. rest exit g now later w words) s t y
    rest_plain other e r = let a = some_answer told in rest_is other e (record { now = a.0; later = a.0; answer = a.1; answer_later = a.1; runs = r a.0 a.0 })
