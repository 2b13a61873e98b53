-- The act at a place, from the act of its phase.
use Rattle.std.proofs.Common.{◌≡◌, ℕ, List, Option, sym, subst}
use Rattle.sei_fault.specs.declared.place.Phase.{Phase}
use Rattle.sei_fault.specs.Question.{Question, Answer}
use Rattle.sei_fault.specs.Tree.{Runs}
use Rattle.sei_pass.proofs.Public.{some_answer}
use Rattle.sei_traverse.specs.declared.workspace.Workspace.{Workspace}
use Rattle.sei_traverse.specs.Acts.{Acted}
use Rattle.sei_traverse.specs.Given.{Given}
use Rattle.sei_traverse.specs.Step.{act_in, act_tree, Timed}

module _ {S : Type 0} (gives : S → (q : Question) → Answer q → S → Type 0) (told : Option ℕ) (w : Workspace) (words : List ℕ) (phase : Phase) (s t : S) (x : Acted) where
  -- one that does not look at the clock
  pub plain_act : (g : Given) → w.place.phase ≡ phase → ((now : ℕ) → Runs gives (act_in g now phase w.place.index w words) s t x) → Timed gives told (λ now. act_tree g now w words) s t x
  plain_act g e r =
      let a = some_answer told in
      record { now = a.0; answer = a.1; runs = subst (λ (p : Phase). Runs gives (act_in g a.0 p w.place.index w words) s t x) (sym e) (r a.0) }

  -- one of a pass
  pub timed_act : (g : Given) → w.place.phase ≡ phase → Timed gives told (λ now. act_in g now phase w.place.index w words) s t x → Timed gives told (λ now. act_tree g now w words) s t x
  timed_act g e r = record { now = r.now; answer = r.answer; runs = subst (λ (p : Phase). Runs gives (act_in g r.now p w.place.index w words) s t x) (sym e) r.runs }
