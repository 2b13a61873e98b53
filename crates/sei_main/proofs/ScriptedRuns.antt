-- The run of a core whose answers are a function, and what no plan leaves of its stage.
use Rattle.std.proofs.Common.{◌≡◌, ℕ, ◌≤◌, None, refl, arith}
use Rattle.sei_fault.specs.Counts.{counted}
use Rattle.sei_fault.specs.Question.{Question, Answer}
use Rattle.sei_fault.specs.Question.Question.{Value, Written, Test, Often, Goes}
use Rattle.sei_fault.specs.Script.{ScriptState, script_answer, script_next, fallen}
use Rattle.sei_fault.specs.declared.script.Stage.{Stage}
use Rattle.sei_fault.specs.declared.script.Stage.TheVariants as stage
use Rattle.sei_fault.specs.Scripted.{function_core, scripted}
use Rattle.sei_fault.specs.Tree.{Tree, Runs}
use Rattle.sei_fault.specs.Tree.Tree.{Done, Ask}
use Rattle.std.proofs.Common.{◌∙◌, ap}

-- where the work ends under these functions, it ends in a run
pub runs_scripted : {S R : Type 0} (answer : S → (q : Question) → Answer q) (next : S → Question → S) (t : Tree R) (s : S) →
    Runs (function_core answer next) t s (scripted answer next t s).1 (scripted answer next t s).0
runs_scripted answer next (Done r) s = (refl, refl)
runs_scripted answer next (Ask q k) s = (answer s q, next s q, (refl, refl), runs_scripted answer next (k (answer s q)) (next s q))

-- one strike falls at most
pub one_falls : (s : Stage) → fallen s ≤ 1
one_falls stage.Waiting = omega arith
one_falls (stage.Armed n) = omega arith
one_falls stage.Struck = omega arith
one_falls stage.Over = omega arith

-- a core without a plan
abbrev pub unplanned : ℕ → ScriptState
unplanned asked = record { asked = asked; plan = None; stage = stage.Waiting }

-- goes on without one
unplanned_next : (asked : ℕ) (q : Question) → script_next (unplanned asked) q ≡ unplanned (counted asked)
unplanned_next asked (Value h) = refl
unplanned_next asked (Written h) = refl
unplanned_next asked (Test h) = refl
unplanned_next asked (Often site) = refl
unplanned_next asked (Goes h) = refl

pub unplanned_stays : {R : Type 0} (t : Tree R) (asked : ℕ) → (n : ℕ) × ((scripted script_answer script_next t (unplanned asked)).1 ≡ unplanned n)
unplanned_stays (Done r) asked = (asked, refl)
unplanned_stays (Ask q k) asked =
    let rest = unplanned_stays (k (script_answer (unplanned asked) q)) (counted asked) in
    (rest.0, ap (λ (s : ScriptState). (scripted script_answer script_next (k (script_answer (unplanned asked) q)) s).1) (unplanned_next asked q) ∙ rest.1)
