-- A run of a core whose answers are a function is itself a function of the core's state.
use Rattle.std.proofs.Common.{◌≡◌, ap, ◌∙◌}
use Rattle.sei_fault.specs.Question.{Question, Answer}
use Rattle.sei_fault.specs.Scripted.{function_core, scripted}
use Rattle.sei_fault.specs.Tree.{Tree, Runs}
use Rattle.sei_fault.specs.Tree.Tree.{Done, Ask}

pub scripted_runs : {S R : Type 0} (answer : S → (q : Question) → Answer q) (next : S → Question → S) (t : Tree R) (s u : S) (x : R) →
    Runs (function_core answer next) t s u x → (x, u) ≡ scripted answer next t s
scripted_runs {S} {R} answer next (Done r) s u x (e, f) = ap (λ (y : R). let p : R × S = (y, u) in p) e ∙ ap (λ (y : S). let p : R × S = (r, y) in p) f
scripted_runs answer next (Ask q k) s u x (a, m, (e, f), r) =
    scripted_runs answer next (k a) m u x r
    ∙ ap (λ y. scripted answer next (k a) y) f
    ∙ ap (λ (y : Answer q). scripted answer next (k y) (next s q)) e
