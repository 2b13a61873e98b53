-- Runs of pieces of work: one behind another, as a core's own, and what always holds of their ends.
use Rattle.std.proofs.Common.{◌≡◌, ap, subst, sym}
use Rattle.sei_fault.specs.Counts.{Counts, Answered}
use Rattle.sei_fault.specs.Question.{Question, Answer, honestly_to}
use Rattle.sei_fault.specs.Tree.{Tree, Runs, any_core, honest, bound, Always}
use Rattle.sei_fault.specs.Tree.Tree.{Done, Ask}

-- a run of a core that keeps the law of `Core` is, by its counts, a run of any core
pub counted_runs : {S R : Type 0} (gives : S → (q : Question) → Answer q → S → Type 0) (counts : S → Counts) →
    ((s : S) (q : Question) (a : Answer q) (t : S) → gives s q a t → Answered (a ≡ honestly_to q) (counts s) (counts t)) →
    (t : Tree R) (c d : S) (x : R) → Runs gives t c d x → Runs any_core t (counts c) (counts d) x
counted_runs gives counts law (Done r) c d x (e, f) = (e, ap counts f)
counted_runs gives counts law (Ask q k) c d x (a, m, g, r) = (a, counts m, law c q a m g, counted_runs gives counts law (k a) m d x r)

-- a run, and a run behind it
pub runs_bound : {S A B : Type 0} (gives : S → (q : Question) → Answer q → S → Type 0) (t : Tree A) (f : A → Tree B) (c m d : S) (x : A) (y : B) →
    Runs gives t c m x → Runs gives (f x) m d y → Runs gives (bound t f) c d y
runs_bound {S} {A} {B} gives (Done r) f c m d x y (e, g) h =
    subst (λ (z : A). Runs gives (f z) c d y) e (subst (λ (s : S). Runs gives (f x) s d y) g h)
runs_bound gives (Ask q k) f c m d x y (a, n, g, r) h = (a, n, g, runs_bound gives (k a) f n m d x y r h)

-- what always holds, holds of the end of each run
pub always : {S R : Type 0} (gives : S → (q : Question) → Answer q → S → Type 0) (P : R → Type 0) (t : Tree R) (c d : S) (x : R) → Always P t → Runs gives t c d x → P x
always gives P (Done r) c d x p (e, f) = subst P (sym e) p
always gives P (Ask q k) c d x p (a, m, g, r) = always gives P (k a) m d x (p a) r

-- of the honest end
pub always_honest : {R : Type 0} (P : R → Type 0) (t : Tree R) → Always P t → P (honest t)
always_honest P (Done r) p = p
always_honest P (Ask q k) p = always_honest P (k (honestly_to q)) (p (honestly_to q))

-- and so does what follows from it
pub always_map : {R : Type 0} (P Q : R → Type 0) (t : Tree R) → ((x : R) → P x → Q x) → Always P t → Always Q t
always_map P Q (Done r) h p = h r p
always_map P Q (Ask q k) h p = λ a. always_map P Q (k a) h (p a)
