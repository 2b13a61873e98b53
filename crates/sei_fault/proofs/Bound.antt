-- The honest run of a piece of work behind another, and its questions, by the two.
use Rattle.std.proofs.Common.{◌≡◌, ◌+◌, ◌≤◌, arith, refl}
use Rattle.sei_fault.specs.Question.{Question, honestly_to}
use Rattle.sei_fault.specs.Question.Question.{Value, Written, Test, Often, Goes}
use Rattle.sei_fault.specs.Tree.{Tree, honest, questions, bound}
use Rattle.sei_fault.specs.Tree.Tree.{Done, Ask}
use Rattle.sei_fault.specs.Weights.{weight, weighed}

pub honest_bound : {A B : Type 0} (t : Tree A) (f : A → Tree B) → honest (bound t f) ≡ honest (f (honest t))
honest_bound (Done r) f = refl
honest_bound (Ask q k) f = honest_bound (k (honestly_to q)) f

pub weighed_bound : {A B : Type 0} (t : Tree A) (f : A → Tree B) → weighed (bound t f) ≡ weighed t + weighed (f (honest t))
weighed_bound (Done r) f = omega arith
weighed_bound (Ask q k) f = omega (arith, weighed_bound (k (honestly_to q)) f)

-- no question weighs more than it counts
pub weight_least : (q : Question) → weight q ≤ 1
weight_least (Value h) = omega arith
weight_least (Written h) = omega arith
weight_least (Test h) = omega arith
weight_least (Often site) = omega arith
weight_least (Goes h) = omega arith

pub weighed_least : {R : Type 0} (t : Tree R) → weighed t ≤ questions t
weighed_least (Done r) = omega arith
weighed_least (Ask q k) = omega (arith, weight_least q, weighed_least (k (honestly_to q)))
