-- How a run with one strike may end, and what its questions weigh.
use Rattle.std.specs.Prelude.{◌≡◌, ℕ, ◌+◌, ◌⊎◌}
use Rattle.sei_fault.specs.Question.{Question, Answer, honestly_to}
use Rattle.sei_fault.specs.Tree.{Tree, honest}
use Rattle.sei_fault.specs.Tree.Tree.{Done, Ask}
use Rattle.sei_fault.specs.Weights.{weight, weighed}

-- the answer of this question is any answer, each later one is honest, and from here on the questions weigh n
pub record StrikesHere {R : Type 0} (q : Question) (k : Answer q → Tree R) (x : R) (n : ℕ) : Type 0 where
  pub answer : Answer q
  pub end : x ≡ honest (k answer)
  pub asked : n ≡ weight q + weighed (k answer)

-- the work ends with x and its questions weigh n, if one answer is any answer and each other one is honest
abbrev pub StruckRun : {R : Type 0} → Tree R → R → ℕ → Type 0
StruckRun (Done r) x n = ⊥
StruckRun (Ask q k) x n = StrikesHere q k x n ⊎ ((m : ℕ) × (n ≡ weight q + m) × StruckRun (k (honestly_to q)) x m)
