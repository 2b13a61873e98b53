-- How many questions of a piece of work count in the bounds on how much was asked: those of `value`, `written` and `test`.
use Rattle.std.specs.Prelude.{ℕ, ◌+◌}
use Rattle.sei_fault.specs.Question.{Question, honestly_to}
use Rattle.sei_fault.specs.Question.Question.{Value, Written, Test, Often, Goes}
use Rattle.sei_fault.specs.Tree.{Tree}
use Rattle.sei_fault.specs.Tree.Tree.{Done, Ask}

-- what a question weighs there: one of `value`, `written` or `test` weighs 1, and every other one nothing. A further question
-- is one more case here as well
abbrev pub weight : Question → ℕ
weight (Value h) = 1
weight (Written h) = 1
weight (Test h) = 1
weight (Often site) = 0
weight (Goes h) = 0

-- what the questions of the honest run weigh together
abbrev pub weighed : {R : Type 0} → Tree R → ℕ
weighed (Done r) = 0
weighed (Ask q k) = weight q + weighed (k (honestly_to q))
