-- What the questions of an honest run weigh, in the bounds on how much was asked.
use Rattle.std.specs.Prelude.{ℕ, zero, suc, ◌+◌, false}
use Rattle.sei_fault.specs.Weights.{weighed}
use Rattle.sei_stmt.specs.Machine.{Machine, Setting, Outcome}
use Rattle.sei_stmt.specs.Machine.Outcome.{Next, Halted, Bad}
use Rattle.sei_stmt.specs.Honest.{after}
use Rattle.sei_stmt.specs.Statements.{step_tree}

-- what the questions of a step weigh
abbrev pub weighed_in : Setting → Machine → Outcome → ℕ
weighed_in g m (Next i) = weighed (step_tree g i m)
weighed_in g m Halted = 0
weighed_in g m (Bad cause) = 0

-- what the questions of n honest steps weigh
abbrev pub weighed_after : Setting → Machine → ℕ → ℕ
weighed_after g start zero = 0
weighed_after g start (suc n) = weighed_after g start n + weighed_in g (after g start n).machine (after g start n).outcome

-- the setting of a first pass
abbrev pub making : Setting → Setting
making g = record g { reading = false }

-- n honest steps are made, and at each of its machines the questions are weighed that a first pass asks there
abbrev pub first_weighed : Setting → Machine → ℕ → ℕ
first_weighed g start zero = 0
first_weighed g start (suc n) = first_weighed g start n + weighed_in (making g) (after g start n).machine (after g start n).outcome
