-- Honest runs of a table: each answer of the core is honest.
use Rattle.std.specs.Prelude.{◌≡◌, ℕ, zero, suc, ◌+◌, ◌-◌, ◌^◌, ◌<◌, ◌≤◌}
use Rattle.sei_fault.specs.Counts.{Counts}
use Rattle.sei_fault.specs.Tree.{honest, questions}
use Rattle.sei_stmt.specs.Machine.{Machine, Setting, Outcome, After}
use Rattle.sei_stmt.specs.Machine.Outcome.{Next, Halted, Bad}
use Rattle.sei_stmt.specs.Statements.{step_tree}

-- one honest step more, unless the pass has ended
abbrev pub onward_from : Setting → Machine → Outcome → After
onward_from g m (Next i) = honest (step_tree g i m)
onward_from g m Halted = record { machine = m; outcome = Halted }
onward_from g m (Bad cause) = record { machine = m; outcome = Bad cause }

abbrev pub onward : Setting → After → After
onward g x = onward_from g x.machine x.outcome

-- where n honest steps lead from statement 0
abbrev pub after : Setting → Machine → ℕ → After
after g start zero = record { machine = start; outcome = Next 0 }
after g start (suc n) = onward g (after g start n)

-- how many questions a step asks
abbrev pub asked_in : Setting → Machine → Outcome → ℕ
asked_in g m (Next i) = questions (step_tree g i m)
asked_in g m Halted = 0
asked_in g m (Bad cause) = 0

-- how many questions n honest steps ask
abbrev pub asked_after : Setting → Machine → ℕ → ℕ
asked_after g start zero = 0
asked_after g start (suc n) = asked_after g start n + asked_in g (after g start n).machine (after g start n).outcome

-- an honest run: from this machine, `steps` honest steps end at Halt with that one
pub record HonestRun (g : Setting) (start end : Machine) (steps : ℕ) : Type 0 where
  pub halts : after g start steps ≡ record { machine = end; outcome = Halted }

-- a pass that is here after n steps is on its way. If nothing struck since it began, n honest steps lead here, and as
-- many questions were counted as they ask
pub record IsOnWay (g : Setting) (start : Machine) (n : ℕ) (x : After) (begin now : Counts) : Type 0 where
  pub later : begin.struck ≤ now.struck
  pub honest : now.struck ≡ begin.struck → after g start n ≡ x
  pub counted : now.struck ≡ begin.struck → now.asked < 2 ^ 128 - 1 → now.asked ≡ begin.asked + asked_after g start n
