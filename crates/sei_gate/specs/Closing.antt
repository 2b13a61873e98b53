-- How a phase is closed, by the number of phases that were closed before.
use Rattle.std.specs.Prelude.{ℕ, ◌+◌, ◌-◌, ◌^◌, Bool, ◌==◌, if◌then◌else◌, min}
use Rattle.sei_fault.specs.Question.Question.{Test}
use Rattle.sei_fault.specs.Tree.{Tree}
use Rattle.sei_fault.specs.Tree.Tree.{Done, Ask}

-- one phase more; at the last value of a u64 the number does not change
abbrev pub risen : ℕ → ℕ
risen done = min (done + 1) (2 ^ 64 - 1)

-- one test of whether as many phases are closed as come before phase p; if the answer is yes, the number rises
abbrev pub closing : ℕ → ℕ → Tree (Bool × ℕ)
closing p done = Ask (Test (done == p)) (λ yes. Done (yes, if yes then risen done else done))
