-- How the core with a plan counts its questions, and when it looks at the steps.
use Rattle.std.specs.Prelude.{◌≡◌, ℕ, ◌+◌, ◌-◌, ◌^◌, min, Bool, true, false, if◌then◌else◌, Option, Some}
use Rattle.sei_fault.specs.declared.plan.Planned.{Planned}
use Rattle.sei_fault.specs.declared.script.Stage.{Stage}
use Rattle.sei_fault.specs.declared.script.Stage.TheVariants.{Waiting, Armed}

-- the plan's step is being made
abbrev pub is_armed : Stage → Bool
is_armed (Armed so_far) = true
is_armed stage = false

-- a plan waits for its step, or its step is being made
abbrev pub watches : Option Planned → Stage → Bool
watches (Some p) Waiting = true
watches plan (Armed so_far) = true
watches plan stage = false

-- all questions: those of the count and, outside of the plan's step, the ticks since
abbrev pub asked_by : Stage → ℕ → ℕ → ℕ
asked_by stage count ticks = min (count + (if is_armed stage then 0 else ticks)) (2 ^ 128 - 1)

-- in the plan's step the ticks are at their last value
abbrev pub StandsAtEdge : Stage → ℕ → Type 0
StandsAtEdge stage ticks = is_armed stage ≡ true → ticks ≡ 2 ^ 64 - 1
