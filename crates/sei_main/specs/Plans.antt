-- The planned faults of a script, by their traversals.
use Rattle.std.specs.Prelude.{ℕ, List, [], ◌∷◌, Option}
use Rattle.std.specs.Ordering.{nat_cmp, ordering_then}
use Rattle.std.specs.declared.cmp.Ordering.{Ordering}
use Rattle.std.specs.BTreeMap.{insert_entry, is_at}
use Rattle.std.specs.Map.{lookup}
use Rattle.sei_fault.specs.declared.plan.Planned.{Planned}
use Rattle.sei_script.specs.Effects.{Effect, PlansFault, effect_of}
use Rattle.sei_script.specs.declared.line.ScriptLine.{ScriptLine}
use Rattle.sei_main.specs.declared.plans.CallNumber.{CallNumber}

-- in the order of the connections, and then of the numbers there
abbrev pub number_cmp : CallNumber → CallNumber → Ordering
number_cmp a b = ordering_then (nat_cmp a.connection b.connection) (nat_cmp a.number b.number)

abbrev pub plans_by : List (CallNumber × Planned) → Effect → List (CallNumber × Planned)
plans_by plans (PlansFault c t plan) = insert_entry number_cmp plans (record { connection = c; number = t }) plan
plans_by plans other = plans

-- the plans, with that of a line
abbrev pub plans_with : List (CallNumber × Planned) → ScriptLine → List (CallNumber × Planned)
plans_with plans line = plans_by plans (effect_of line)

abbrev pub plans_from : List (CallNumber × Planned) → List ScriptLine → List (CallNumber × Planned)
plans_from plans [] = plans
plans_from plans (line ∷ lines) = plans_from (plans_with plans line) lines

-- the plans of a script, wherever its fault lines stand
abbrev pub plans_of : List ScriptLine → List (CallNumber × Planned)
plans_of script = plans_from [] script

-- the plan for traversal t of connection c, if there is one
abbrev pub plan_at : List (CallNumber × Planned) → ℕ → ℕ → Option Planned
plan_at plans c t = lookup (is_at (number_cmp (record { connection = c; number = t }))) plans
