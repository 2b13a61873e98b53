-- Scripts of which more is promised.
use Rattle.std.specs.Prelude.{Bool, true, false, List, [], ◌∷◌}
use Rattle.std.specs.List.{list_all}
use Rattle.sei_script.specs.Effects.{Effect, Serves, PlansFault, effect_of}
use Rattle.sei_script.specs.declared.line.ScriptLine.{ScriptLine}

abbrev pub is_quiet_effect : Effect → Bool
is_quiet_effect (PlansFault c t plan) = false
is_quiet_effect other = true

-- a line that plans no fault
abbrev pub is_quiet_line : ScriptLine → Bool
is_quiet_line line = is_quiet_effect (effect_of line)

-- no line plans a fault
abbrev pub is_quiet : List ScriptLine → Bool
is_quiet script = list_all is_quiet_line script

abbrev pub is_serving : Effect → Bool
is_serving Serves = true
is_serving other = false

abbrev pub is_drain : ScriptLine → Bool
is_drain line = is_serving (effect_of line)

-- the last line is `drain`
abbrev pub ends_in_drain : List ScriptLine → Bool
ends_in_drain [] = false
ends_in_drain (line ∷ []) = is_drain line
ends_in_drain (line ∷ next ∷ lines) = ends_in_drain (next ∷ lines)
