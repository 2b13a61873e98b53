-- What the lines before a line tell of it: the geometry, and how many connections are open.
use Rattle.std.specs.Prelude.{◌+◌, List, [], ◌∷◌, Some, None}
use Rattle.mc_model.specs.declared.geometry.Geometry.{Geometry}
use Rattle.sei_script.specs.Effects.{Effect, Sizes, Opens, effect_of}
use Rattle.sei_script.specs.declared.line.Context.{Context}
use Rattle.sei_script.specs.declared.line.ScriptLine.{ScriptLine}

-- before the first line
abbrev pub empty_context : Context
empty_context = record { geometry = None; opens = 0 }

abbrev pub context_by : Context → Effect → Context
context_by x (Sizes g) = record x { geometry = Some g }
context_by x (Opens c mode) = record x { opens = x.opens + 1 }
context_by x other = x

-- after a line
abbrev pub context_after : Context → ScriptLine → Context
context_after x line = context_by x (effect_of line)

-- after these lines
abbrev pub context_from : Context → List ScriptLine → Context
context_from x [] = x
context_from x (line ∷ lines) = context_from (context_after x line) lines

abbrev pub context_of : List ScriptLine → Context
context_of script = context_from empty_context script

abbrev pub blank_geometry : Geometry
blank_geometry = record { buckets = 0; slots = 0; value_words = 0 }

-- the geometry that a line tells, or one that is found later
abbrev pub geometry_or : Effect → Geometry → Geometry
geometry_or (Sizes g) later = g
geometry_or other later = later

-- the geometry of the first geometry line, or a blank one where there is none
abbrev pub geometry_of : List ScriptLine → Geometry
geometry_of [] = blank_geometry
geometry_of (line ∷ lines) = geometry_or (effect_of line) (geometry_of lines)
