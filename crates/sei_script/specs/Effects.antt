-- What a line of a script does. What is asked of a line, and what it leads to, is told by this alone.
use Rattle.std.specs.Prelude.{ℕ, List, Option, Some, None}
use Rattle.mc_model.specs.declared.geometry.Geometry.{Geometry}
use Rattle.sei_code.specs.declared.modes.Mode.{Mode}
use Rattle.sei_fault.specs.declared.plan.Planned.{Planned}
use Rattle.sei_script.specs.declared.line.ScriptLine.{ScriptLine}
use Rattle.sei_script.specs.declared.line.ScriptLine.TheVariants.{Geometry as GeometryLine, Open, Say, Hex, Drain, Clock, Fault}

-- tells how large the server is; opens connection c; feeds bytes to it; serves until nothing is left to do; sets the clock; plans a fault for traversal t of c
pub data Effect : Type 0 where
  Sizes : (g : Geometry) → Effect
  Opens : (c : ℕ) → (mode : Mode) → Effect
  Feeds : (c : ℕ) → (bytes : List ℕ) → Effect
  Serves : Effect
  SetsClock : (now : ℕ) → Effect
  PlansFault : (c t : ℕ) → (plan : Planned) → Effect

abbrev pub effect_of : ScriptLine → Effect
effect_of (GeometryLine g) = Sizes g
effect_of (Open c mode) = Opens c mode
effect_of (Say c bytes) = Feeds c bytes
effect_of (Hex c bytes) = Feeds c bytes
effect_of Drain = Serves
effect_of (Clock now) = SetsClock now
effect_of (Fault c t plan) = PlansFault c t plan

-- the connection that has to be open for it
abbrev pub connection_in : Effect → Option ℕ
connection_in (Feeds c bytes) = Some c
connection_in (PlansFault c t plan) = Some c
connection_in other = None

abbrev pub connection_of : ScriptLine → Option ℕ
connection_of line = connection_in (effect_of line)
