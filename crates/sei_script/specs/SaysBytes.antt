-- Lines that say bytes, and clock answers of 64 bits.
use Rattle.std.specs.Prelude.{◌<◌, ◌^◌, ⊤, All}
use Rattle.sei_script.specs.Effects.{Effect, Feeds, SetsClock, effect_of}
use Rattle.sei_script.specs.declared.line.ScriptLine.{ScriptLine}

-- each number that a line feeds is a byte, and what a clock answers is below 2^64
abbrev pub DoesBytes : Effect → Type 0
DoesBytes (Feeds c bytes) = All (λ b. b < 256) bytes
DoesBytes (SetsClock now) = now < 2 ^ 64
DoesBytes other = ⊤

abbrev pub SaysBytes : ScriptLine → Type 0
SaysBytes line = DoesBytes (effect_of line)
