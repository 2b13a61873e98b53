-- Lines that may stand where they do.
use Rattle.std.specs.Prelude.{◌≡◌, ◌<◌, List, [], ◌∷◌, None, IsSome, ⊤}
use Rattle.mc_model.specs.Server.{IsValid}
use Rattle.sei_script.specs.Context.{context_after}
use Rattle.sei_script.specs.Effects.{Effect, Sizes, Opens, Feeds, PlansFault, effect_of}
use Rattle.sei_script.specs.Limits.{most_connections}
use Rattle.sei_script.specs.declared.line.Context.{Context}
use Rattle.sei_script.specs.declared.line.ScriptLine.{ScriptLine}

-- the first line is a valid geometry and no other is one; a connection is opened in its turn, its number below the most, and is open where a line speaks of it
abbrev pub IsPlaced : Context → Effect → Type 0
IsPlaced x (Sizes g) = (x.geometry ≡ None) × IsValid g
IsPlaced x (Opens c mode) = IsSome x.geometry × (c ≡ x.opens) × (c < most_connections)
IsPlaced x (Feeds c bytes) = IsSome x.geometry × (c < x.opens)
IsPlaced x (PlansFault c t plan) = IsSome x.geometry × (c < x.opens)
IsPlaced x other = IsSome x.geometry

abbrev pub IsWellPlaced : Context → ScriptLine → Type 0
IsWellPlaced x line = IsPlaced x (effect_of line)

-- each line is well placed after the lines before it
abbrev pub AreFit : Context → List ScriptLine → Type 0
AreFit x [] = ⊤
AreFit x (line ∷ lines) = IsWellPlaced x line × AreFit (context_after x line) lines
