-- How a script reads.
use Rattle.std.specs.Prelude.{ℕ, ◌+◌, ◌≡◌, List, [], ◌∷◌, ◌++◌, length, nat_lt, if◌then◌else◌, ⊤, Option, Some, None}
use Rattle.std.specs.declared.result.Result.{Result}
use Rattle.std.specs.declared.result.Result.TheVariants.{Ok, Err}
use Rattle.mc_model.specs.declared.geometry.Geometry.{Geometry}
use Rattle.sei_script.specs.Context.{context_of}
use Rattle.sei_script.specs.Faults.{once}
use Rattle.sei_script.specs.Lines.{lines_in}
use Rattle.sei_script.specs.Says.{line_says}
use Rattle.sei_script.specs.declared.line.ScriptLine.{ScriptLine}
use Rattle.sei_script.specs.declared.line.Why.{Why}
use Rattle.sei_script.specs.declared.line.Why.TheVariants.{UnfinishedLine, GeometryMissing, TooBig}
use Rattle.sei_script.specs.declared.line.Said.{Said}
use Rattle.sei_script.specs.declared.line.Said.TheVariants.{Nothing, Line, Wrong}
use Rattle.sei_script.specs.declared.reader.ScriptFault.{ScriptFault}
use Rattle.sei_script.specs.declared.reader.ScriptFault.TheVariants.{Memory, Line as AtLine}

-- a text reads as a script, or fails at a line
pub data Reading : Type 0 where
  Reads : List ScriptLine → Reading
  Fails : ℕ → Why → Reading

-- a script has a geometry
abbrev pub whole : List ScriptLine → ℕ → Option Geometry → Reading
whole script number None = Fails number GeometryMissing
whole script number (Some g) = Reads script

-- behind the last LF nothing may stand
abbrev pub ends_at : List ScriptLine → ℕ → List ℕ → Reading
ends_at script number [] = whole script number (context_of script).geometry
ends_at script number (b ∷ bs) = Fails number UnfinishedLine

-- the script with what a line says, read on by `next`
abbrev pub goes_on : List ScriptLine → ℕ → Said → (List ScriptLine → Reading) → Reading
goes_on script number Nothing next = next script
goes_on script number (Line line) next = next (script ++ line ∷ [])
goes_on script number (Wrong why) next = Fails number why

-- these lines and this rest, behind a script that was read before the line with this number
abbrev pub reading_from : List ScriptLine → ℕ → List (List ℕ) → List ℕ → Reading
reading_from script number [] rest = ends_at script number rest
reading_from script number (line ∷ lines) rest =
    goes_on script number (once script (line_says (context_of script) line)) (λ more. reading_from more (number + 1) lines rest)

-- a whole text of at most `limit` bytes
abbrev pub reading_of : ℕ → List ℕ → Reading
reading_of limit bytes =
    if nat_lt limit (length bytes) then Fails 0 TooBig
    else reading_from [] 1 (lines_in bytes).0 (lines_in bytes).1

-- what the reader answers, want of memory aside
abbrev pub ReadsAs : Reading → Result (List ScriptLine) ScriptFault → Type 0
ReadsAs reading (Ok script) = reading ≡ Reads script
ReadsAs reading (Err Memory) = ⊤
ReadsAs reading (Err (AtLine number why)) = reading ≡ Fails number why
