-- How a text reads as a script, or why it does not; said apart from the reader.
use Rattle.std.specs.Prelude.{◌≡◌, ◌≢◌, ◌≤◌, ◌<◌, ◌+◌, ℕ, List, [], ◌∷◌, ◌++◌, length, None, IsSome}
use Rattle.std.specs.Str.Lines.{strip_carriage_return}
use Rattle.sei_script.specs.Causes.{IsSaidOnce}
use Rattle.sei_script.specs.Context.{context_of}
use Rattle.sei_script.specs.Lines.{lines_in}
use Rattle.sei_script.specs.declared.line.ScriptLine.{ScriptLine}
use Rattle.sei_script.specs.declared.line.Why.{Why}
use Rattle.sei_script.specs.declared.line.Why.TheVariants.{UnfinishedLine, GeometryMissing, TooBig}
use Rattle.sei_script.specs.declared.line.Said.TheVariants.{Nothing, Line, Wrong}

-- after a script, these lines of a text make it this one: a line that is skipped adds nothing, and one that is read is added
pub data ReadsLines : List ScriptLine → List (List ℕ) → List ScriptLine → Type 0 where
  End : {script read : List ScriptLine} {texts : List (List ℕ)} → texts ≡ [] → script ≡ read → ReadsLines script texts read
  Skip : {script read : List ScriptLine} {texts : List (List ℕ)} (text : List ℕ) (later : List (List ℕ)) → texts ≡ text ∷ later
      → IsSaidOnce script (strip_carriage_return text) Nothing → ReadsLines script later read → ReadsLines script texts read
  Add : {script read : List ScriptLine} {texts : List (List ℕ)} (text : List ℕ) (later : List (List ℕ)) (line : ScriptLine) → texts ≡ text ∷ later
      → IsSaidOnce script (strip_carriage_return text) (Line line) → ReadsLines (script ++ line ∷ []) later read → ReadsLines script texts read

-- lines that end in an LF, with nothing after the last one, read as a script that has a geometry
pub record ReadsAll (texts : List (List ℕ)) (rest : List ℕ) (script : List ScriptLine) : Type 0 where
  pub lines : ReadsLines [] texts script
  pub ended : rest ≡ []
  pub geometry : IsSome (context_of script).geometry

-- the first line that does not read, by its number from 1, and why: a line that is refused, one without its LF, or the end, where no geometry was found
pub data FailsAt (texts : List (List ℕ)) (rest : List ℕ) (number : ℕ) (why : Why) : Type 0 where
  Refused : (front later : List (List ℕ)) (text : List ℕ) (script : List ScriptLine) → texts ≡ front ++ text ∷ later → ReadsLines [] front script
      → IsSaidOnce script (strip_carriage_return text) (Wrong why) → number ≡ 1 + length front → FailsAt texts rest number why
  Unfinished : (script : List ScriptLine) → ReadsLines [] texts script → rest ≢ [] → why ≡ UnfinishedLine → number ≡ 1 + length texts → FailsAt texts rest number why
  Missing : (script : List ScriptLine) → ReadsLines [] texts script → rest ≡ [] → (context_of script).geometry ≡ None → why ≡ GeometryMissing → number ≡ 1 + length texts
      → FailsAt texts rest number why

-- a text of at most `limit` bytes reads as this script
pub record ReadsText (limit : ℕ) (bytes : List ℕ) (script : List ScriptLine) : Type 0 where
  pub size : length bytes ≤ limit
  pub reads : ReadsAll (lines_in bytes).0 (lines_in bytes).1 script

-- a text has more bytes, or fails at a line
pub data FailsText (limit : ℕ) (bytes : List ℕ) (number : ℕ) (why : Why) : Type 0 where
  Larger : limit < length bytes → number ≡ 0 → why ≡ TooBig → FailsText limit bytes number why
  AtLine : length bytes ≤ limit → FailsAt (lines_in bytes).0 (lines_in bytes).1 number why → FailsText limit bytes number why
