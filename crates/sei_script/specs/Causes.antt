-- What a line says, by its spelling and by what the lines before it tell: it is skipped, it is read, or it is refused.
use Rattle.std.specs.Prelude.{◌≡◌, ◌≢◌, ◌≤◌, ◌<◌, ℕ, true, false, List, Some, None, IsSome, ◌⊎◌, codes}
use Rattle.mc_model.specs.declared.geometry.Geometry.{Geometry}
use Rattle.mc_model.specs.Server.{IsValid}
use Rattle.sei_code.specs.declared.modes.Mode.{Mode}
use Rattle.sei_script.specs.Context.{context_of}
use Rattle.sei_script.specs.Effects.{connection_of}
use Rattle.sei_script.specs.Faults.{is_planned, is_second_line}
use Rattle.sei_script.specs.Fit.{IsWellPlaced}
use Rattle.sei_script.specs.Limits.{most_connections}
use Rattle.sei_script.specs.Lines.{word_of}
use Rattle.sei_script.specs.Says.{is_skipped}
use Rattle.sei_script.specs.Spelling.{SpellsLine}
use Rattle.sei_script.specs.declared.line.Context.{Context}
use Rattle.sei_script.specs.declared.line.ScriptLine.{ScriptLine}
use Rattle.sei_script.specs.declared.line.ScriptLine.TheVariants.{Geometry as GeometryLine, Open}
use Rattle.sei_script.specs.declared.line.Why.{Why}
use Rattle.sei_script.specs.declared.line.Why.TheVariants.{UnfinishedLine, GeometryMissing, UnknownLine, BadLine, GeometryOutOfLimits, TooManyConnections, WrongNumber, UnknownConnection, SecondFault, TooBig}
use Rattle.sei_script.specs.declared.line.Said.{Said}
use Rattle.sei_script.specs.declared.line.Said.TheVariants.{Nothing, Line, Wrong}

-- the word before the first space is that of a kind of line
pub data HasKind (text : List ℕ) : Type 0 where
  OfGeometry : word_of text ≡ codes "geometry" → HasKind text
  OfOpen : word_of text ≡ codes "open" → HasKind text
  OfSay : word_of text ≡ codes "say" → HasKind text
  OfHex : word_of text ≡ codes "hex" → HasKind text
  OfDrain : word_of text ≡ codes "drain" → HasKind text
  OfClock : word_of text ≡ codes "clock" → HasKind text
  OfFault : word_of text ≡ codes "fault" → HasKind text

-- the geometry stands before the line, or should be the line
abbrev pub MayStand : Context → List ℕ → Type 0
MayStand x text = IsSome x.geometry ⊎ (word_of text ≡ codes "geometry")

-- a line of some kind that is not spelled, or is a second geometry
pub data IsBad (x : Context) (text : List ℕ) : Type 0 where
  NotSpelled : ((s : ScriptLine) → ¬ (SpellsLine text s)) → IsBad x text
  Second : IsSome x.geometry → word_of text ≡ codes "geometry" → IsBad x text

-- a line is spelled whose connection is not open
pub record NeedsUnknown (x : Context) (text : List ℕ) : Type 0 where
  pub line : ScriptLine
  pub spelled : SpellsLine text line
  pub connection : ℕ
  pub needs : connection_of line ≡ Some connection
  pub unknown : x.opens ≤ connection

-- why a line that is not skipped is refused, a row for each cause; three are told of more than a line
abbrev pub IsCause : Context → List ℕ → Why → Type 0
IsCause x text UnfinishedLine = ⊥
IsCause x text GeometryMissing = (x.geometry ≡ None) × (word_of text ≢ codes "geometry")
IsCause x text UnknownLine = IsSome x.geometry × ¬ (HasKind text)
IsCause x text BadLine = MayStand x text × HasKind text × IsBad x text
IsCause x text GeometryOutOfLimits = (x.geometry ≡ None) × ((g : Geometry) × SpellsLine text (GeometryLine g) × ¬ (IsValid g))
IsCause x text TooManyConnections = IsSome x.geometry × ((c : ℕ) × (mode : Mode) × SpellsLine text (Open c mode) × (most_connections ≤ c))
IsCause x text WrongNumber = IsSome x.geometry × ((c : ℕ) × (mode : Mode) × SpellsLine text (Open c mode) × (c < most_connections) × (c ≢ x.opens))
IsCause x text UnknownConnection = IsSome x.geometry × NeedsUnknown x text
IsCause x text SecondFault = ⊥
IsCause x text TooBig = ⊥

-- what a line says after the lines that told this
abbrev pub IsSaid : Context → List ℕ → Said → Type 0
IsSaid x text Nothing = is_skipped text ≡ true
IsSaid x text (Line s) = SpellsLine text s × IsWellPlaced x s
IsSaid x text (Wrong why) = (is_skipped text ≡ false) × IsCause x text why

-- a fault is spelled for a traversal that has one by these lines
pub record PlansAgain (script : List ScriptLine) (text : List ℕ) : Type 0 where
  pub line : ScriptLine
  pub spelled : SpellsLine text line
  pub placed : IsWellPlaced (context_of script) line
  pub again : is_second_line (is_planned script) line ≡ true

-- what a line says after these lines
abbrev pub IsSaidOnce : List ScriptLine → List ℕ → Said → Type 0
IsSaidOnce script text Nothing = IsSaid (context_of script) text Nothing
IsSaidOnce script text (Line s) = IsSaid (context_of script) text (Line s) × (is_second_line (is_planned script) s ≡ false)
IsSaidOnce script text (Wrong why) = IsSaid (context_of script) text (Wrong why) ⊎ (PlansAgain script text × (why ≡ SecondFault))
