-- How a line of a script is spelled, without the CR that may end it; said apart from how it is read.
use Rattle.std.specs.Prelude.{◌≡◌, ◌<◌, ◌≤◌, ◌^◌, ◌/◌, ◌%◌, ℕ, suc, false, List, [], ◌∷◌, ◌++◌, All, ⊤, codes}
use Rattle.std.specs.Fmt.{decimal, digits_onto}
use Rattle.std.specs.List.{flat_map}
use Rattle.sei_code.specs.declared.modes.Mode.TheVariants.{Plain, Coded}
use Rattle.sei_fault.specs.declared.plan.Select.{Select}
use Rattle.sei_fault.specs.declared.plan.Select.TheVariants.{Index, Load, Store, Now, Alloc, Parse, Render, Halt}
use Rattle.sei_fault.specs.declared.plan.Kind.{Kind}
use Rattle.sei_fault.specs.declared.plan.Kind.TheVariants.{Read, Write, Skip, Repeat, Jump, Flip}
use Rattle.sei_fault.specs.declared.plan.Planned.{Planned}
use Rattle.sei_script.specs.AbortLines.{phase_text}
use Rattle.sei_script.specs.Escapes.{hex_digit}
use Rattle.sei_script.specs.Unescapes.{Unescapes}
use Rattle.sei_script.specs.declared.line.ScriptLine.{ScriptLine}
use Rattle.sei_script.specs.declared.line.ScriptLine.TheVariants.{Geometry as GeometryLine, Open, Say, Hex, Drain, Clock, Fault}

-- the decimal digits of a number of any size; below 2^64 it is std's `decimal`
unfoldable pub numeral : ℕ → List ℕ
numeral n = digits_onto (suc n) 10 false n []

-- words with a single space between two of them
abbrev pub spaced : List (List ℕ) → List ℕ
spaced [] = []
spaced (word ∷ []) = word
spaced (word ∷ next ∷ words) = word ++ 32 ∷ spaced (next ∷ words)

-- the digits of a byte
abbrev pub hex_of : ℕ → List ℕ
hex_of b = hex_digit (b / 16) ∷ hex_digit (b % 16) ∷ []

-- bytes as pairs of digits
abbrev pub hex_text : List ℕ → List ℕ
hex_text bytes = flat_map hex_of bytes

-- which step a fault strikes
abbrev pub select_text : Select → List ℕ
select_text (Index n) = spaced (codes "at" ∷ decimal n ∷ [])
select_text (Load n) = spaced (codes "load" ∷ decimal n ∷ [])
select_text (Store n) = spaced (codes "store" ∷ decimal n ∷ [])
select_text Now = codes "now"
select_text Alloc = codes "alloc"
select_text Parse = codes "parse"
select_text Render = codes "render"
select_text Halt = codes "halt"

-- what a fault does there
abbrev pub kind_text : Kind → List ℕ
kind_text (Read nth mask) = spaced (codes "read" ∷ decimal nth ∷ decimal mask ∷ [])
kind_text (Write mask) = spaced (codes "write" ∷ decimal mask ∷ [])
kind_text Skip = codes "skip"
kind_text Repeat = codes "repeat"
kind_text (Jump to) = spaced (codes "jump" ∷ phase_text to.phase ∷ decimal to.index ∷ [])
kind_text Flip = codes "flip"

abbrev pub plan_text : Planned → List ℕ
plan_text plan = spaced (phase_text plan.phase ∷ select_text plan.select ∷ kind_text plan.kind ∷ [])

-- its number has 64 bits
abbrev pub IsSelect : Select → Type 0
IsSelect (Index n) = n < 2 ^ 64
IsSelect (Load n) = n < 2 ^ 64
IsSelect (Store n) = n < 2 ^ 64
IsSelect Now = ⊤
IsSelect Alloc = ⊤
IsSelect Parse = ⊤
IsSelect Render = ⊤
IsSelect Halt = ⊤

-- a mask has 64 bits, and is not 0
abbrev pub IsMask : ℕ → Type 0
IsMask mask = (1 ≤ mask) × (mask < 2 ^ 64)

abbrev pub IsKind : Kind → Type 0
IsKind (Read nth mask) = (nth < 2 ^ 64) × IsMask mask
IsKind (Write mask) = IsMask mask
IsKind Skip = ⊤
IsKind Repeat = ⊤
IsKind (Jump to) = to.index < 2 ^ 64
IsKind Flip = ⊤

-- the text of a `say` line of connection c, and an escaped text for its bytes
pub record SpellsSay (text : List ℕ) (c : ℕ) (bytes : List ℕ) : Type 0 where
  pub escaped : List ℕ
  pub spelled : text ≡ spaced (codes "say" ∷ numeral c ∷ escaped ∷ [])
  pub stands : Unescapes escaped bytes

pub record SpellsHex (text : List ℕ) (c : ℕ) (bytes : List ℕ) : Type 0 where
  pub spelled : text ≡ spaced (codes "hex" ∷ numeral c ∷ hex_text bytes ∷ [])
  pub small : All (λ b. b < 256) bytes

pub record SpellsClock (text : List ℕ) (now : ℕ) : Type 0 where
  pub spelled : text ≡ spaced (codes "clock" ∷ decimal now ∷ [])
  pub small : now < 2 ^ 64

pub record SpellsFault (text : List ℕ) (c t : ℕ) (plan : Planned) : Type 0 where
  pub spelled : text ≡ spaced (codes "fault" ∷ numeral c ∷ decimal t ∷ plan_text plan ∷ [])
  pub number : t < 2 ^ 64
  pub select : IsSelect plan.select
  pub kind : IsKind plan.kind

-- what a line's text is, a row for each kind of line; no text opens a coded connection
abbrev pub SpellsLine : List ℕ → ScriptLine → Type 0
SpellsLine text (GeometryLine g) = text ≡ spaced (codes "geometry" ∷ numeral g.buckets ∷ numeral g.slots ∷ numeral g.value_words ∷ [])
SpellsLine text (Open c Plain) = text ≡ spaced (codes "open" ∷ numeral c ∷ codes "plain" ∷ [])
SpellsLine text (Open c Coded) = ⊥
SpellsLine text (Say c bytes) = SpellsSay text c bytes
SpellsLine text (Hex c bytes) = SpellsHex text c bytes
SpellsLine text Drain = text ≡ codes "drain"
SpellsLine text (Clock now) = SpellsClock text now
SpellsLine text (Fault c t plan) = SpellsFault text c t plan
