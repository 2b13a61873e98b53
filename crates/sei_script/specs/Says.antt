-- What a line says, behind the lines that were read before it.
-- The causes are tested in the order in which the tests stand here.
use Rattle.std.specs.Prelude.{ℕ, Bool, true, ◌&&◌, List, [], ◌∷◌, nat_lt, nat_le, if◌then◌else◌, ◌==◌, Option, Some, None, codes}
use Rattle.std.specs.Str.{bytes_eq}
use Rattle.std.specs.Str.Lines.{strip_carriage_return}
use Rattle.mc_model.specs.declared.geometry.Geometry.{Geometry}
use Rattle.sei_code.specs.declared.modes.Mode.TheVariants.{Plain}
use Rattle.sei_script.specs.Escapes.{unescaped}
use Rattle.sei_script.specs.Hexadecimal.{unhexed}
use Rattle.sei_script.specs.Lines.{word_of, behind_word, first_number, first_exact, last_exact}
use Rattle.sei_script.specs.Plans.{plan_of}
use Rattle.sei_script.specs.Limits.{most_connections}
use Rattle.sei_script.specs.declared.line.Context.{Context}
use Rattle.sei_script.specs.declared.line.ScriptLine.{ScriptLine}
use Rattle.sei_script.specs.declared.line.ScriptLine.TheVariants.{Geometry as GeometryLine, Open, Say, Hex, Drain, Clock, Fault}
use Rattle.sei_script.specs.declared.line.Why.TheVariants.{GeometryMissing, UnknownLine, BadLine, GeometryOutOfLimits, TooManyConnections, WrongNumber, UnknownConnection}
use Rattle.sei_script.specs.declared.line.Said.{Said}
use Rattle.sei_script.specs.declared.line.Said.TheVariants.{Nothing, Line, Wrong}

-- what a line says by a part that it must have
abbrev pub with_part : {A : Type 0} → Option A → (A → Said) → Said
with_part None f = Wrong BadLine
with_part (Some part) f = f part

-- what a line says that must end here
abbrev pub at_end : Option (List ℕ) → Said → Said
at_end None said = said
at_end (Some rest) said = Wrong BadLine

abbrev pub is_in_limits : Geometry → Bool
is_in_limits g =
    nat_le 1 g.buckets && nat_le g.buckets 64 && nat_le 1 g.slots && nat_le g.slots 1024 && nat_le 3 g.value_words
    && nat_le g.value_words 1024

abbrev pub geometry_numbers : ℕ → ℕ → ℕ → Said
geometry_numbers buckets slots value_words =
    let g : Geometry = record { buckets = buckets; slots = slots; value_words = value_words } in
    if is_in_limits g then Line (GeometryLine g) else Wrong GeometryOutOfLimits

-- the three numbers of a geometry
abbrev pub geometry_words : Option (List ℕ) → Said
geometry_words rest =
    with_part (first_number rest) (λ buckets. with_part (first_number buckets.rest) (λ slots. with_part (first_number slots.rest) (λ words.
    at_end words.rest (geometry_numbers buckets.number slots.number words.number))))

-- `geometry`, which may stand once
abbrev pub geometry_says : Option Geometry → Option (List ℕ) → Said
geometry_says None rest = geometry_words rest
geometry_says (Some g) rest = Wrong BadLine

-- a line of another kind stands behind the geometry
abbrev pub behind_geometry : Option Geometry → Said → Said
behind_geometry None said = Wrong GeometryMissing
behind_geometry (Some g) said = said

abbrev pub open_number : Context → ℕ → Said
open_number x c = if nat_le most_connections c then Wrong TooManyConnections else (if c == x.opens then Line (Open c Plain) else Wrong WrongNumber)

abbrev pub open_says : Context → Option (List ℕ) → Said
open_says x rest =
    with_part (first_number rest) (λ c. with_part c.rest (λ mode.
    if bytes_eq mode (codes "plain") then open_number x c.number else Wrong BadLine))

-- a line that speaks of connection c, which has to be open
abbrev pub of_open : Context → ℕ → ScriptLine → Said
of_open x c line = if nat_lt c x.opens then Line line else Wrong UnknownConnection

abbrev pub say_says : Context → Option (List ℕ) → Said
say_says x rest = with_part (first_number rest) (λ c. with_part c.rest (λ text. with_part (unescaped text) (λ bytes. of_open x c.number (Say c.number bytes))))

abbrev pub hex_says : Context → Option (List ℕ) → Said
hex_says x rest = with_part (first_number rest) (λ c. with_part c.rest (λ text. with_part (unhexed text) (λ bytes. of_open x c.number (Hex c.number bytes))))

abbrev pub drain_says : Option (List ℕ) → Said
drain_says rest = at_end rest (Line Drain)

abbrev pub clock_says : Option (List ℕ) → Said
clock_says rest = with_part (last_exact rest) (λ now. Line (Clock now))

-- a fault is planned for a traversal of a connection
abbrev pub fault_says : Context → Option (List ℕ) → Said
fault_says x rest = with_part (first_number rest) (λ c. with_part (first_exact c.rest) (λ t. with_part (plan_of t.rest) (λ plan. of_open x c.number (Fault c.number t.number plan))))

-- a line of another kind than `geometry`
abbrev pub other_says : Context → List ℕ → Option (List ℕ) → Said
other_says x kind rest =
    if bytes_eq kind (codes "open") then open_says x rest
    else (if bytes_eq kind (codes "say") then say_says x rest
    else (if bytes_eq kind (codes "hex") then hex_says x rest
    else (if bytes_eq kind (codes "drain") then drain_says rest
    else (if bytes_eq kind (codes "clock") then clock_says rest
    else (if bytes_eq kind (codes "fault") then fault_says x rest
    else Wrong UnknownLine)))))

abbrev pub kind_says : Context → List ℕ → Option (List ℕ) → Said
kind_says x kind rest =
    if bytes_eq kind (codes "geometry") then geometry_says x.geometry rest
    else behind_geometry x.geometry (other_says x kind rest)

-- an empty line, and a line that begins with `#`
abbrev pub is_skipped : List ℕ → Bool
is_skipped [] = true
is_skipped (b ∷ bs) = b == 35

abbrev pub text_says : Context → List ℕ → Said
text_says x text = if is_skipped text then Nothing else kind_says x (word_of text) (behind_word text)

-- a whole line, without its LF
abbrev pub line_says : Context → List ℕ → Said
line_says x line = text_says x (strip_carriage_return line)
