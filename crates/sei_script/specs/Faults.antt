-- A traversal has one planned fault at most.
use Rattle.std.specs.Prelude.{ℕ, Bool, false, ◌||◌, ◌&&◌, ◌==◌, if◌then◌else◌, List, [], ◌∷◌}
use Rattle.std.specs.Ordering.{nat_cmp, ordering_then}
use Rattle.std.specs.declared.cmp.Ordering.{Ordering}
use Rattle.std.specs.BTreeSet.{contains}
use Rattle.sei_script.specs.Effects.{Effect, PlansFault, effect_of}
use Rattle.sei_script.specs.declared.traversals.Traversal.{Traversal}
use Rattle.sei_script.specs.declared.traversals.Traversals.{Traversals}
use Rattle.sei_script.specs.declared.line.ScriptLine.{ScriptLine}
use Rattle.sei_script.specs.declared.line.Why.TheVariants.{SecondFault}
use Rattle.sei_script.specs.declared.line.Said.{Said}
use Rattle.sei_script.specs.declared.line.Said.TheVariants.{Nothing, Line, Wrong}

abbrev pub plans_by : ℕ → ℕ → Effect → Bool
plans_by c t (PlansFault d u plan) = d == c && u == t
plans_by c t other = false

-- whether a line plans a fault for traversal t of connection c
abbrev pub plans : ℕ → ℕ → ScriptLine → Bool
plans c t line = plans_by c t (effect_of line)

-- whether one of these lines does
abbrev pub is_planned : List ScriptLine → ℕ → ℕ → Bool
is_planned [] c t = false
is_planned (line ∷ lines) c t = plans c t line || is_planned lines c t

abbrev pub is_second_by : (ℕ → ℕ → Bool) → Effect → Bool
is_second_by has (PlansFault c t plan) = has c t
is_second_by has other = false

abbrev pub is_second_line : (ℕ → ℕ → Bool) → ScriptLine → Bool
is_second_line has line = is_second_by has (effect_of line)

-- whether a line plans a fault for a traversal that has one
abbrev pub is_second : (ℕ → ℕ → Bool) → Said → Bool
is_second has Nothing = false
is_second has (Line line) = is_second_line has line
is_second has (Wrong why) = false

-- what a line says, but that a second fault is wrong
abbrev pub once_by : (ℕ → ℕ → Bool) → Said → Said
once_by has said = if is_second has said then Wrong SecondFault else said

-- what a line says behind these lines
abbrev pub once : List ScriptLine → Said → Said
once script said = once_by (is_planned script) said

-- how the reader orders traversals
abbrev pub traversal_cmp : Traversal → Traversal → Ordering
traversal_cmp a b = ordering_then (nat_cmp a.c b.c) (nat_cmp a.t b.t)

-- the reader knows of a fault of traversal t of connection c
abbrev pub holds : Traversals → ℕ → ℕ → Bool
holds x c t = contains traversal_cmp x.planned (record { c = c; t = t })
