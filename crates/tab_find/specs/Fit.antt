-- What it means that a slot may be Alloc's answer.
use Rattle.std.specs.Prelude.{◌≡◌, ℕ, ◌<◌, ◌⊎◌, List, true}
use Rattle.mc_model.specs.declared.geometry.Geometry.{Geometry}
use Rattle.sei_words.specs.Free.{IsFree, IsFull}
use Rattle.sei_stmt.specs.Runs.{Given}

-- a free slot, or the number of slots if none is free
abbrev pub IsAnswer : Geometry → List ℕ → ℕ → ℕ → Type 0
IsAnswer g words moment slot = ((slot < g.slots) × IsFree g words moment slot) ⊎ ((slot ≡ g.slots) × IsFull g words moment)

-- the run's test of an answer is that it is one
abbrev pub FitIsAnswer : Geometry → Given → Type 0
FitIsAnswer g e = (words : List ℕ) (moment slot : ℕ) → e.is_fit words moment slot ≡ true → IsAnswer g words moment slot
