-- The models of a source and a sink in memory.
use Rattle.std.specs.Prelude.{ℕ, ◌+◌, List, [], ◌∷◌, Bool, ◌||◌, not, nat_le, length, min, if◌then◌else◌}
use Rattle.sei_outside.specs.Plan.{Plan, is_due}
use Rattle.sei_outside.specs.declared.source.Read.{Read}
use Rattle.sei_outside.specs.declared.source.Read.TheVariants.{Took, End, Failed}

-- the bytes that are left, and the calls
pub record MemoryInput : Type 0 where
  pub left : List ℕ
  pub calls : Plan

-- what a source with these bytes left answers to a read of at most `long` bytes that does not fail
abbrev pub read_of : List ℕ → ℕ → Read
read_of [] long = End
read_of (b ∷ bs) long = Took (min (length (b ∷ bs)) long)

-- what the next read of at most `long` bytes answers
abbrev pub next_read : MemoryInput → ℕ → Read
next_read input long = if is_due input.calls then Failed else read_of input.left long

-- the bytes that were written, how many there may be in all, and the calls
pub record MemoryOutput : Type 0 where
  pub written : List ℕ
  pub room : ℕ
  pub calls : Plan

-- does the next write, of these bytes, fail?
abbrev pub fails_write : MemoryOutput → List ℕ → Bool
fails_write output bytes = is_due output.calls || not (nat_le (length output.written + length bytes) output.room)
