-- The first request of a list of bytes, as a function.
-- It is proved to be the request that `Spells.antt` says (proofs/FrontLaws.antt).
use Rattle.std.specs.Prelude.{ℕ, ◌+◌, nat_lt, List, Option, Some, None, length, take, slice_range, if◌then◌else◌}
use Rattle.mc_text.specs.declared.limits.Limits.{Limits}
use Rattle.mc_text.specs.Bounds.{longest_line}
use Rattle.mc_text.specs.Meaning.{Meaning}
use Rattle.mc_text.specs.Lines.{LineMeaning, Ends, Wants}
use Rattle.mc_text.specs.Spells.{lf, line_says, too_long, finished}

-- the first request, by what its line asks for, whose LF is at k
abbrev pub front_says : Limits → List ℕ → ℕ → LineMeaning → Option (ℕ × Meaning)
front_says l bytes k (Ends m) = Some (k + 1, m)
front_says l bytes k (Wants c keys n) =
    if nat_lt (length bytes) (k + 1 + n + 2) then None
    else Some (k + 1 + n + 2, finished l c keys (slice_range bytes (k + 1) (k + 1 + n)) (slice_range bytes (k + 1 + n) (k + 1 + n + 2)))

-- the first request, by the place of the line's LF
abbrev pub front_at : Limits → List ℕ → Option ℕ → Option (ℕ × Meaning)
front_at l bytes None = if nat_lt (length bytes) longest_line then None else Some (longest_line, too_long)
front_at l bytes (Some k) = front_says l bytes k (line_says (take k bytes))

-- the length of the first request and its meaning, if the bytes begin with one
unfoldable pub front : Limits → List ℕ → Option (ℕ × Meaning)
front l bytes = front_at l bytes (lf (take longest_line bytes))
