-- Which slot answers a request for one that is free.
use Rattle.std.specs.Prelude.{ℕ, zero, suc, ◌+◌, Bool, ◌&&◌, ◌||◌, ◌==◌, nat_lt, List, if◌then◌else◌}
use Rattle.sei_stmt.specs.Machine.{Setting}

-- the first of n slots from i on that is free, or the one after them
abbrev pub first_free : (ℕ → Bool) → ℕ → ℕ → ℕ
first_free free i zero = i
first_free free i (suc n) = if free i then i else first_free free (i + 1) n

-- the lowest free slot at the moment, or the number of slots if none is free
abbrev pub lowest_free : Setting → List ℕ → ℕ → ℕ
lowest_free g words moment = first_free (g.is_free words moment) 0 g.slots

-- a noted slot may answer: it is free at the moment, or it is the number of slots, and none is free
abbrev pub is_admissible : Setting → List ℕ → ℕ → ℕ → Bool
is_admissible g words moment slot =
    (nat_lt slot g.slots && g.is_free words moment slot) || (slot == g.slots && lowest_free g words moment == g.slots)
