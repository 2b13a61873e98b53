-- What a read does to the bytes that a source has left.
use Rattle.std.specs.Prelude.{◌≡◌, ℕ, ◌<◌, ◌≤◌, List, length, take}
use Rattle.std.specs.Io.KnownBytes.{prepend_known, IsAtEnd}
use Rattle.std.specs.declared.option.Option.{Option}
use Rattle.sei_outside.specs.Faults.{counted}
use Rattle.sei_outside.specs.declared.source.Read.{Read}
use Rattle.sei_outside.specs.declared.source.Read.TheVariants.{Took, End, Failed}

-- `into` is the piece after the read: what was taken is at its front
abbrev pub ReadGives : Option (List ℕ) → Option (List ℕ) → List ℕ → Read → Type 0
ReadGives old new into (Took n) = (0 < n) × (n ≤ length into) × (old ≡ prepend_known (take n into) new)
ReadGives old new into End = (new ≡ old) × IsAtEnd old
ReadGives old new into Failed = new ≡ old

-- at most this many bytes were taken off what the source had left, if it tells that
pub record TookAtMost (most : ℕ) (old new : Option (List ℕ)) : Type 0 where
  pub part : List ℕ
  pub split : old ≡ prepend_known part new
  pub within : length part ≤ most

-- how many bytes a read took
abbrev pub taken : Read → ℕ
taken (Took n) = n
taken End = 0
taken Failed = 0

-- the count of faults after a read that counts its own fault alone
abbrev pub faults_after_read : Read → ℕ → ℕ
faults_after_read (Took n) faults = faults
faults_after_read End faults = faults
faults_after_read Failed faults = counted faults
