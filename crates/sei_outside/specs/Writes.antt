-- What a write does to the bytes that a sink holds.
use Rattle.std.specs.Prelude.{◌≡◌, ℕ, List}
use Rattle.std.specs.Io.KnownBytes.{append_known}
use Rattle.std.specs.declared.option.Option.{Option}
use Rattle.sei_outside.specs.Bytes.{WrotePart}
use Rattle.sei_outside.specs.Faults.{counted}
use Rattle.sei_outside.specs.declared.sink.Wrote.{Wrote}
use Rattle.sei_outside.specs.declared.sink.Wrote.TheVariants.{All, Failed}

abbrev pub WriteGives : Option (List ℕ) → Option (List ℕ) → List ℕ → Wrote → Type 0
WriteGives old new bytes All = new ≡ append_known old bytes
WriteGives old new bytes Failed = WrotePart old new bytes

-- the count of faults after a write that counts its own fault alone
abbrev pub faults_after_write : Wrote → ℕ → ℕ
faults_after_write All faults = faults
faults_after_write Failed faults = counted faults
