-- The seconds that the system's clock tells.
use Rattle.std.specs.Prelude.{ℕ, ◌/◌}
use Rattle.std.specs.Duration.{as_nanos}
use Rattle.std.specs.declared.time.Duration.{Duration}
use Rattle.std.specs.declared.result.Result.{Result}
use Rattle.std.specs.declared.result.Result.TheVariants.{Ok, Err}

-- the whole seconds of an answer, and 0 for an error
abbrev pub seconds_of : {E : Type 0} → Result Duration E → ℕ
seconds_of (Ok since) = as_nanos since / 1_000_000_000
seconds_of (Err error) = 0
