use Rattle.sei_traverse.proofs.StepsBound.{begun_within, steps_bounded}
use Rattle.sei_traverse.proofs.laws.steps_are_bounded.Goals as goal

pub returns : goal.returns
returns c = record { begins = begun_within; bounded = steps_bounded }
