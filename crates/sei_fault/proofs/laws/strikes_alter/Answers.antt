use Rattle.sei_fault.proofs.Faults.{strike_alters, counted_alters}
use Rattle.sei_fault.proofs.laws.strikes_alter.Goals as goal

pub returns : goal.returns
returns c = record { altered = strike_alters; counted = counted_alters }
