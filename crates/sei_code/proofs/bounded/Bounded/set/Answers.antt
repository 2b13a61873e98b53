use Rattle.std.proofs.Common.{arith}
use Rattle.std.proofs.Math.Seq.{take-set-lt}
use Rattle.std.proofs.lemmas.Grind.{common_steps}
use Rattle.sei_code.proofs.bounded.Bounded.set.Goals as goal

pub returns-then-there-clause-done : goal.returns-then-there-clause-done
returns-then-there-clause-done g c = grind (arith, common_steps, take-set-lt)
