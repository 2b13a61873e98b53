use Rattle.std.proofs.Common.{sym, arith}
use Rattle.mc_model.proofs.NumberLaws.{too_great, greater}
use Rattle.mc_model.proofs.number.number_upto.Goals as goal

pub returns-then-number-max-clause-value : goal.returns-then-number-max-clause-value
returns-then-number-max-clause-value c =
    sym (too_great c.args.max c.args.bytes.now
    (greater c.args.max c.loop-b.number _ c.loop-b.b-index c.args.bytes.now (omega arith) c.loop-b.invariant.value (omega arith)))
