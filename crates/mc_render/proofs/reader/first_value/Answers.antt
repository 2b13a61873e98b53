use Rattle.std.proofs.Common.{arith}
use Rattle.mc_render.proofs.ReaderLaws.{value_read}
use Rattle.mc_render.proofs.reader.first_value.Goals as goal

pub returns-clause-value : goal.returns-clause-value
returns-clause-value c =
    value_read c.args.value_bytes c.args.words.now c.in_ok-key.key c.in_ok-value.value c.in_ok-key.rest.now c.in_ok-value.rest.now
    (omega arith) (omega arith) (omega arith) (omega arith) (omega arith) c.in_ok-key.ensures c.in_ok-value.ensures
