use Rattle.std.proofs.Common.{sym, arith}
use Rattle.std.proofs.lemmas.List.{take_all}
use Rattle.std.proofs.Math.ListN.{length-take}
use Rattle.mc_text.proofs.reader.head.Goals as goal

pub returns-then-bytes-lt-LONGEST_LINE-clause-head : goal.returns-then-bytes-lt-LONGEST_LINE-clause-head
returns-then-bytes-lt-LONGEST_LINE-clause-head c = sym (take_all 65536 c.args.bytes.now (omega arith))

pub returns-else-bytes-lt-LONGEST_LINE-clause-length : goal.returns-else-bytes-lt-LONGEST_LINE-clause-length
returns-else-bytes-lt-LONGEST_LINE-clause-length c = omega (arith, length-take 65536 c.args.bytes.now)
