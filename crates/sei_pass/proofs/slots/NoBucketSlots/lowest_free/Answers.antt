use Rattle.std.proofs.Common.{sym, ◌∙◌, arith}
use Rattle.sei_pass.proofs.FreeLaws.{none_free}
use Rattle.sei_pass.proofs.slots.NoBucketSlots.lowest_free.Goals as goal

pub returns : goal.returns
returns c = sym (none_free 0 c.args.g.now.slots ∙ omega arith)
