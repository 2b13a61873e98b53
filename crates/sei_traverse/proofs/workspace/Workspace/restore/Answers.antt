use Rattle.std.proofs.Common.{arith}
use Rattle.sei_traverse.proofs.Branches.{restore_closes}
use Rattle.sei_traverse.proofs.workspace.Workspace.restore.Goals as goal

pub returns-else-self-len-clause-act : goal.returns-else-self-len-clause-act
returns-else-self-len-clause-act g c = restore_closes _ _ _ _ _ _ _ (omega (arith, c.if-self-len.false, c.len.ensures)) (c.close.ensures.act _)
