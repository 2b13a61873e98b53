use Rattle.std.proofs.Common.{arith}
use Rattle.sei_traverse.proofs.Branches.{compare_else}
use Rattle.sei_traverse.proofs.workspace.Workspace.compare.Goals as goal

pub returns-else-self-compared-clause-act : goal.returns-else-self-compared-clause-act
returns-else-self-compared-clause-act g c = λ words. compare_else g.K.Core.gives c.args.self.now words c.args.self.now.place.index _ _ _ (omega (arith, c.if-self-compared.false, c.compared.ensures)) (c.compare_outputs.ensures.act words)
