use Rattle.std.proofs.Common.{arith}
use Rattle.sei_words.specs.LentBucket.{words_of}
use Rattle.sei_traverse.proofs.Branches.{verify_else}
use Rattle.sei_traverse.proofs.workspace.Workspace.verify.Goals as goal

pub returns-else-self-len-clause-act : goal.returns-else-self-len-clause-act
returns-else-self-len-clause-act g c =
    let words = words_of (g.L.Lent.lent_bucket c.args.lent.now) in
    verify_else g.K.Core.gives c.args.self.now words c.args.self.now.place.index _ _ _ (omega (arith, c.if-self-len.false, c.len.ensures)) (c.verify_copy.ensures.act words)
