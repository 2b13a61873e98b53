use Rattle.sei_words.specs.LentBucket.{words_of, bucket_of}
use Rattle.sei_traverse.specs.Given.{given_of}
use Rattle.sei_traverse.proofs.StepResultLaws.{once_runs}
use Rattle.sei_traverse.proofs.workspace.Workspace.once.Goals as goal

pub returns-clause-once : goal.returns-clause-once
returns-clause-once g c =
    let given = given_of (g.H.Handler.behavior c.args.hands.now) c.args.input.now c.args.space.now (bucket_of (g.L.Lent.lent_bucket c.args.lent.now)) in
    let words = words_of (g.L.Lent.lent_bucket c.args.lent.now) in
    let told = g.C.Clock.told c.args.clock.now in
    let left = words_of (g.L.Lent.lent_bucket c.act-ending.new.lent) in
    once_runs g.K.Core.gives told given c.args.self.now words c.act-ending.new.self left c.act-ending.result _ c.act-ending.new.core _ _ c.act-ending.ensures.act (c.go_on.ensures.gone left)
