use Rattle.sei_words.specs.LentBucket.{words_of, bucket_of}
use Rattle.sei_traverse.specs.Given.{given_of}
use Rattle.sei_traverse.proofs.StepResultLaws.{step_skip}
use Rattle.sei_traverse.proofs.workspace.Workspace.make_act.Goals as goal

pub returns-in-Skip-clause-turned : goal.returns-in-Skip-clause-turned
returns-in-Skip-clause-turned g c =
    let given = given_of (g.H.Handler.behavior c.args.hands.now) c.args.input.now c.args.space.now (bucket_of (g.L.Lent.lent_bucket c.args.lent.now)) in
    let words = words_of (g.L.Lent.lent_bucket c.args.lent.now) in
    let told = g.C.Clock.told c.args.clock.now in
    step_skip g.K.Core.gives told given c.args.self.now words c.args.act _ _ _ _ c.in-Skip.ensures (rw c.skipped-to.ensures at (c.go.ensures.gone words))
