use Rattle.std.proofs.Common.{refl, Some, None}
use Rattle.sei_words.specs.LentBucket.{words_of, bucket_of}
use Rattle.sei_traverse.specs.Given.{given_of}
use Rattle.sei_traverse.specs.declared.turned.Want.TheVariants.{Nothing}
use Rattle.sei_traverse.specs.declared.workspace.Workspace.{Workspace}
use Rattle.sei_traverse.specs.Step.{site_of}
use Rattle.sei_traverse.proofs.StepResultLaws.{at_site, no_clock}
use Rattle.sei_traverse.proofs.workspace.Workspace.step_alone.Goals as goal

pub returns-in-None-clause-turned : goal.returns-in-None-clause-turned
returns-in-None-clause-turned g c =
    let given = given_of (g.H.Handler.behavior c.args.hands.now) c.args.input.now c.args.space.now (bucket_of (g.L.Lent.lent_bucket c.args.lent.now)) in
    let words = words_of (g.L.Lent.lent_bucket c.args.lent.now) in
    let told = g.C.Clock.told c.args.clock.now in
    let v : Workspace = record c.args.self.now { want = Nothing } in
    at_site g.K.Core.gives told given v words None (site_of given.behavior v) _ _ _ c.in-None.ensures.act (no_clock g.K.Core.gives told given v words None _ _ _ (λ now later. (refl, refl)))

pub returns-in-Some-clause-turned : goal.returns-in-Some-clause-turned
returns-in-Some-clause-turned g c =
    let given = given_of (g.H.Handler.behavior c.args.hands.now) c.args.input.now c.args.space.now (bucket_of (g.L.Lent.lent_bucket c.args.lent.now)) in
    let words = words_of (g.L.Lent.lent_bucket c.args.lent.now) in
    let told = g.C.Clock.told c.args.clock.now in
    let v : Workspace = record c.args.self.now { want = Nothing } in
    at_site g.K.Core.gives told given v words (Some c.in-Some.act) (site_of given.behavior v) _ _ _ c.in-Some.ensures.act c.make_act.ensures.turned
