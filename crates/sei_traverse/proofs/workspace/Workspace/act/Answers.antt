use Rattle.sei_fault.specs.declared.place.Phase.TheVariants.{Guard, Take, First, Restore, Second, Compare, Verify, Enter, Give, Send, Done}
use Rattle.sei_words.specs.LentBucket.{words_of, bucket_of}
use Rattle.sei_traverse.specs.Given.{given_of}
use Rattle.sei_traverse.proofs.ActLaws.{plain_act, timed_act}
use Rattle.sei_traverse.proofs.workspace.Workspace.act.Goals as goal

pub returns-in-Guard-clause-act : goal.returns-in-Guard-clause-act
returns-in-Guard-clause-act g c =
    let bucket = bucket_of (g.L.Lent.lent_bucket c.args.lent.now) in
    let words = words_of (g.L.Lent.lent_bucket c.args.lent.now) in
    let told = g.C.Clock.told c.args.clock.now in
    plain_act g.K.Core.gives told c.args.self.now words Guard _ _ _ (given_of (g.H.Handler.behavior c.args.hands.now) c.args.input.now c.args.space.now bucket) c.in-Guard.is (λ now. c.guard.ensures.act c.args.space.now bucket words)

pub returns-in-Take-clause-act : goal.returns-in-Take-clause-act
returns-in-Take-clause-act g c =
    let bucket = bucket_of (g.L.Lent.lent_bucket c.args.lent.now) in
    let words = words_of (g.L.Lent.lent_bucket c.args.lent.now) in
    let told = g.C.Clock.told c.args.clock.now in
    plain_act g.K.Core.gives told c.args.self.now words Take _ _ _ (given_of (g.H.Handler.behavior c.args.hands.now) c.args.input.now c.args.space.now bucket) c.in-Take.is (λ now. c.take.ensures.act bucket words)

pub returns-in-First-clause-act : goal.returns-in-First-clause-act
returns-in-First-clause-act g c =
    let bucket = bucket_of (g.L.Lent.lent_bucket c.args.lent.now) in
    let words = words_of (g.L.Lent.lent_bucket c.args.lent.now) in
    let told = g.C.Clock.told c.args.clock.now in
    timed_act g.K.Core.gives told c.args.self.now words First _ _ _ (given_of (g.H.Handler.behavior c.args.hands.now) c.args.input.now c.args.space.now bucket) c.in-First.is c.pass.ensures.act

pub returns-in-Restore-clause-act : goal.returns-in-Restore-clause-act
returns-in-Restore-clause-act g c =
    let bucket = bucket_of (g.L.Lent.lent_bucket c.args.lent.now) in
    let words = words_of (g.L.Lent.lent_bucket c.args.lent.now) in
    let told = g.C.Clock.told c.args.clock.now in
    plain_act g.K.Core.gives told c.args.self.now words Restore _ _ _ (given_of (g.H.Handler.behavior c.args.hands.now) c.args.input.now c.args.space.now bucket) c.in-Restore.is (λ now. c.restore.ensures.act)

pub returns-in-Second-clause-act : goal.returns-in-Second-clause-act
returns-in-Second-clause-act g c =
    let bucket = bucket_of (g.L.Lent.lent_bucket c.args.lent.now) in
    let words = words_of (g.L.Lent.lent_bucket c.args.lent.now) in
    let told = g.C.Clock.told c.args.clock.now in
    timed_act g.K.Core.gives told c.args.self.now words Second _ _ _ (given_of (g.H.Handler.behavior c.args.hands.now) c.args.input.now c.args.space.now bucket) c.in-Second.is c.pass-in-Second.ensures.act

pub returns-in-Compare-clause-act : goal.returns-in-Compare-clause-act
returns-in-Compare-clause-act g c =
    let bucket = bucket_of (g.L.Lent.lent_bucket c.args.lent.now) in
    let words = words_of (g.L.Lent.lent_bucket c.args.lent.now) in
    let told = g.C.Clock.told c.args.clock.now in
    plain_act g.K.Core.gives told c.args.self.now words Compare _ _ _ (given_of (g.H.Handler.behavior c.args.hands.now) c.args.input.now c.args.space.now bucket) c.in-Compare.is (λ now. c.compare.ensures.act words)

pub returns-in-Verify-clause-act : goal.returns-in-Verify-clause-act
returns-in-Verify-clause-act g c =
    let bucket = bucket_of (g.L.Lent.lent_bucket c.args.lent.now) in
    let words = words_of (g.L.Lent.lent_bucket c.args.lent.now) in
    let told = g.C.Clock.told c.args.clock.now in
    plain_act g.K.Core.gives told c.args.self.now words Verify _ _ _ (given_of (g.H.Handler.behavior c.args.hands.now) c.args.input.now c.args.space.now bucket) c.in-Verify.is (λ now. c.verify.ensures.act)

pub returns-in-Enter-clause-act : goal.returns-in-Enter-clause-act
returns-in-Enter-clause-act g c =
    let bucket = bucket_of (g.L.Lent.lent_bucket c.args.lent.now) in
    let words = words_of (g.L.Lent.lent_bucket c.args.lent.now) in
    let told = g.C.Clock.told c.args.clock.now in
    plain_act g.K.Core.gives told c.args.self.now words Enter _ _ _ (given_of (g.H.Handler.behavior c.args.hands.now) c.args.input.now c.args.space.now bucket) c.in-Enter.is (λ now. c.close_only.ensures.act words)

pub returns-in-Give-clause-act : goal.returns-in-Give-clause-act
returns-in-Give-clause-act g c =
    let bucket = bucket_of (g.L.Lent.lent_bucket c.args.lent.now) in
    let words = words_of (g.L.Lent.lent_bucket c.args.lent.now) in
    let told = g.C.Clock.told c.args.clock.now in
    plain_act g.K.Core.gives told c.args.self.now words Give _ _ _ (given_of (g.H.Handler.behavior c.args.hands.now) c.args.input.now c.args.space.now bucket) c.in-Give.is (λ now. c.close_only-in-Give.ensures.act words)

pub returns-in-Send-clause-act : goal.returns-in-Send-clause-act
returns-in-Send-clause-act g c =
    let bucket = bucket_of (g.L.Lent.lent_bucket c.args.lent.now) in
    let words = words_of (g.L.Lent.lent_bucket c.args.lent.now) in
    let told = g.C.Clock.told c.args.clock.now in
    plain_act g.K.Core.gives told c.args.self.now words Send _ _ _ (given_of (g.H.Handler.behavior c.args.hands.now) c.args.input.now c.args.space.now bucket) c.in-Send.is (λ now. c.close_only-in-Send.ensures.act words)

pub returns-in-Done-clause-act : goal.returns-in-Done-clause-act
returns-in-Done-clause-act g c =
    let bucket = bucket_of (g.L.Lent.lent_bucket c.args.lent.now) in
    let words = words_of (g.L.Lent.lent_bucket c.args.lent.now) in
    let told = g.C.Clock.told c.args.clock.now in
    plain_act g.K.Core.gives told c.args.self.now words Done _ _ _ (given_of (g.H.Handler.behavior c.args.hands.now) c.args.input.now c.args.space.now bucket) c.in-Done.is (λ now. c.close_only-in-Done.ensures.act words)
