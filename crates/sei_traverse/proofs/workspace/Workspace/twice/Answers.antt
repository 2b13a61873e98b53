use Rattle.std.proofs.Common.{refl}
use Rattle.sei_traverse.specs.declared.workspace.Ending.TheVariants.{Leads, Refuses, Aborts}
use Rattle.sei_words.specs.LentBucket.{words_of, bucket_of}
use Rattle.sei_traverse.specs.Given.{given_of}
use Rattle.sei_traverse.proofs.StepResultLaws.{twice_runs, once_on, still}
use Rattle.sei_traverse.proofs.workspace.Workspace.twice.Goals as goal

pub returns-in-Leads-clause-twice : goal.returns-in-Leads-clause-twice
returns-in-Leads-clause-twice g c =
    let given = given_of (g.H.Handler.behavior c.args.hands.now) c.args.input.now c.args.space.now (bucket_of (g.L.Lent.lent_bucket c.args.lent.now)) in
    let words = words_of (g.L.Lent.lent_bucket c.args.lent.now) in
    let told = g.C.Clock.told c.args.clock.now in
    let left = words_of (g.L.Lent.lent_bucket c.act.new.lent) in
    twice_runs g.K.Core.gives told given c.args.self.now words c.act.new.self left (Leads _) _ c.act.new.core _ _ c.in-Leads.ensures.act
    (once_on g.K.Core.gives told given.behavior c.args.input.now c.args.space.now (g.L.Lent.lent_bucket c.act.new.lent) (g.L.Lent.lent_bucket c.args.lent.now) c.act.new.self left _ _ _ c.act.ensures.lent c.once.ensures.once)

pub returns-in-Refuses-clause-twice : goal.returns-in-Refuses-clause-twice
returns-in-Refuses-clause-twice g c =
    let given = given_of (g.H.Handler.behavior c.args.hands.now) c.args.input.now c.args.space.now (bucket_of (g.L.Lent.lent_bucket c.args.lent.now)) in
    let words = words_of (g.L.Lent.lent_bucket c.args.lent.now) in
    let told = g.C.Clock.told c.args.clock.now in
    let left = words_of (g.L.Lent.lent_bucket c.act.new.lent) in
    twice_runs g.K.Core.gives told given c.args.self.now words c.act.new.self left Refuses _ c.act.new.core _ _ c.in-Refuses.ensures.act
    (still g.K.Core.gives told given c.args.self.now words c.act.new.self left Refuses _ _ _ (λ later. (refl, refl)))

pub returns-in-Aborts-clause-twice : goal.returns-in-Aborts-clause-twice
returns-in-Aborts-clause-twice g c =
    let given = given_of (g.H.Handler.behavior c.args.hands.now) c.args.input.now c.args.space.now (bucket_of (g.L.Lent.lent_bucket c.args.lent.now)) in
    let words = words_of (g.L.Lent.lent_bucket c.args.lent.now) in
    let told = g.C.Clock.told c.args.clock.now in
    let left = words_of (g.L.Lent.lent_bucket c.act.new.lent) in
    twice_runs g.K.Core.gives told given c.args.self.now words c.act.new.self left (Aborts c.in-Aborts.cause) _ c.act.new.core _ _ c.in-Aborts.ensures.act
    (still g.K.Core.gives told given c.args.self.now words c.act.new.self left (Aborts c.in-Aborts.cause) _ _ _ (λ later. (refl, refl)))
