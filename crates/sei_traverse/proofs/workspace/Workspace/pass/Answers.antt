use Rattle.std.proofs.Common.{refl, ap}
use Rattle.sei_fault.specs.declared.place.Phase.{Phase}
use Rattle.sei_pass.specs.declared.frame.PassStep.TheVariants.{Next, Halted, Bad}
use Rattle.sei_words.specs.LentBucket.{words_of}
use Rattle.sei_traverse.specs.declared.workspace.Ending.TheVariants.{Leads}
use Rattle.sei_traverse.specs.Acts.{acted, at}
use Rattle.sei_traverse.specs.Work.{work}
use Rattle.sei_traverse.proofs.PassLaws.{pass_runs}
use Rattle.sei_traverse.proofs.workspace.Workspace.pass.Goals as goal

pub returns-in-Next-clause-act : goal.returns-in-Next-clause-act
returns-in-Next-clause-act g c =
    let left = g.L.Lent.lent_bucket c.pass_step.new.lent in
    pass_runs g.K.Core.gives g.K.Core.counts (g.C.Clock.told c.args.clock.now) (g.H.Handler.behavior c.args.hands.now) c.args.input.now c.args.space.now c.args.which
    (work c.args.self.now (g.L.Lent.lent_bucket c.args.lent.now) c.args.core.now) (work c.pass_step.new.self left c.pass_step.new.core) (Next c.in-Next.index) c.pass_step.new.core _
    c.in-Next.ensures.steps (ap (λ (p : Phase). acted c.pass_step.new.self (words_of left) (Leads (at p c.in-Next.index))) c.pass_phase-phase.ensures, refl)

pub returns-in-Halted-clause-act : goal.returns-in-Halted-clause-act
returns-in-Halted-clause-act g c =
    let left = g.L.Lent.lent_bucket c.pass_step.new.lent in
    pass_runs g.K.Core.gives g.K.Core.counts (g.C.Clock.told c.args.clock.now) (g.H.Handler.behavior c.args.hands.now) c.args.input.now c.args.space.now c.args.which
    (work c.args.self.now (g.L.Lent.lent_bucket c.args.lent.now) c.args.core.now) (work c.pass_step.new.self left c.pass_step.new.core) Halted c.close.new.core _
    c.in-Halted.ensures.steps (rw c.pass_phase-phase.ensures at (rw c.next_phase.ensures at (c.close.ensures.act (words_of left))))

pub returns-in-Bad-clause-act : goal.returns-in-Bad-clause-act
returns-in-Bad-clause-act g c =
    let left = g.L.Lent.lent_bucket c.pass_step.new.lent in
    pass_runs g.K.Core.gives g.K.Core.counts (g.C.Clock.told c.args.clock.now) (g.H.Handler.behavior c.args.hands.now) c.args.input.now c.args.space.now c.args.which
    (work c.args.self.now (g.L.Lent.lent_bucket c.args.lent.now) c.args.core.now) (work c.pass_step.new.self left c.pass_step.new.core) (Bad c.in-Bad.cause) c.pass_step.new.core _
    c.in-Bad.ensures.steps (refl, refl)
