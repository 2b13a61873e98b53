use Rattle.std.proofs.Common.{◌∙◌}
use Rattle.sei_traverse.proofs.PassLaws.{making_steps, reading_steps}
use Rattle.sei_traverse.proofs.workspace.Workspace.pass_step.Goals as goal

pub returns-in-Making-clause-steps : goal.returns-in-Making-clause-steps
returns-in-Making-clause-steps g c =
    rw c.in-Making.is (making_steps g.K.Core.gives g.K.Core.counts (g.C.Clock.told c.args.clock.now) (g.H.Handler.behavior c.args.hands.now) c.args.input.now c.args.space.now
    c.args.self.now (g.L.Lent.lent_bucket c.args.lent.now) (g.L.Lent.lent_bucket c.step_on.new.lent) c.step_on.new.self c.step_on.new.log c.step_on.new.notes _ c.args.core.now c.step_on.new.core
    c.requires.space c.step_on.ensures.space (rw c.in-Making.is at c.step_on.ensures.stepped))

pub returns-in-Reading-clause-steps : goal.returns-in-Reading-clause-steps
returns-in-Reading-clause-steps g c =
    rw c.in-Reading.is (reading_steps g.K.Core.gives g.K.Core.counts (g.C.Clock.told c.args.clock.now) (g.H.Handler.behavior c.args.hands.now) c.args.input.now c.args.space.now
    c.args.self.now (g.L.Lent.lent_bucket c.args.lent.now) (g.L.Lent.lent_bucket c.step_on-in-Reading.new.lent) c.step_on-in-Reading.new.self c.step_on-in-Reading.new.log c.step_on-in-Reading.new.notes _ c.args.core.now c.step_on-in-Reading.new.core
    (c.requires.workspace.same ∙ c.requires.space) c.step_on-in-Reading.ensures.space (rw c.in-Reading.is at c.step_on-in-Reading.ensures.stepped))
