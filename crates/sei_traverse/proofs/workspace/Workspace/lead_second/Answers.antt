use Rattle.std.proofs.Common.{◌∙◌}
use Rattle.sei_pass.specs.declared.given.Which.TheVariants.{Reading}
use Rattle.sei_traverse.proofs.Lift.{step_leads, step_leaves}
use Rattle.sei_traverse.proofs.workspace.Workspace.lead_second.Goals as goal

pub returns-in-Some-clause-begins : goal.returns-in-Some-clause-begins
returns-in-Some-clause-begins g c = λ told input space here.
    step_leads g.K.Core.gives told (g.H.Handler.behavior c.args.hands.now) input
    space (g.L.Lent.lent_bucket c.args.lent.now) (g.L.Lent.lent_bucket c.lead_on.new.lent) Reading c.args.self.now c.lead_on.new.self c.lead_on.new.log c.requires.second c.lead_on.ensures.space (c.requires.workspace.same ∙ here)
    c.args.core.now c.lead_on.new.core c.in-Some.to c.in-Some.ensures.led

pub returns-in-None-clause-begins : goal.returns-in-None-clause-begins
returns-in-None-clause-begins g c = λ told input space here f z rest.
    step_leaves g.K.Core.gives told (g.H.Handler.behavior c.args.hands.now) input
    space (g.L.Lent.lent_bucket c.args.lent.now) (g.L.Lent.lent_bucket c.lead_on.new.lent) Reading c.args.self.now c.lead_on.new.self c.lead_on.new.log c.requires.second c.lead_on.ensures.space (c.requires.workspace.same ∙ here)
    c.args.core.now c.lead_on.new.core f c.lead_on.new.exit z c.lead_on.ensures.lent c.in-None.ensures.led rest
