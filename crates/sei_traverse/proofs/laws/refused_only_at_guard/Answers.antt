use Rattle.sei_traverse.specs.Promises.{RefusedAtGuard}
use Rattle.sei_traverse.proofs.PublicSteps.{step_at_guard, of_made}
use Rattle.sei_traverse.proofs.laws.refused_only_at_guard.Goals as goal

pub returns-clause-step : goal.returns-clause-step
returns-clause-step g c = step_at_guard g.K.Core.gives g.K.Core.counts g.met.K.Core.lawful

pub returns-clause-run : goal.returns-clause-run
returns-clause-run g c = λ told behavior input n x z t r.
    of_made g.K.Core.gives g.K.Core.counts (λ told behavior input x y t. RefusedAtGuard x t) (step_at_guard g.K.Core.gives g.K.Core.counts g.met.K.Core.lawful) told behavior input r.last z t r.makes
