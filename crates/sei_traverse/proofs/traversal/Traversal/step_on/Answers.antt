use Rattle.sei_traverse.specs.Promises.{KeepsBound, KeepsRoom, KeepsOnWay, KeepsIsolated, RefusesUnfit}
use Rattle.sei_traverse.specs.Running.{on}
use Rattle.sei_traverse.specs.State.{IsTraversal}
use Rattle.sei_traverse.proofs.PublicSteps.{step_isolates, step_within, step_on_way, step_room, step_refuses, of_made}
use Rattle.sei_traverse.proofs.traversal.Traversal.step_on.Goals as goal

pub returns-clause-within : goal.returns-clause-within
returns-clause-within g c =
    of_made g.K.Core.gives g.K.Core.counts (λ told behavior input x y t. IsTraversal x.traversal → KeepsBound g.K.Core.counts x y t)
    (step_within g.K.Core.gives g.K.Core.counts g.met.K.Core.lawful) _ _ _ _ _ _ c.make.ensures.makes c.make.ensures.traversal

pub returns-clause-room : goal.returns-clause-room
returns-clause-room g c =
    of_made g.K.Core.gives g.K.Core.counts (λ told behavior input x y t. KeepsRoom g.K.Core.counts x y)
    (step_room g.K.Core.gives g.K.Core.counts g.met.K.Core.lawful) _ _ _ _ _ _ c.make.ensures.makes

pub returns-clause-on_way : goal.returns-clause-on_way
returns-clause-on_way g c =
    of_made g.K.Core.gives g.K.Core.counts (KeepsOnWay g.K.Core.counts) (step_on_way g.K.Core.gives g.K.Core.counts g.met.K.Core.lawful) _ _ _ _ _ _ c.make.ensures.makes

pub returns-clause-isolated : goal.returns-clause-isolated
returns-clause-isolated g c =
    of_made g.K.Core.gives g.K.Core.counts (KeepsIsolated g.K.Core.counts) (step_isolates g.K.Core.gives g.K.Core.counts g.met.K.Core.lawful) _ _ _ _ _ _ c.make.ensures.makes

pub returns-clause-refused : goal.returns-clause-refused
returns-clause-refused g c =
    of_made g.K.Core.gives g.K.Core.counts (λ told behavior input x y t. RefusesUnfit g.K.Core.counts behavior input x y t)
    (step_refuses g.K.Core.gives g.K.Core.counts g.met.K.Core.lawful) _ _ _ _ _ _ c.make.ensures.makes
