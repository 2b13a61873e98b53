use Rattle.sei_traverse.proofs.PublicSteps.{step_isolates, step_within, step_on_way, step_room, step_refuses}
use Rattle.sei_traverse.proofs.laws.one_strike_is_isolated.Goals as goal

pub returns-clause-isolated : goal.returns-clause-isolated
returns-clause-isolated g c = step_isolates g.K.Core.gives g.K.Core.counts g.met.K.Core.lawful

pub returns-clause-within : goal.returns-clause-within
returns-clause-within g c = step_within g.K.Core.gives g.K.Core.counts g.met.K.Core.lawful

pub returns-clause-on_way : goal.returns-clause-on_way
returns-clause-on_way g c = step_on_way g.K.Core.gives g.K.Core.counts g.met.K.Core.lawful

pub returns-clause-room : goal.returns-clause-room
returns-clause-room g c = step_room g.K.Core.gives g.K.Core.counts g.met.K.Core.lawful

pub returns-clause-refused : goal.returns-clause-refused
returns-clause-refused g c = step_refuses g.K.Core.gives g.K.Core.counts g.met.K.Core.lawful
