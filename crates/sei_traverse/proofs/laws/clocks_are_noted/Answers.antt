use Rattle.sei_traverse.proofs.PublicRuns.{run_noted}
use Rattle.sei_traverse.proofs.PublicSteps.{step_notes}
use Rattle.sei_traverse.proofs.laws.clocks_are_noted.Goals as goal

pub returns-clause-step : goal.returns-clause-step
returns-clause-step g c = λ told behavior input x y state step none. step_notes g.K.Core.gives g.K.Core.counts g.met.K.Core.lawful told behavior input x y state step

pub returns-clause-run : goal.returns-clause-run
returns-clause-run g c = λ told behavior input n x z t r none. run_noted g.K.Core.gives g.K.Core.counts told behavior input n x z t r
