use Rattle.sei_traverse.proofs.PublicRuns.{run_sealed, run_space, run_lent, run_steps, run_noted, run_asked, run_struck, run_room}
use Rattle.sei_traverse.proofs.laws.runs_keep_what_steps_keep.Goals as goal

pub returns-clause-sealed : goal.returns-clause-sealed
returns-clause-sealed g c = λ told behavior input n x z t r. run_sealed g.K.Core.gives g.K.Core.counts told behavior input n x z t r

pub returns-clause-space : goal.returns-clause-space
returns-clause-space g c = λ told behavior input n x z t r. run_space g.K.Core.gives g.K.Core.counts told behavior input n x z t r

pub returns-clause-lent : goal.returns-clause-lent
returns-clause-lent g c = λ told behavior input n x z t r. run_lent g.K.Core.gives g.K.Core.counts told behavior input n x z t r

pub returns-clause-noted : goal.returns-clause-noted
returns-clause-noted g c = λ told behavior input n x z t r. run_noted g.K.Core.gives g.K.Core.counts told behavior input n x z t r

pub returns-clause-asked : goal.returns-clause-asked
returns-clause-asked g c = λ told behavior input n x z t r. run_asked g.K.Core.gives g.K.Core.counts told behavior input n x z t r

pub returns-clause-struck : goal.returns-clause-struck
returns-clause-struck g c = λ told behavior input n x z t r. run_struck g.K.Core.gives g.K.Core.counts told behavior input n x z t r

pub returns-clause-steps : goal.returns-clause-steps
returns-clause-steps g c = λ told behavior input n x z t r small. run_steps g.K.Core.gives g.K.Core.counts told behavior input n x z t small r

pub returns-clause-room : goal.returns-clause-room
returns-clause-room g c = λ told behavior input n x z t r. run_room g.K.Core.gives g.K.Core.counts told behavior input g.met.K.Core.lawful n x z t r
