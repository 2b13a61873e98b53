use Rattle.sei_traverse.proofs.Resting.{halted_runs}
use Rattle.sei_traverse.proofs.workspace.Workspace.halt.Goals as goal

pub returns-clause-halted : goal.returns-clause-halted
returns-clause-halted g c = λ words.
    halted_runs g.K.Core.gives c.args.self.now words c.next_phase.result c.close-ending.new.self c.close-ending.result c.args.core.now c.close-ending.new.core c.go_on.new.core _
    c.next_phase.ensures (c.close-ending.ensures.act words) (c.go_on.ensures.gone words)
