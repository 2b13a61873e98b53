use Rattle.yardstick.proofs.Laws.{input_fits}
use Rattle.yardstick.proofs.calls.run_on.Goals as goal

pub run-requires-clause-room : goal.run-requires-clause-room
run-requires-clause-room g c = input_fits c.args.traversal.now.space c.args.hands.now c.args.text.now c.args.traversal.now.workspace.sealed.nth c.requires.space c.requires.valid

pub returns : goal.returns
returns g c = record { before = c.run.result.before; run = c.run.ensures.run }
