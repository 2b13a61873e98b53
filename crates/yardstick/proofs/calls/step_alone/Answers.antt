use Rattle.std.proofs.Common.{Some}
use Rattle.yardstick.proofs.Laws.{input_fits, one_step}
use Rattle.yardstick.proofs.calls.step_alone.Goals as goal

pub step-requires-clause-room : goal.step-requires-clause-room
step-requires-clause-room g c = input_fits c.args.traversal.now.space c.args.hands.now c.args.text.now c.args.traversal.now.workspace.sealed.nth c.requires.space c.requires.valid

pub returns : goal.returns
returns g c = one_step g.K.Core.gives g.K.Core.counts (Some c.args.clock.now.at) c.args.hands.now c.args.text.now _ _ _ c.step.ensures.makes
