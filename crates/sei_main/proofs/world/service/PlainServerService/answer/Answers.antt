use Rattle.mc_model.specs.Views.{placed_of}
use Rattle.sei_main.proofs.Asked.{call_fits}
use Rattle.sei_main.proofs.world.service.PlainServerService.answer.Goals as goal

pub answer-requires-clause-bucket : goal.answer-requires-clause-bucket
answer-requires-clause-bucket c = (call_fits _ c.args.text.now c.args._nth (placed_of c.args.text.now c.args.call.now) c.requires.call).bucket
