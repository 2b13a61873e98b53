use Rattle.sei_main.proofs.Nexts.{next_more, next_whole}
use Rattle.sei_main.proofs.world.state.next_request.Goals as goal

pub returns-in-None : goal.returns-in-None
returns-in-None c = next_more c.args.limits.now c.args.connection.now c.waiting.result.now c.waiting.ensures c.if-is_closed.ensures c.in-None.ensures.none

pub returns-in-Some : goal.returns-in-Some
returns-in-Some c = next_whole c.args.limits.now c.args.connection.now c.waiting.result.now c.length.result c.in-Some.request c.waiting.ensures c.if-is_closed.ensures c.in-Some.ensures.some c.length.ensures
