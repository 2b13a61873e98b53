use Rattle.std.proofs.Common.{arith, take}
use Rattle.sei_main.specs.Seats.{waiting}
use Rattle.sei_main.proofs.Taking.{answers_part, closing_part, closing_all, few_taken, few_messages}
use Rattle.sei_main.proofs.world.state.take_request.Goals as goal

pub took-requires-clause-calls : goal.took-requires-clause-calls
took-requires-clause-calls g c =
    omega (arith, c.calls.ensures (take c.args.size (waiting c.args.connection.now)) c.requires.next.reading.of, few_taken (g.S.Service.limits c.args.server.now) c.args.connection.now c.args.size c.args.request.now c.requires.next c.requires.buckets)

pub returns-in_err-answered-clause-part : goal.returns-in_err-answered-clause-part
returns-in_err-answered-clause-part g c =
    answers_part g.S.Service.answering c.args.now c.args.plans.now c.args.reporter.history c.args.c c.args.server.now c.args.connection.now c.args.size c.args.request.now c.waiting.result.now c.entered.result c.requests.result c.sent.result c.waiting.ensures c.entered.ensures.entered c.requests.ensures c.sent.ensures _ _ c.answer_calls.ensures.part

pub returns-in_err-write_closed-in-Finished-clause-part : goal.returns-in_err-write_closed-in-Finished-clause-part
returns-in_err-write_closed-in-Finished-clause-part g c =
    closing_part g.S.Service.answering c.args.now c.args.plans.now c.args.reporter.history c.args.c c.args.server.now c.args.connection.now c.args.size c.args.request.now c.waiting.result.now c.entered.result c.requests.result c.sent.result c.waiting.ensures c.entered.ensures.entered c.requests.ensures c.sent.ensures
    c.in_ok-answered.answered c.in_ok-answered.ensures.answered c.in-Finished.is c.ends_connection-closes.result (c.ends_connection-closes.ensures (take c.args.size (waiting c.args.connection.now)) c.requires.next.reading.of) (g.K.Sink.written c.args.sink.now) (g.K.Sink.written c.answer_calls.new.sink) (g.K.Sink.written c.write_closed.new.sink) c.in_ok-answered.ensures.all c.write_closed.ensures.part

pub stop-requires-clause-messages : goal.stop-requires-clause-messages
stop-requires-clause-messages g c =
    few_messages (g.S.Service.limits c.args.server.now) c.args.connection.now c.args.size c.args.request.now c.waiting.result.now c.in_ok-answered.answered.messages c.requires.next c.requires.buckets c.waiting.ensures c.in_ok-answered.ensures.few

pub stop-requires-in-Aborted-clause-messages : goal.stop-requires-in-Aborted-clause-messages
stop-requires-in-Aborted-clause-messages g c =
    few_messages (g.S.Service.limits c.args.server.now) c.args.connection.now c.args.size c.args.request.now c.waiting.result.now c.in_ok-answered.answered.messages c.requires.next c.requires.buckets c.waiting.ensures c.in_ok-answered.ensures.few

pub returns-in_ok-write_closed-in-Finished-clause-all : goal.returns-in_ok-write_closed-in-Finished-clause-all
returns-in_ok-write_closed-in-Finished-clause-all g c =
    closing_all g.S.Service.answering c.args.now c.args.plans.now c.args.reporter.history c.args.c c.args.server.now c.args.connection.now c.args.size c.args.request.now c.waiting.result.now c.entered.result c.requests.result c.sent.result c.waiting.ensures c.entered.ensures.entered c.requests.ensures c.sent.ensures
    c.in_ok-answered.answered c.in_ok-answered.ensures.answered c.in-Finished.is c.ends_connection-closes.result (c.ends_connection-closes.ensures (take c.args.size (waiting c.args.connection.now)) c.requires.next.reading.of) (g.K.Sink.written c.args.sink.now) (g.K.Sink.written c.answer_calls.new.sink) (g.K.Sink.written c.write_closed.new.sink) c.in_ok-answered.ensures.all c.in_ok-write_closed-in-Finished.ensures.all

pub returns-in_ok-write_closed-in-Finished-clause-part : goal.returns-in_ok-write_closed-in-Finished-clause-part
returns-in_ok-write_closed-in-Finished-clause-part g c =
    closing_part g.S.Service.answering c.args.now c.args.plans.now c.args.reporter.history c.args.c c.args.server.now c.args.connection.now c.args.size c.args.request.now c.waiting.result.now c.entered.result c.requests.result c.sent.result c.waiting.ensures c.entered.ensures.entered c.requests.ensures c.sent.ensures
    c.in_ok-answered.answered c.in_ok-answered.ensures.answered c.in-Finished.is c.ends_connection-closes.result (c.ends_connection-closes.ensures (take c.args.size (waiting c.args.connection.now)) c.requires.next.reading.of) (g.K.Sink.written c.args.sink.now) (g.K.Sink.written c.answer_calls.new.sink) (g.K.Sink.written c.write_closed.new.sink) c.in_ok-answered.ensures.all c.write_closed.ensures.part
