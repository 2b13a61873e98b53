use Rattle.std.proofs.Common.{◌≡◌, length}
use Rattle.mc_text.specs.Reading.{calls_at}
use Rattle.mc_text.specs.Walk.{IsAt, place_of}
use Rattle.sei_traverse.specs.declared.turned.State.TheVariants.{Finished}
use Rattle.sei_main.specs.Becomes.{asking_of}
use Rattle.sei_main.proofs.CallsSoFar.{CallsSoFar}
use Rattle.sei_main.proofs.world.state.answer_calls.Given as goal

abbrev pub invariant-loop-nth : goal.invariant-loop-nth
invariant-loop-nth g l = record {
  calls : CallsSoFar g.S.Service.answering (asking_of l.asking l.text l.plans) l.reporter.history (g.K.Sink.written l.fn.sink) (g.K.Sink.written l.sink) l.nth l.answered.messages l.fn.server l.server (calls_at l.text l.request);
  finished : l.answered.state ≡ Finished;
  limits : g.S.Service.limits l.server ≡ g.S.Service.limits l.fn.server;
  at : IsAt l.text l.request l.cursor;
  place : place_of l.cursor ≡ l.nth;
  end : l.nth-end ≡ length (calls_at l.text l.request);
  quiet : g.K.Sink.faults l.sink ≡ g.K.Sink.faults l.fn.sink;
}
