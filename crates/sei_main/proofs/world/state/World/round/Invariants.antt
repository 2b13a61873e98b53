use Rattle.std.proofs.Common.{◌≡◌, ◌-◌, length}
use Rattle.std.specs.Prelude.{◌||◌}
use Rattle.sei_main.specs.State.{round_by, round_from_by}
use Rattle.sei_main.proofs.Written.{Written}
use Rattle.sei_main.specs.Serving.{step_by}
use Rattle.sei_main.proofs.world.state.World.round.Given as goal

-- what is left of the round finishes it
abbrev pub invariant-loop-c : goal.invariant-loop-c
invariant-loop-c g l = record {
  written : Written l.reporter.history (g.K.Sink.written l.fn.sink) (g.K.Sink.written l.sink) (round_from_by (step_by g.S.Service.answering) (l.count - l.c) l.c l.self).events (round_by (step_by g.S.Service.answering) l.fn.self).events;
  state : (round_from_by (step_by g.S.Service.answering) (l.count - l.c) l.c l.self).state ≡ (round_by (step_by g.S.Service.answering) l.fn.self).state;
  went : (l.went || (round_from_by (step_by g.S.Service.answering) (l.count - l.c) l.c l.self).went) ≡ (round_by (step_by g.S.Service.answering) l.fn.self).went;
  count : l.count ≡ length l.self.seats;
  quiet : g.K.Sink.faults l.sink ≡ g.K.Sink.faults l.fn.sink;
}
