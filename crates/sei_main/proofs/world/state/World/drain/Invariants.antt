use Rattle.std.proofs.Common.{◌≡◌, ◌+◌, ◌<◌, ◌^◌, length}
use Rattle.std.specs.Prelude.{if◌then◌else◌}
use Rattle.sei_main.specs.State.{drained_by, bytes_waiting}
use Rattle.sei_main.proofs.Written.{Written}
use Rattle.sei_main.proofs.Rounds.{drained_if}
use Rattle.sei_main.specs.Serving.{step_by}
use Rattle.sei_main.proofs.Stepping.{serving_steps}
use Rattle.sei_main.proofs.world.state.World.drain.Given as goal

-- draining on from here is draining
abbrev pub invariant-loop-went : goal.invariant-loop-went
invariant-loop-went g l = record {
  written : Written l.reporter.history (g.K.Sink.written l.fn.sink) (g.K.Sink.written l.sink) (drained_if (step_by g.S.Service.answering) (serving_steps g.S.Service.answering) l.went l.self).events (drained_by (step_by g.S.Service.answering) l.fn.self).events;
  state : (drained_if (step_by g.S.Service.answering) (serving_steps g.S.Service.answering) l.went l.self).state ≡ (drained_by (step_by g.S.Service.answering) l.fn.self).state;
  few : length l.self.seats < 2 ^ 32;
  quiet : g.K.Sink.faults l.sink ≡ g.K.Sink.faults l.fn.sink;
}

abbrev pub decreases-loop-went : goal.decreases-loop-went
decreases-loop-went g l = bytes_waiting l.self.seats + (if l.went then 1 else 0)
