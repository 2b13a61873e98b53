use Rattle.std.proofs.Common.{◌≡◌, drop, length}
use Rattle.sei_main.specs.Run.{start_of}
use Rattle.sei_main.proofs.Written.{Written}
use Rattle.sei_main.proofs.Runs.{later_events, later_state}
use Rattle.sei_main.proofs.Fitting.{FitBehind}
use Rattle.sei_main.specs.Serving.{step_by}
use Rattle.sei_main.proofs.replay.run_on.Given as goal

-- what is left of the script finishes the run
abbrev pub invariant-loop-line : goal.invariant-loop-line
invariant-loop-line g l = record {
  written : Written l.reporter.history (g.K.Sink.written l.fn.sink) (g.K.Sink.written l.sink) (later_events (step_by g.S.Service.answering) l.world (drop l.line-index l.script)) (later_events (step_by g.S.Service.answering) (start_of l.fn.server l.script).state l.script);
  state : later_state (step_by g.S.Service.answering) l.world (drop l.line-index l.script) ≡ later_state (step_by g.S.Service.answering) (start_of l.fn.server l.script).state l.script;
  fit : FitBehind (length l.world.seats) (drop l.line-index l.script);
  quiet : g.K.Sink.faults l.sink ≡ g.K.Sink.faults l.fn.sink;
}
