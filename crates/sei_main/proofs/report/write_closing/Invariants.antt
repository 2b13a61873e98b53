use Rattle.std.proofs.Common.{◌≡◌, take}
use Rattle.std.specs.Io.KnownBytes.{append_known}
use Rattle.sei_main.specs.Report.{seats_text}
use Rattle.sei_main.proofs.report.write_closing.Given as goal

-- the lines of the connections so far were written
abbrev pub invariant-loop-i : goal.invariant-loop-i
invariant-loop-i g l = record {
  wrote : g.K.Sink.written l.sink ≡ append_known (g.K.Sink.written l.fn.sink) (seats_text 0 (take l.i l.connections));
  quiet : g.K.Sink.faults l.sink ≡ g.K.Sink.faults l.fn.sink;
}
