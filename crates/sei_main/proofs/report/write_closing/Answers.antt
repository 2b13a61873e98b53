use Rattle.std.proofs.Common.{◌+◌, ◌++◌, ◌∙◌, ap, sym, subst, arith, List, ℕ, take, drop}
use Rattle.sei_script.specs.AbortLines.{end_text}
use Rattle.std.specs.Io.KnownBytes.{append_known}
use Rattle.sei_outside.specs.Bytes.{WrotePart}
use Rattle.sei_outside.proofs.Public.{wrote_both, wrote_part_of, wrote_last_of}
use Rattle.sei_main.specs.Report.{seats_text, seat_text}
use Rattle.sei_main.proofs.SeatTexts.{seats_split_then, seats_more, seats_all}
use Rattle.sei_main.proofs.NoFault.{still}
use Rattle.sei_main.proofs.report.write_closing.Goals as goal

pub returns-in_err-write_seat-clause-part : goal.returns-in_err-write_seat-clause-part
returns-in_err-write_seat-clause-part g c =
    let seats = c.args.connections.now in
    let i = c.loop-i.i in
    let seat = c.index-connections-i.result in
    wrote_part_of _ _ _ (seats_text 0 (take i seats)) (seat_text i seat) (seats_text (i + 1) (drop (i + 1) seats) ++ end_text c.args.aborted) _
    (seats_split_then seats i seat (end_text c.args.aborted) (omega arith) c.index-connections-i.is) c.loop-i.invariant.wrote c.write_seat.ensures.part

pub loop-i-preserved : goal.loop-i-preserved
loop-i-preserved g c =
    let seats = c.args.connections.now in
    let i = c.loop-i.i in
    let seat = c.index-connections-i.result in
    record {
      wrote = wrote_both _ _ _ (seats_text 0 (take i seats)) (seat_text i seat) c.loop-i.invariant.wrote c.in_ok-write_seat.ensures.all
          ∙ ap (append_known (g.K.Sink.written c.args.sink.now)) (sym (seats_more seats i seat (omega arith) c.index-connections-i.is));
      quiet = still _ _ _ _ c.in_ok-write_seat.was c.write_seat.ensures.later c.write_seat.ensures.told ∙ c.loop-i.invariant.quiet;
    }

pub returns-clause-part : goal.returns-clause-part
returns-clause-part g c =
    let seats = c.args.connections.now in
    let i = c.loop-i.i in
    wrote_last_of _ _ _ (seats_text 0 (take i seats)) (end_text c.args.aborted) _ (ap (λ (t : List ℕ). t ++ end_text c.args.aborted) (sym (seats_all seats i (omega arith)))) c.loop-i.invariant.wrote (subst (λ (t : List ℕ). WrotePart (g.K.Sink.written c.loop-i.sink) (g.K.Sink.written c.write_text.new.sink) t) c.end_text.ensures c.write_text.ensures.part)
