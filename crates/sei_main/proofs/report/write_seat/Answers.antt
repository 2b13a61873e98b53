use Rattle.std.proofs.Common.{◌≡◌, ◌∙◌, ap, subst, List, ℕ, length}
use Rattle.std.specs.Io.KnownBytes.{append_known}
use Rattle.sei_outside.specs.Bytes.{WrotePart}
use Rattle.sei_outside.proofs.Public.{wrote_first, wrote_last}
use Rattle.sei_main.specs.Seats.{waiting}
use Rattle.sei_script.specs.ReportLines.{took_text, left_text}
use Rattle.sei_main.proofs.report.write_seat.Goals as goal

pub returns-in_err-write_text-in-Ok-clause-part : goal.returns-in_err-write_text-in-Ok-clause-part
returns-in_err-write_text-in-Ok-clause-part g c =
    let old = g.K.Sink.written c.args.sink.now in
    let now = g.K.Sink.written c.write_text.new.sink in
    let took : List ℕ = took_text c.args.c c.args.connection.now.sent in
    let left : List ℕ = left_text c.args.c (length (waiting c.args.connection.now)) in
    wrote_first old now took left (subst (λ (t : List ℕ). WrotePart old now t) (c.as_slice.ensures.value ∙ c.in-Ok.ensures ∙ ap (took_text c.args.c) c.sent.ensures) c.write_text.ensures.part)

pub returns-clause-part : goal.returns-clause-part
returns-clause-part g c =
    let old = g.K.Sink.written c.args.sink.now in
    let mid = g.K.Sink.written c.write_text.new.sink in
    let now = g.K.Sink.written c.write_text-in-Ok-left_text.new.sink in
    let took : List ℕ = took_text c.args.c c.args.connection.now.sent in
    let left : List ℕ = left_text c.args.c (length (waiting c.args.connection.now)) in
    let l : c.as_slice-in-Ok-left_text.result.now ≡ left = c.as_slice-in-Ok-left_text.ensures.value ∙ c.in-Ok-left_text.ensures ∙ ap (λ (xs : List ℕ). left_text c.args.c (length xs)) c.waiting.ensures in
    let t : mid ≡ append_known old took = c.in_ok-write_text-in-Ok.ensures.all ∙ ap (append_known old) (c.as_slice.ensures.value ∙ c.in-Ok.ensures ∙ ap (took_text c.args.c) c.sent.ensures) in
    wrote_last old mid now took left t (subst (λ (t : List ℕ). WrotePart mid now t) l c.write_text-in-Ok-left_text.ensures.part)
