use Rattle.std.proofs.Common.{◌≡◌, ◌∙◌, ap, subst, List, ℕ, Option}
use Rattle.std.specs.Io.KnownBytes.{append_known}
use Rattle.sei_outside.specs.Bytes.{WrotePart}
use Rattle.sei_outside.proofs.Public.{wrote_first}
use Rattle.sei_script.specs.ReportLines.{message_text}
use Rattle.sei_main.specs.Report.{entered_text, ended_text}
use Rattle.sei_main.proofs.CallTexts.{second_part, third_part, third_all}
use Rattle.sei_main.proofs.world.state.write_served.Goals as goal

pub returns-in_err-write_entered-clause-part : goal.returns-in_err-write_entered-clause-part
returns-in_err-write_entered-clause-part g c = wrote_first _ _ _ _ c.write_entered.ensures.part

pub returns-in_err-sent-clause-part : goal.returns-in_err-sent-clause-part
returns-in_err-sent-clause-part g c =
    let s = c.args.served.now in
    let mid : Option (List ℕ) = g.K.Sink.written c.write_entered.new.sink in
    let now : Option (List ℕ) = g.K.Sink.written c.write_message.new.sink in
    second_part _ mid now (entered_text c.args.reporter.history c.args.c c.args.number c.args.bucket s.entered) (message_text c.args.c s.message) (ended_text c.args.c c.args.number s.state) c.in_ok-write_entered.ensures.all
    (subst (λ (m : List ℕ). WrotePart mid now (message_text c.args.c m)) c.bytes.ensures c.write_message.ensures.part)

pub returns-in_err-write_ended-clause-part : goal.returns-in_err-write_ended-clause-part
returns-in_err-write_ended-clause-part g c =
    let s = c.args.served.now in
    let mid : Option (List ℕ) = g.K.Sink.written c.write_entered.new.sink in
    let more : Option (List ℕ) = g.K.Sink.written c.write_message.new.sink in
    let is : more ≡ append_known mid (message_text c.args.c s.message) = c.in_ok-sent.ensures.all ∙ ap (λ (m : List ℕ). append_known mid (message_text c.args.c m)) c.bytes.ensures in
    third_part _ mid more _ (entered_text c.args.reporter.history c.args.c c.args.number c.args.bucket s.entered) (message_text c.args.c s.message) (ended_text c.args.c c.args.number s.state) c.in_ok-write_entered.ensures.all
    is c.write_ended.ensures.part

pub returns-clause-all : goal.returns-clause-all
returns-clause-all g c =
    let s = c.args.served.now in
    let mid : Option (List ℕ) = g.K.Sink.written c.write_entered.new.sink in
    let more : Option (List ℕ) = g.K.Sink.written c.write_message.new.sink in
    let is : more ≡ append_known mid (message_text c.args.c s.message) = c.in_ok-sent.ensures.all ∙ ap (λ (m : List ℕ). append_known mid (message_text c.args.c m)) c.bytes.ensures in
    third_all _ mid more _ (entered_text c.args.reporter.history c.args.c c.args.number c.args.bucket s.entered) (message_text c.args.c s.message) (ended_text c.args.c c.args.number s.state) c.in_ok-write_entered.ensures.all
    is c.in_ok-write_ended.ensures.all

pub returns-clause-part : goal.returns-clause-part
returns-clause-part g c =
    let s = c.args.served.now in
    let mid : Option (List ℕ) = g.K.Sink.written c.write_entered.new.sink in
    let more : Option (List ℕ) = g.K.Sink.written c.write_message.new.sink in
    let is : more ≡ append_known mid (message_text c.args.c s.message) = c.in_ok-sent.ensures.all ∙ ap (λ (m : List ℕ). append_known mid (message_text c.args.c m)) c.bytes.ensures in
    third_part _ mid more _ (entered_text c.args.reporter.history c.args.c c.args.number c.args.bucket s.entered) (message_text c.args.c s.message) (ended_text c.args.c c.args.number s.state) c.in_ok-write_entered.ensures.all
    is c.write_ended.ensures.part
