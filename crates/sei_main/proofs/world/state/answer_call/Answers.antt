use Rattle.std.proofs.Common.{◌≡◌, ◌+◌, ◌∙◌, ap, sym, subst, List, ℕ}
use Rattle.sei_outside.specs.Bytes.{WrotePart}
use Rattle.sei_outside.proofs.Public.{wrote_nothing}
use Rattle.mc_model.specs.Views.{placed_of}
use Rattle.sei_main.specs.Answering.{asked}
use Rattle.sei_main.specs.Becomes.{asking_of}
use Rattle.sei_main.specs.Report.{served_text}
use Rattle.sei_main.specs.Serving.{asked_in, numbers_behind}
use Rattle.sei_main.proofs.CallTexts.{served_line}
use Rattle.sei_main.proofs.world.state.answer_call.Goals as goal

pub returns-in-Err-clause-part : goal.returns-in-Err-clause-part
returns-in-Err-clause-part g c = wrote_nothing _ _

pub returns-in_ok-sent-in-Ok-clause-part : goal.returns-in_ok-sent-in-Ok-clause-part
returns-in_ok-sent-in-Ok-clause-part g c =
    let p = placed_of c.args.text.now c.args.call.now in
    let a = c.args.asking in
    let number = a.first + c.args.nth in
    let q = asked_in (asking_of a c.args.text.now c.args.plans.now) c.args.nth c.args.messages p in
    let is : c.in-Ok.served ≡ (g.S.Service.answering c.args.server.now q).served =
    c.in-Ok.ensures.served
    ∙ ap (λ (r : ℕ). (g.S.Service.answering c.args.server.now (asked a.now c.args.text.now c.args.nth p (record { request = a.numbers.request; reply = r }) c.at-plan.result)).served) c.saturating_add.ensures
    ∙ ap (λ plan. (g.S.Service.answering c.args.server.now (asked a.now c.args.text.now c.args.nth p (numbers_behind a.numbers c.args.messages) plan)).served) c.at-plan.ensures in
    subst (λ (t : List ℕ). WrotePart (g.K.Sink.written c.args.sink.now) (g.K.Sink.written c.write_served.new.sink) t)
    (ap (served_text c.args.reporter.history a.connection number c.args.call.now.bucket) is ∙ sym (served_line c.args.reporter.history a.connection number p (g.S.Service.answering c.args.server.now q).served (g.S.Service.answering c.args.server.now q).strikes))
    c.write_served.ensures.part
