use Rattle.std.proofs.Common.{◌≡◌, ap, ◌∙◌, subst}
use Rattle.std.specs.Prelude.{Bool, IfOk}
use Rattle.std.proofs.lemmas.Result.{on_ok_weaker}
use Rattle.std.specs.Io.KnownBytes.{append_known}
use Rattle.sei_outside.specs.Bytes.{WrotePart}
use Rattle.sei_main.specs.Report.{report_of}
use Rattle.sei_main.specs.Run.{run_by}
use Rattle.sei_main.specs.Serving.{step_by}
use Rattle.sei_main.specs.Tables.{Tables, fresh_tables}
use Rattle.sei_main.specs.TableAnswers.{table_answering}
use Rattle.sei_main.proofs.replay.run_script.Goals as goal

pub returns-in-Ok-clause-aborted : goal.returns-in-Ok-clause-aborted
returns-in-Ok-clause-aborted g c =
    let fresh = c.in-Ok.ensures ∙ ap fresh_tables c.geometry.ensures in
    subst (λ (t : Tables). IfOk c.run_on.result (λ (a : Bool). a ≡ (run_by (step_by table_answering) t c.args.script.now).state.aborted)) fresh c.run_on.ensures.aborted

pub returns-in-Ok-clause-all : goal.returns-in-Ok-clause-all
returns-in-Ok-clause-all g c =
    let script = c.args.script.now in
    let history = c.args.reporter.history in
    let fresh = c.in-Ok.ensures ∙ ap fresh_tables c.geometry.ensures in
    let same = ap (λ (t : Tables). report_of history (run_by (step_by table_answering) t script)) fresh in
    on_ok_weaker c.run_on.result (λ e. e ∙ ap (append_known _) same) c.run_on.ensures.all

pub returns-in-Ok-clause-part : goal.returns-in-Ok-clause-part
returns-in-Ok-clause-part g c =
    let script = c.args.script.now in
    let history = c.args.reporter.history in
    let fresh = c.in-Ok.ensures ∙ ap fresh_tables c.geometry.ensures in
    let same = ap (λ (t : Tables). report_of history (run_by (step_by table_answering) t script)) fresh in
    subst (WrotePart _ _) same c.run_on.ensures.part
