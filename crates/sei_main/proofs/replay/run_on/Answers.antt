use Rattle.std.proofs.Common.{◌≡◌, ◌+◌, [], ◌∙◌, ap, subst, arith, List, drop, length, get_or}
use Rattle.std.proofs.lemmas.List.{drop_all}
use Rattle.sei_script.specs.declared.line.ScriptLine.{ScriptLine}
use Rattle.sei_main.proofs.Runs.{lines_front}
use Rattle.sei_main.proofs.Fitting.{FitBehind, fit_next}
use Rattle.sei_main.proofs.Running.{line_part, line_written, line_state, end_part, end_all, aborted_is}
use Rattle.sei_main.specs.Serving.{step_by}
use Rattle.sei_main.proofs.Stepping.{serving_steps}
use Rattle.sei_main.proofs.NoFault.{still}
use Rattle.sei_main.proofs.replay.run_on.Goals as goal

pub returns-in_err-apply-clause-part : goal.returns-in_err-apply-clause-part
returns-in_err-apply-clause-part g c =
    let script : List ScriptLine = c.args.script.now in
    let i = c.loop-line.line-index in
    let line = c.line-item.result in
    let e : c.lines-line-items.result.now ≡ script = c.lines-line-items.ensures in
    let front = lines_front script i line (omega (arith, ap length e)) (c.line-item.is ∙ ap (λ (xs : List ScriptLine). get_or xs i line) e) in
    line_part (step_by g.S.Service.answering) c.args.reporter.history _ _ _ c.args.server script (drop i script) (drop (i + 1) script) c.loop-line.world line front c.loop-line.invariant.written c.apply.ensures.part

pub loop-line-preserved : goal.loop-line-preserved
loop-line-preserved g c =
    let script : List ScriptLine = c.args.script.now in
    let i = c.loop-line.line-index in
    let line = c.line-item.result in
    let e : c.lines-line-items.result.now ≡ script = c.lines-line-items.ensures in
    let front = lines_front script i line (omega (arith, ap length e)) (c.line-item.is ∙ ap (λ (xs : List ScriptLine). get_or xs i line) e) in
    let done = c.in_ok-apply.ensures in
    record {
      written = line_written (step_by g.S.Service.answering) c.args.reporter.history _ _ _ c.args.server script (drop i script) (drop (i + 1) script) c.loop-line.world c.apply.new.self line front done.state c.loop-line.invariant.written done.all;
      state = line_state (step_by g.S.Service.answering) (drop i script) (drop (i + 1) script) c.loop-line.world c.apply.new.self line front done.state ∙ c.loop-line.invariant.state;
      fit = fit_next (step_by g.S.Service.answering) (serving_steps g.S.Service.answering) c.loop-line.world c.apply.new.self line (drop (i + 1) script) done.state (subst (λ (xs : List ScriptLine). FitBehind (length c.loop-line.world.seats) xs) front c.loop-line.invariant.fit);
      quiet = still _ _ _ _ c.in_ok-apply.was c.apply.ensures.later c.apply.ensures.told ∙ c.loop-line.invariant.quiet;
    }

pub returns-in_err-write_closing-clause-part : goal.returns-in_err-write_closing-clause-part
returns-in_err-write_closing-clause-part g c =
    let script : List ScriptLine = c.args.script.now in
    let i = c.loop-line.line-index in
    let e : c.lines-line-items.result.now ≡ script = c.lines-line-items.ensures in
    let none : drop i script ≡ [] = drop_all i script (omega (arith, ap length e)) in
    end_part (step_by g.S.Service.answering) c.args.reporter.history _ _ _ c.args.server script (drop i script) c.loop-line.world c.connections.result.now c.is_aborted-aborted.result none c.connections.ensures c.is_aborted-aborted.ensures c.loop-line.invariant.written c.loop-line.invariant.state c.write_closing.ensures.part

pub returns-clause-all : goal.returns-clause-all
returns-clause-all g c =
    let script : List ScriptLine = c.args.script.now in
    let i = c.loop-line.line-index in
    let e : c.lines-line-items.result.now ≡ script = c.lines-line-items.ensures in
    let none : drop i script ≡ [] = drop_all i script (omega (arith, ap length e)) in
    end_all (step_by g.S.Service.answering) c.args.reporter.history _ _ _ c.args.server script (drop i script) c.loop-line.world c.connections.result.now c.is_aborted-aborted.result none c.connections.ensures c.is_aborted-aborted.ensures c.loop-line.invariant.written c.loop-line.invariant.state c.in_ok-write_closing.ensures.all

pub returns-clause-part : goal.returns-clause-part
returns-clause-part g c =
    let script : List ScriptLine = c.args.script.now in
    let i = c.loop-line.line-index in
    let e : c.lines-line-items.result.now ≡ script = c.lines-line-items.ensures in
    let none : drop i script ≡ [] = drop_all i script (omega (arith, ap length e)) in
    end_part (step_by g.S.Service.answering) c.args.reporter.history _ _ _ c.args.server script (drop i script) c.loop-line.world c.connections.result.now c.is_aborted-aborted.result none c.connections.ensures c.is_aborted-aborted.ensures c.loop-line.invariant.written c.loop-line.invariant.state c.write_closing.ensures.part

pub returns-clause-aborted : goal.returns-clause-aborted
returns-clause-aborted g c =
    let script : List ScriptLine = c.args.script.now in
    let i = c.loop-line.line-index in
    let e : c.lines-line-items.result.now ≡ script = c.lines-line-items.ensures in
    let none : drop i script ≡ [] = drop_all i script (omega (arith, ap length e)) in
    aborted_is (step_by g.S.Service.answering) c.args.server script (drop i script) c.loop-line.world c.is_aborted-aborted.result none c.is_aborted-aborted.ensures c.loop-line.invariant.state
