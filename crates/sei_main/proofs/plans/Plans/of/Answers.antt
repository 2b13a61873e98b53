use Rattle.std.proofs.Common.{◌≡◌, ◌+◌, [], ◌∙◌, ap, sym, arith, List, drop, length, get_or}
use Rattle.std.proofs.lemmas.List.{drop_all}
use Rattle.sei_script.specs.declared.line.ScriptLine.{ScriptLine}
use Rattle.sei_main.specs.Plans.{plans_from}
use Rattle.sei_main.proofs.Runs.{lines_front}
use Rattle.sei_main.proofs.plans.Plans.of.Goals as goal

pub loop-line-preserved : goal.loop-line-preserved
loop-line-preserved c =
    let script : List ScriptLine = c.args.script.now in
    let i = c.loop-line.line-index in
    let line = c.line-item.result in
    let e : c.lines-line-items.result.now ≡ script = c.lines-line-items.ensures in
    let front = lines_front script i line (omega (arith, ap length e)) (c.line-item.is ∙ ap (λ (xs : List ScriptLine). get_or xs i line) e) in
    ap (λ x. plans_from x (drop (i + 1) script)) c.in_ok-add.ensures ∙ sym (ap (plans_from c.loop-line.plans) front) ∙ c.loop-line.invariant

pub returns : goal.returns
returns c =
    let script : List ScriptLine = c.args.script.now in
    let i = c.loop-line.line-index in
    let e : c.lines-line-items.result.now ≡ script = c.lines-line-items.ensures in
    let none : drop i script ≡ [] = drop_all i script (omega (arith, ap length e)) in
    sym (ap (plans_from c.loop-line.plans) none) ∙ c.loop-line.invariant
