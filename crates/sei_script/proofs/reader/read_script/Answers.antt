use Rattle.std.proofs.Common.{◌≡◌, ℕ, ◌+◌, ◌≤◌, [], ◌∷◌, ◌++◌, length, take, drop, ap, sym, ◌∙◌, subst, arith, Some, None, length-drop}
use Rattle.std.specs.Prelude.{◌==◌}
use Rattle.std.specs.List.{position}
use Rattle.sei_script.specs.Context.{context_after, empty_context}
use Rattle.sei_script.specs.Faults.{once, holds}
use Rattle.sei_script.specs.Fit.{IsWellPlaced}
use Rattle.sei_script.specs.Reading.{Reading, ReadsAs, ends_at, reading_of}
use Rattle.sei_script.specs.Says.{line_says}
use Rattle.sei_script.specs.Limits.{script_limit}
use Rattle.sei_script.specs.declared.line.Context.{Context}
use Rattle.sei_script.specs.declared.line.ScriptLine.{ScriptLine}
use Rattle.sei_script.specs.declared.line.Said.TheVariants.{Nothing, Line, Wrong}
use Rattle.sei_script.proofs.Cuts.{line_led, no_line, starts, inside, nowhere}
use Rattle.sei_script.proofs.FaultLaws.{said_once, planned_now}
use Rattle.sei_script.proofs.Fit.{Fit, said_fit, context_more, fit_more, few_more, answer_fit, answer_valid}
use Rattle.sei_script.proofs.SaysLaws.{answer_bytes}
use Rattle.sei_script.proofs.reader.read_script.Goals as goal
use Rattle.sei_script.proofs.reader.read_script.Goals.{in-Nothing, in-Line+in_ok-add-in-Line+in_ok-push-in-Line}

pub returns-in-Wrong-clause-answer : goal.returns-in-Wrong-clause-answer
returns-in-Wrong-clause-answer c =
    let l = c.loop-end in
    let f : position (λ b. b == 10) l.rest.now ≡ Some c.in-Some.end = sym c.in-Some.ensures in
    let s : Wrong c.in-Wrong.why ≡ once l.lines.items (line_says l.context (take c.in-Some.end l.rest.now)) =
    sym c.in-Wrong.is ∙ said_once (holds l.traversals) l.lines.items _ _ _ c.once.ensures c.in_ok-line_says.ensures l.invariant.planned in
    let small : length c.args.bytes.now ≤ script_limit = omega arith in
    starts _ _ small ∙ sym l.invariant.whole ∙ line_led _ _ _ _ _ _ f l.invariant.context s

pub loop-end-preserved : goal.loop-end-preserved
loop-end-preserved c =
    let l = c.loop-end in
    let f : position (λ b. b == 10) l.rest.now ≡ Some c.in-Some.end = sym c.in-Some.ensures in
    let r : c.rest_from-rest.result.now ≡ drop (c.in-Some.end + 1) l.rest.now = c.rest_from-rest.ensures in
    let number : l.number + 1 + length c.rest_from-rest.result.now ≤ length c.args.bytes.now + 1 = omega (arith, inside l.rest.now c.in-Some.end f, ap length r, length-drop {A = ℕ}) in
    let said = said_once (holds l.traversals) l.lines.items _ _ _ c.once.ensures c.in_ok-line_says.ensures l.invariant.planned in
    elim c.match-once.branch [
      | in-Nothing w ↦
          let s : Nothing ≡ once l.lines.items (line_says l.context (take c.in-Some.end l.rest.now)) = sym w.in-Nothing.is ∙ said in
          record {
            whole = rw (w.lines-is, r) (sym (line_led l.lines.items l.number c.in-Some.end l.context l.rest.now _ f l.invariant.context s) ∙ l.invariant.whole);
            context = rw (w.lines-is, w.context-is) l.invariant.context;
            few = rw w.context-is l.invariant.few;
            fit = rw w.lines-is l.invariant.fit;
            planned = rw (w.lines-is, w.traversals-is) l.invariant.planned;
            number = number;
            size = l.invariant.size;
          }
      | in-Line+in_ok-add-in-Line+in_ok-push-in-Line w ↦
          let line : ScriptLine = w.in-Line.line in
          let s : Line line ≡ once l.lines.items (line_says l.context (take c.in-Some.end l.rest.now)) = sym w.in-Line.is ∙ said in
          let items : c.match-once.lines.items ≡ l.lines.items ++ line ∷ [] = ap (λ v. v.items) w.lines-is ∙ w.in_ok-push-in-Line.ensures.items in
          let context : c.match-once.context ≡ context_after l.context line = w.context-is ∙ w.after-context.ensures in
          let fit : IsWellPlaced l.context line = subst (λ said. Fit l.context said) (sym s) (said_fit l.context l.lines.items (take c.in-Some.end l.rest.now)) in
          record {
            whole = rw (items, r) (sym (line_led l.lines.items l.number c.in-Some.end l.context l.rest.now _ f l.invariant.context s) ∙ l.invariant.whole);
            context = rw (items, context, context_more empty_context l.lines.items line) (ap (λ (x : Context). context_after x line) l.invariant.context);
            few = rw context (few_more l.context line l.invariant.few fit);
            fit = rw items (fit_more empty_context l.lines.items line l.invariant.fit (subst (λ (x : Context). IsWellPlaced x line) l.invariant.context fit));
            planned = rw (items, w.traversals-is) (planned_now l.traversals w.add.new.self l.lines.items line w.in_ok-add-in-Line.ensures l.invariant.planned);
            number = number;
            size = l.invariant.size;
          }
    ]

answer : goal.returns-clause-answer
answer c =
    let l = c.loop-end in
    let small : length c.args.bytes.now ≤ script_limit = omega arith in
    let none : position (λ b. b == 10) l.rest.now ≡ None = nowhere _ l.rest.now c.find.ensures c.in_default.not-Some in
    let same : reading_of script_limit c.args.bytes.now ≡ ends_at l.lines.items l.number l.rest.now = starts _ _ small ∙ sym l.invariant.whole ∙ no_line _ _ l.rest.now none in
    subst (λ (r : Reading). ReadsAs r c.whole.result) (sym same) c.whole.ensures

pub returns-clause-answer : goal.returns-clause-answer
returns-clause-answer c = answer c

pub returns-clause-fit : goal.returns-clause-fit
returns-clause-fit c = answer_fit script_limit c.args.bytes.now c.whole.result (answer c)

pub returns-clause-geometry : goal.returns-clause-geometry
returns-clause-geometry c = answer_valid script_limit c.args.bytes.now c.whole.result (answer c)

pub returns-clause-bytes : goal.returns-clause-bytes
returns-clause-bytes c = answer_bytes script_limit c.args.bytes.now c.whole.result (λ i. omega (arith, c.type_inv.bytes i)) (answer c)
