-- The core that carries out a planned fault keeps the law of `Core`.
use Rattle.std.proofs.Common.{◌≡◌, ℕ, ◌+◌, ◌-◌, Bool, true, false, Some, None, ap, subst, sym, ◌∙◌, refl}
use Rattle.std.specs.Prelude.{is_some, unwrap_or, MatchOption, if◌then◌else◌}
use Rattle.std.specs.declared.option.Option.{Option}
use Rattle.sei_fault.specs.Counts.{Counts, Answered, counted}
use Rattle.sei_fault.specs.declared.plan.Planned.{Planned}
use Rattle.sei_fault.specs.declared.script.Stage.{Stage}
use Rattle.sei_fault.specs.declared.script.Stage.TheVariants as stage
use Rattle.sei_fault.specs.Counts.Answered.{Honest, Struck}
use Rattle.sei_fault.specs.Plans.{none_yet}
use Rattle.sei_fault.specs.Question.{Question, Answer, honestly_to}
use Rattle.sei_fault.specs.Question.Question.{Value, Written, Test, Often, Goes}
use Rattle.sei_fault.specs.Script.{ScriptState, waited, begun, stage_at, altered_in, altered, read_more, stage_after, script_answer, script_next, fallen, script_counts}
use Rattle.sei_fault.specs.Scripted.{function_core}

-- no strike comes when a plan is armed
waited_fallen : (b : Bool) → fallen (if b then stage.Armed none_yet else stage.Waiting) ≡ 0
waited_fallen true = refl
waited_fallen false = refl

waiting_fallen : (plan : Option Planned) (site : _) → fallen (waited plan site) ≡ 0
waiting_fallen None site = refl
waiting_fallen (Some p) site = waited_fallen _

-- nor when a step begins
begun_fallen : (plan : Option Planned) (s : Stage) (site : _) → fallen (begun plan s site) ≡ fallen s
begun_fallen plan stage.Waiting site = waiting_fallen plan site
begun_fallen plan (stage.Armed n) site = refl
begun_fallen plan stage.Struck site = refl
begun_fallen plan stage.Over site = refl

read_fallen : (s : Stage) → fallen (read_more s) ≡ fallen s
read_fallen stage.Waiting = refl
read_fallen (stage.Armed n) = refl
read_fallen stage.Struck = refl
read_fallen stage.Over = refl

-- if nothing was altered, no strike came
pub same_fallen : (plan : Option Planned) (s : Stage) (q : Question) → fallen (stage_after (stage_at plan s q) false q) ≡ fallen s
same_fallen plan s (Value h) = read_fallen s
same_fallen plan s (Written h) = refl
same_fallen plan s (Test h) = refl
same_fallen plan s (Often site) = begun_fallen plan s site
same_fallen plan s (Goes h) = refl

-- if something was altered, one strike came
struck_fallen : (s : Stage) (q : Question) → fallen (stage_after s true q) ≡ 1
struck_fallen s (Value h) = refl
struck_fallen s (Written h) = refl
struck_fallen s (Test h) = refl
struck_fallen s (Often site) = refl
struck_fallen s (Goes h) = refl

-- after a strike the plan alters nothing
struck_at : (plan : Option Planned) (q : Question) → stage_at plan stage.Struck q ≡ stage.Struck
struck_at plan (Value h) = refl
struck_at plan (Written h) = refl
struck_at plan (Test h) = refl
struck_at plan (Often site) = refl
struck_at plan (Goes h) = refl

struck_honest : (plan : Option Planned) (q : Question) → altered_in plan stage.Struck q ≡ None
struck_honest None q = refl
struck_honest (Some p) q = refl

struck_altered : (plan : Option Planned) (q : Question) → altered_in plan (stage_at plan stage.Struck q) q ≡ None
struck_altered plan q = ap (λ (s : Stage). altered_in plan s q) (struck_at plan q) ∙ struck_honest plan q

-- an altered answer is the first strike
none_before : (plan : Option Planned) (s : Stage) (q : Question) (b : Answer q) → altered_in plan (stage_at plan s q) q ≡ Some b → fallen s ≡ 0
none_before plan stage.Waiting q b e = refl
none_before plan (stage.Armed n) q b e = refl
none_before plan stage.Struck q b e = absurd (subst (λ (o : Option (Answer q)). MatchOption o (Unit {0}) (λ _. ⊥)) (sym (struck_altered plan q) ∙ e) tt)
none_before plan stage.Over q b e = refl

-- the law, for each answer that the plan may give
answered : (s : ScriptState) (q : Question) (o : Option (Answer q)) → altered s q ≡ o →
    Answered (unwrap_or o (honestly_to q) ≡ honestly_to q) (script_counts s)
    (script_counts (record { asked = counted s.asked; plan = s.plan; stage = stage_after (stage_at s.plan s.stage q) (is_some o) q }))
answered s q None e =
    Honest refl (ap (λ (n : ℕ). let c : Counts = record { asked = counted s.asked; struck = n; room = Some (1 - n) } in c) (same_fallen s.plan s.stage q))
answered s q (Some b) e =
    let none = none_before s.plan s.stage q b e in
    let one = struck_fallen (stage_at s.plan s.stage q) q in
    Struck refl (one ∙ ap (λ n. n + 1) (sym none)) (ap (λ n. 1 - n) none ∙ ap (λ n. 1 - n + 1) (sym one))

-- its law as a core
pub script_lawful : (s : ScriptState) (q : Question) (a : Answer q) (t : ScriptState) → function_core script_answer script_next s q a t → Answered (a ≡ honestly_to q) (script_counts s) (script_counts t)
script_lawful s q a t (e, f) =
    subst (λ (u : ScriptState). Answered (a ≡ honestly_to q) (script_counts s) (script_counts u)) (sym f)
    (subst (λ (b : Answer q). Answered (b ≡ honestly_to q) (script_counts s) (script_counts (script_next s q))) (sym e)
    (answered s q (altered s q) refl))
