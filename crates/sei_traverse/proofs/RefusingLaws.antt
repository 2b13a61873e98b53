-- Whatever a core answers, a traversal is refused only at Guard.
use Rattle.std.proofs.Common.{◌≡◌, ℕ, ◌+◌, ◌-◌, Bool, true, false, List, [], ◌∷◌, length, Option, Some, None, refl, sym, ap, ◌∙◌}
use Rattle.std.specs.Prelude.{slice_get, if◌then◌else◌, ◌==◌, nat_lt}
use Rattle.std.specs.declared.result.Result.{Result}
use Rattle.std.specs.declared.result.Result.TheVariants.{Ok, Err}
use Rattle.sei_code.specs.declared.modes.Mode.TheVariants.{Plain as PlainMode}
use Rattle.sei_fault.specs.declared.cause.AbortCause.{AbortCause}
use Rattle.sei_fault.specs.declared.cause.AbortCause.TheVariants.{Gate, Range as OutOfRange, Differs as Differing}
use Rattle.sei_fault.specs.declared.place.Act.{Act}
use Rattle.sei_fault.specs.declared.place.Phase.{Phase}
use Rattle.sei_fault.specs.declared.place.Phase.TheVariants.{Guard, Take, First, Restore, Second, Compare, Verify, Enter, Give, Send, Done}
use Rattle.sei_fault.specs.declared.place.Place.{Place}
use Rattle.sei_fault.specs.declared.place.Times.{Times}
use Rattle.sei_fault.specs.declared.place.Times.TheVariants.{Once, Skip, Twice}
use Rattle.sei_fault.specs.Question.{Question, Answer}
use Rattle.sei_fault.specs.Tree.{Tree, bound, Always}
use Rattle.sei_fault.proofs.Public.{always}
use Rattle.sei_gate.specs.Closing.{risen}
use Rattle.sei_stmt.specs.Machine.{Machine, Outcome}
use Rattle.sei_stmt.specs.Machine.Outcome.{Next, Halted, Bad}
use Rattle.sei_stmt.specs.Statements.{step_tree}
use Rattle.sei_pass.specs.declared.given.Which.{Which}
use Rattle.sei_pass.specs.declared.given.Which.TheVariants.{Making, Reading}
use Rattle.sei_restore.specs.Undoing.{undo_at}
use Rattle.sei_compare.specs.Comparing.{entry_tree, codes_tree, word_at, wire_tree}
use Rattle.sei_traverse.specs.declared.turned.State.{State}
use Rattle.sei_traverse.specs.declared.turned.State.TheVariants.{Went, Finished, Refused}
use Rattle.sei_traverse.specs.declared.turned.Want.{Want}
use Rattle.sei_traverse.specs.declared.turned.Want.TheVariants.{Nothing, Take as WantTake, Enter as WantEnter, Give as WantGive}
use Rattle.sei_traverse.specs.declared.workspace.Ending.{Ending}
use Rattle.sei_traverse.specs.declared.workspace.Ending.TheVariants.{Leads, Refuses, Aborts}
use Rattle.sei_traverse.specs.declared.workspace.Workspace.{Workspace}
use Rattle.sei_traverse.specs.Acts.{Acted, ends, at, closed_to, closing_then, closes, next_phase}
use Rattle.sei_traverse.specs.PassActs.{pass_phase, machine_in, with_machine, pass_from, pass_to, pass_tree}
use Rattle.sei_traverse.specs.Phases.{guard_call, store_wanted, take_wanted, undone_as, undone_to, compared, entries_to, outputs_to, word_to, reply_of, copy_bytes, wire_to, verify_copy, send_want}
use Rattle.sei_traverse.specs.Given.{Given, setting_in}
use Rattle.sei_traverse.specs.Step.{StepResult, step_result, aborted, is_end, act_in, act_tree, site_of, goes, goes_on, once, unless_ended, twice, skipped, step_as, step_at, traversal_step, TimedTwice}
use Rattle.sei_traverse.proofs.StepsBound.{always_bound, always_any}

-- an act that leaves the place, and refuses only at Guard
record RefusesAtGuard (phase : Phase) (w : Workspace) (y : Acted) : Type 0 where
  place : y.workspace.place ≡ w.place
  guard : y.ending ≡ Refuses → phase ≡ Guard

refuses_at_guard : (w v : Workspace) (words : List ℕ) (ending : Ending) → v.place ≡ w.place → RefusesAtGuard Guard w (record { workspace = v; words = words; ending = ending })
refuses_at_guard w v words ending same = record { place = same; guard = λ r. refl }

leads : (phase : Phase) (w v : Workspace) (words : List ℕ) (to : Place) → v.place ≡ w.place → RefusesAtGuard phase w (record { workspace = v; words = words; ending = Leads to })
leads phase w v words to same = record { place = same; guard = λ r. let never : ⊥ = cc in absurd never }

aborts : (phase : Phase) (w v : Workspace) (words : List ℕ) (cause : AbortCause) → v.place ≡ w.place → RefusesAtGuard phase w (record { workspace = v; words = words; ending = Aborts cause })
aborts phase w v words cause same = record { place = same; guard = λ r. let never : ⊥ = cc in absurd never }

-- acts

module _ (w : Workspace) (phase : Phase) where
  abbrev AtGuard : Acted → Type 0
  AtGuard y = RefusesAtGuard phase w y

  close_leads : (p : Phase) (v : Workspace) (words : List ℕ) (want : Want) (to : Place) → v.place ≡ w.place → Always AtGuard (closes p v words want to)
  close_leads p v words want to same = λ yes. by_answer yes
    where
      by_answer : (yes : Bool) → Always AtGuard (closed_to v words (λ u. ends (record u { want = want }) words (Leads to)) (yes, if yes then risen v.gate.done else v.gate.done))
      by_answer true = leads phase w _ words to same
      by_answer false = aborts phase w _ words (Gate v.gate.done) same

  take_room : (v : Workspace) (words : List ℕ) (there : Bool) → v.place ≡ w.place →
      Always AtGuard (if there then ends (record v { want = WantTake v.wanted }) words (Leads (at First 0)) else ends v words (Aborts (OutOfRange v.wanted)))
  take_room v words true same = leads phase w _ words (at First 0) same
  take_room v words false same = aborts phase w v words (OutOfRange v.wanted) same

  take_closed : (g : Given) (words : List ℕ) (yes : Bool) → Always AtGuard (closed_to w words (take_wanted g.space.geometry words) (yes, if yes then risen w.gate.done else w.gate.done))
  take_closed g words true = take_room (record w { gate = record { done = risen w.gate.done } }) words (nat_lt w.wanted g.space.geometry.buckets) refl
  take_closed g words false = aborts phase w _ words (Gate w.gate.done) refl

  take_leads : (g : Given) (words : List ℕ) (b : Bool) → Always AtGuard (if b then store_wanted g w words else closing_then Take w words (take_wanted g.space.geometry words))
  take_leads g words true = λ b wanted. leads phase w _ words (at Take 1) refl
  take_leads g words false = λ yes. take_closed g words yes

  pass_onward : (which : Which) (v : Workspace) (words : List ℕ) (o : Outcome) → v.place ≡ w.place → Always AtGuard (pass_from which v words o)
  pass_onward which v words (Next i) same = leads phase w v words (at (pass_phase which) i) same
  pass_onward which v words Halted same = close_leads (pass_phase which) v words Nothing (at (next_phase (pass_phase which)) 0) same
  pass_onward which v words (Bad cause) same = aborts phase w v words cause same

  pass_place : (which : Which) (m : Machine) → (with_machine which w m).place ≡ w.place
  pass_place Making m = refl
  pass_place Reading m = refl

  pass_leads : (which : Which) (g : Given) (now index : ℕ) (words : List ℕ) → Always AtGuard (pass_tree which g now index w words)
  pass_leads which g now index words =
      always_any AtGuard (step_tree (setting_in g which w.sealed now) index (machine_in which w words)) (pass_to which w)
      (λ x. pass_onward which (with_machine which w x.machine) x.machine.words x.outcome (pass_place which x.machine))

  undone_leads : (words : List ℕ) (index : ℕ) (cause : Option AbortCause) → Always AtGuard (undone_as w words index cause)
  undone_leads words index None = leads phase w w words (at Restore (index + 1)) refl
  undone_leads words index (Some cause) = aborts phase w w words cause refl

  restore_leads : (index : ℕ) (words : List ℕ) (b : Bool) →
      Always AtGuard (if b then bound (undo_at words (slice_get w.first_log.items (length w.first_log.items - 1 - index))) (undone_to w index) else closes Restore w words Nothing (at Second 0))
  restore_leads index words true =
      always_any AtGuard (undo_at words (slice_get w.first_log.items (length w.first_log.items - 1 - index))) (undone_to w index) (λ u. undone_leads u.words index u.cause)
  restore_leads index words false = close_leads Restore w words Nothing (at Second 0) refl

  entries_lead : (index : ℕ) (words : List ℕ) (same : Bool) → Always AtGuard (entries_to w words index same)
  entries_lead index words true = leads phase w w words (at Compare (index + 1)) refl
  entries_lead index words false = aborts phase w w words (Differing index) refl

  outputs_lead : (words : List ℕ) (same : Bool) → Always AtGuard (outputs_to w words same)
  outputs_lead words true = close_leads Compare w words Nothing (at Verify 0) refl
  outputs_lead words false = aborts phase w w words _ refl

  compare_leads : (index : ℕ) (words : List ℕ) (b : Bool) →
      Always AtGuard (if b then bound (entry_tree w.first_log.items w.second_log.items index) (entries_to w words index)
      else bound (codes_tree w.first.code w.first.bytes.items w.second.code w.second.bytes.items) (outputs_to w words))
  compare_leads index words true = always_any AtGuard (entry_tree w.first_log.items w.second_log.items index) (entries_to w words index) (λ same. entries_lead index words same)
  compare_leads index words false = always_any AtGuard (codes_tree w.first.code w.first.bytes.items w.second.code w.second.bytes.items) (outputs_to w words) (λ same. outputs_lead words same)

  same_leads : (index : ℕ) (words : List ℕ) (same : Bool) → Always AtGuard (if same then ends w words (Leads (at Verify (index + 1))) else ends w words (Aborts (Differing index)))
  same_leads index words true = leads phase w w words (at Verify (index + 1)) refl
  same_leads index words false = aborts phase w w words (Differing index) refl

  word_leads : (index : ℕ) (words : List ℕ) (r : Result Bool AbortCause) → Always AtGuard (word_to w words index r)
  word_leads index words (Ok same) = same_leads index words same
  word_leads index words (Err cause) = aborts phase w w words cause refl

  copy_leads : (index : ℕ) (words bytes : List ℕ) → Always AtGuard (copy_bytes w words index bytes)
  copy_leads index words [] = leads phase w _ words (at Verify (index + 1)) refl
  copy_leads index words (byte ∷ bytes) = λ b. leads phase w _ words (at Verify (index + 1)) refl

  wire_leads : (words : List ℕ) (same : Bool) → Always AtGuard (wire_to w words same)
  wire_leads words true = close_leads Verify w words Nothing (at Enter 0) refl
  wire_leads words false = aborts phase w w words _ refl

  after_words : (index : ℕ) (words : List ℕ) (b : Bool) →
      Always AtGuard (if b then copy_bytes w words index (reply_of w) else bound (wire_tree PlainMode w.sealed.answer w.first.code w.first.bytes.items w.wire.items) (wire_to w words))
  after_words index words true = copy_leads index words (reply_of w)
  after_words index words false = always_any AtGuard (wire_tree PlainMode w.sealed.answer w.first.code w.first.bytes.items w.wire.items) (wire_to w words) (λ same. wire_leads words same)

  verify_leads : (index : ℕ) (words : List ℕ) (b : Bool) →
      Always AtGuard (if b then bound (word_at words (slice_get w.second_log.items index)) (word_to w words index) else verify_copy index w words)
  verify_leads index words true = always_any AtGuard (word_at words (slice_get w.second_log.items index)) (word_to w words index) (λ r. word_leads index words r)
  verify_leads index words false = after_words index words (index == length w.second_log.items)

module _ (w : Workspace) where
  guard_asked : (words : List ℕ) (yes : Bool) → Always (AtGuard w Guard) (if yes then closes Guard w words Nothing (at Take 0) else ends w words Refuses)
  guard_asked words true = close_leads w Guard Guard w words Nothing (at Take 0) refl
  guard_asked words false = refuses_at_guard w w words Refuses refl

  guard_refuses : (g : Given) (words : List ℕ) (yes : Bool) → Always (AtGuard w Guard) (if yes then guard_call g w words else ends w words Refuses)
  guard_refuses g words true = λ yes. guard_asked words yes
  guard_refuses g words false = refuses_at_guard w w words Refuses refl

  act_refuses : (g : Given) (now : ℕ) (phase : Phase) (index : ℕ) (words : List ℕ) → Always (AtGuard w phase) (act_in g now phase index w words)
  act_refuses g now Guard index words = λ yes. guard_refuses g words yes
  act_refuses g now Take index words = take_leads w Take g words (index == 0)
  act_refuses g now First index words = pass_leads w First Making g now index words
  act_refuses g now Restore index words = restore_leads w Restore index words (nat_lt index (length w.first_log.items))
  act_refuses g now Second index words = pass_leads w Second Reading g now index words
  act_refuses g now Compare index words = compare_leads w Compare index words (nat_lt index (compared w))
  act_refuses g now Verify index words = verify_leads w Verify index words (nat_lt index (length w.second_log.items))
  act_refuses g now Enter index words = close_leads w Enter Enter w words WantEnter (at Give 0) refl
  act_refuses g now Give index words = close_leads w Give Give w words WantGive (at Send 0) refl
  act_refuses g now Send index words = close_leads w Send Send w words (send_want (reply_of w)) (at Done 0) refl
  act_refuses g now Done index words = close_leads w Done Done w words Nothing (at Done 1) refl

-- a whole step

module _ (phase : Phase) where
  -- a step that is refused was at Guard
  abbrev StepAtGuard : StepResult → Type 0
  StepAtGuard x = x.state ≡ Refused → phase ≡ Guard

  arrival_refuses : (p : Phase) (done : ℕ) (end all : Bool) → (if end then (if all then Finished else aborted p (Gate done)) else Went) ≡ Refused → phase ≡ Guard
  arrival_refuses p done true true r = absurd cc
  arrival_refuses p done true false r = absurd cc
  arrival_refuses p done false all r = absurd cc

  goes_refuses : (v : Workspace) (words : List ℕ) (to : Place) → Always StepAtGuard (goes v words to)
  goes_refuses v words to = λ p r. arrival_refuses v.place.phase v.gate.done (is_end p) (v.gate.done == 11) r

  ended_refuses : (v : Workspace) (words : List ℕ) (on : Place → Tree StepResult) (e : Ending) → (e ≡ Refuses → phase ≡ Guard) → ((to : Place) → Always StepAtGuard (on to)) → Always StepAtGuard (unless_ended on v words e)
  ended_refuses v words on (Leads to) h on_to = on_to to
  ended_refuses v words on Refuses h on_to = λ r. h refl
  ended_refuses v words on (Aborts cause) h on_to = λ r. let never : ⊥ = cc in absurd never

  once_refuses : (g : Given) (now : ℕ) (v : Workspace) (words : List ℕ) → v.place.phase ≡ phase → Always StepAtGuard (once g now v words)
  once_refuses g now v words same =
      always_bound (AtGuard v v.place.phase) StepAtGuard (act_tree g now v words) goes_on
      (λ y h. ended_refuses y.workspace y.words (goes y.workspace y.words) y.ending (λ r. sym same ∙ h.guard r) (λ to. goes_refuses y.workspace y.words to))
      (act_refuses v g now v.place.phase v.place.index words)

  twice_refuses : (g : Given) (now later : ℕ) (v : Workspace) (words : List ℕ) → v.place.phase ≡ phase → Always StepAtGuard (bound (act_tree g now v words) (twice g later))
  twice_refuses g now later v words same =
      always_bound (AtGuard v v.place.phase) StepAtGuard (act_tree g now v words) (twice g later)
      (λ y h. ended_refuses y.workspace y.words (λ to. once g later y.workspace y.words) y.ending (λ r. sym same ∙ h.guard r)
      (λ to. once_refuses g later y.workspace y.words (ap (λ (p : Place). p.phase) h.place ∙ same)))
      (act_refuses v g now v.place.phase v.place.index words)

  times_refuse : (g : Given) (now later : ℕ) (v : Workspace) (words : List ℕ) (act : Act) (times : Times) → v.place.phase ≡ phase → Always StepAtGuard (step_as g now later v words act times)
  times_refuse g now later v words act Once same = once_refuses g now v words same
  times_refuse g now later v words act Skip same = goes_refuses v words (skipped v act)
  times_refuse g now later v words act Twice same = twice_refuses g now later v words same

  step_refuses : (g : Given) (now later : ℕ) (v : Workspace) (words : List ℕ) (o : Option Act) → v.place.phase ≡ phase → Always StepAtGuard (step_at o g now later v words)
  step_refuses g now later v words None same = λ r. let never : ⊥ = cc in absurd never
  step_refuses g now later v words (Some act) same = λ times. times_refuse g now later v words act times same

-- whatever is answered, a step that is refused was at Guard
pub refused_at_guard : {S : Type 0} (gives : S → (q : Question) → Answer q → S → Type 0) (told : Option ℕ) (g : Given) (w v : Workspace) (words left : List ℕ) (state : State) (s t : S) →
    TimedTwice gives told (λ now later. traversal_step g now later w words) s t (step_result v left state) → state ≡ Refused → w.place.phase ≡ Guard
refused_at_guard gives told g w v words left state s t turned =
    let from : Workspace = record w { want = Nothing } in
    always gives (StepAtGuard w.place.phase) (traversal_step g turned.now turned.later w words) s t (step_result v left state)
    (step_refuses w.place.phase g turned.now turned.later from words (site_of g.behavior from) refl) turned.runs
