-- Whatever a core answers, the time that is noted is the clock's.
use Rattle.std.proofs.Common.{◌≡◌, inl, inr, ℕ, ◌+◌, ◌-◌, Bool, true, false, List, [], ◌∷◌, length, Option, Some, None, refl, ap, sym, subst, ◌∙◌}
use Rattle.std.specs.Prelude.{slice_get, if◌then◌else◌, ◌==◌, nat_lt}
use Rattle.std.specs.declared.result.Result.{Result}
use Rattle.std.specs.declared.result.Result.TheVariants.{Ok, Err}
use Rattle.sei_code.specs.declared.modes.Mode.TheVariants.{Plain as PlainMode}
use Rattle.sei_code.specs.declared.coded.Coded.{Coded}
use Rattle.sei_fault.specs.declared.cause.AbortCause.{AbortCause}
use Rattle.sei_fault.specs.declared.cause.AbortCause.TheVariants.{Range as OutOfRange, Differs as Differing}
use Rattle.sei_fault.specs.declared.place.Act.{Act}
use Rattle.sei_fault.specs.declared.place.Phase.{Phase}
use Rattle.sei_fault.specs.declared.place.Phase.TheVariants.{Guard, Take, First, Restore, Second, Compare, Verify, Enter, Give, Send, Done}
use Rattle.sei_fault.specs.declared.place.Place.{Place}
use Rattle.sei_fault.specs.declared.place.Times.{Times}
use Rattle.sei_fault.specs.declared.place.Times.TheVariants.{Once, Skip, Twice}
use Rattle.sei_fault.specs.Question.{Question, Answer}
use Rattle.sei_fault.specs.Tree.{Tree, bound, Always}
use Rattle.sei_fault.proofs.Public.{always, always_map}
use Rattle.sei_gate.specs.Closing.{risen}
use Rattle.sei_stmt.specs.declared.stmt.Stmt.{Stmt}
use Rattle.sei_stmt.specs.declared.stmt.Stmt.TheVariants.{Now}
use Rattle.sei_stmt.specs.Machine.{Machine, Setting, Outcome, After, one_made}
use Rattle.sei_stmt.specs.Machine.Outcome.{Next, Halted, Bad}
use Rattle.sei_stmt.specs.Statements.{now_by, statement_tree, step_tree}
use Rattle.sei_stmt.proofs.PublicStatementEnds.{IsNow, now_or_not, by_statement}
use Rattle.sei_pass.specs.declared.given.Which.{Which}
use Rattle.sei_pass.specs.declared.given.Which.TheVariants.{Making, Reading}
use Rattle.sei_pass.specs.Steps.{IsAnswer}
use Rattle.sei_restore.specs.Undoing.{undo_at}
use Rattle.sei_compare.specs.Comparing.{entry_tree, codes_tree, word_at, wire_tree}
use Rattle.sei_traverse.specs.declared.turned.State.{State}
use Rattle.sei_traverse.specs.declared.turned.Want.{Want}
use Rattle.sei_traverse.specs.declared.turned.Want.TheVariants.{Nothing, Take as WantTake, Enter as WantEnter, Give as WantGive}
use Rattle.sei_traverse.specs.declared.workspace.Ending.{Ending}
use Rattle.sei_traverse.specs.declared.workspace.Ending.TheVariants.{Leads, Refuses, Aborts}
use Rattle.sei_traverse.specs.declared.workspace.Workspace.{Workspace}
use Rattle.sei_traverse.specs.Acts.{Acted, ends, at, closed_to, closing_then, closes, next_phase}
use Rattle.sei_traverse.specs.Noting.{NotesTime}
use Rattle.sei_traverse.specs.Noting.NotesTime.{Same, Noted}
use Rattle.sei_traverse.specs.PassActs.{pass_phase, machine_in, with_machine, pass_from, pass_to, pass_tree}
use Rattle.sei_traverse.specs.Phases.{guard_call, store_wanted, take_wanted, undone_as, undone_to, compared, entries_to, outputs_to, word_to, reply_of, copy_bytes, wire_to, verify_copy, send_want}
use Rattle.sei_traverse.specs.Given.{Given, setting_in}
use Rattle.sei_traverse.specs.Step.{StepResult, step_result, act_in, act_tree, site_of, goes, goes_on, once, unless_ended, twice, step_as, step_at, traversal_step, TimedTwice}
use Rattle.sei_traverse.proofs.StepsBound.{always_bound, always_any}
use Rattle.sei_traverse.proofs.NoteLaws.{Leaves, leaves}

module _ (told : Option ℕ) where
  -- an end that notes nothing, or the clock's answer
  abbrev NotesOf : Machine → After → Type 0
  NotesOf m x = NotesTime told m.notes.now x.machine.notes.now

  notes_nothing : (g : Setting) (i : ℕ) (m : Machine) (s : Stmt) → (IsNow s → g.reading ≡ false → ⊥) → Always (NotesOf m) (statement_tree g i m s)
  notes_nothing g i m s other = always_map (λ (x : After). Leaves m x.machine) (NotesOf m) (statement_tree g i m s) (λ x e. Same e) (leaves g i m s other)

  -- the first pass notes the clock's answer, and the second notes nothing
  notes_now : (g : Setting) (i : ℕ) (m : Machine) (to : ℕ) (reading : Bool) → g.reading ≡ reading → IsAnswer told g.now → Always (NotesOf m) (now_by reading g i m to)
  notes_now g i m to true e answer =
      subst (λ (b : Bool). Always (NotesOf m) (now_by b g i m to)) e (notes_nothing g i m (Now to) (λ is r. let z : true ≡ false = sym e ∙ r in absurd cc))
  notes_now g i m to false e answer = λ v w. Noted g.now answer refl

  -- each statement
  notes : (g : Setting) (i : ℕ) (m : Machine) (s : Stmt) → IsAnswer told g.now → Always (NotesOf m) (statement_tree g i m s)
  notes g i m s answer = elim (now_or_not s) [
    | inl (to, is) ↦ subst (λ (x : Stmt). Always (NotesOf m) (statement_tree g i m x)) (sym is) (notes_now g i m to g.reading refl answer)
    | inr other ↦ notes_nothing g i m s (λ is r. other is)
  ]

  -- and each step of a pass
  pub notes_step : (g : Setting) (i : ℕ) (m : Machine) → IsAnswer told g.now → Always (λ (x : After). NotesTime told m.notes.now x.machine.notes.now) (step_tree g i m)
  notes_step g i m answer = by_statement g i m (Always (NotesOf m)) (λ cause. Same refl) (λ s e b. notes g i (one_made m) s answer)

  -- what is noted in two pieces of work, one behind the other
  pub behind : (a b c : Option Coded) → NotesTime told a b → NotesTime told b c → NotesTime told a c
  behind a b c h (Noted time answer e) = Noted time answer e
  behind a b c (Same e) (Same f) = Same (f ∙ e)
  behind a b c (Noted time answer e) (Same f) = Noted time answer (f ∙ e)

  -- acts

  module _ (w : Workspace) where
    -- an act that ends with such a workspace
    abbrev Notes : Acted → Type 0
    Notes y = NotesTime told w.notes.now y.workspace.notes.now

    -- one that closes a phase leaves the notes
    notes_closes : (p : Phase) (v : Workspace) (words : List ℕ) (want : Want) (to : Place) → NotesTime told w.notes.now v.notes.now → Always Notes (closes p v words want to)
    notes_closes p v words want to h = λ yes. by_answer yes
      where
        by_answer : (yes : Bool) → Always Notes (closed_to v words (λ u. ends (record u { want = want }) words (Leads to)) (yes, if yes then risen v.gate.done else v.gate.done))
        by_answer true = h
        by_answer false = h

    guard_asked : (words : List ℕ) (yes : Bool) → Always Notes (if yes then closes Guard w words Nothing (at Take 0) else ends w words Refuses)
    guard_asked words true = notes_closes Guard w words Nothing (at Take 0) (Same refl)
    guard_asked words false = Same refl

    notes_guard : (g : Given) (words : List ℕ) (yes : Bool) → Always Notes (if yes then guard_call g w words else ends w words Refuses)
    notes_guard g words true = λ yes. guard_asked words yes
    notes_guard g words false = Same refl

    take_room : (v : Workspace) (words : List ℕ) (there : Bool) → v.notes ≡ w.notes →
        Always Notes (if there then ends (record v { want = WantTake v.wanted }) words (Leads (at First 0)) else ends v words (Aborts (OutOfRange v.wanted)))
    take_room v words true e = Same (ap (λ n. n.now) e)
    take_room v words false e = Same (ap (λ n. n.now) e)

    take_closed : (g : Given) (words : List ℕ) (yes : Bool) → Always Notes (closed_to w words (take_wanted g.space.geometry words) (yes, if yes then risen w.gate.done else w.gate.done))
    take_closed g words true = take_room (record w { gate = record { done = risen w.gate.done } }) words (nat_lt w.wanted g.space.geometry.buckets) refl
    take_closed g words false = Same refl

    notes_take : (g : Given) (words : List ℕ) (b : Bool) → Always Notes (if b then store_wanted g w words else closing_then Take w words (take_wanted g.space.geometry words))
    notes_take g words true = λ b wanted. Same refl
    notes_take g words false = λ yes. take_closed g words yes

    pass_onward : (which : Which) (v : Workspace) (words : List ℕ) (o : Outcome) → NotesTime told w.notes.now v.notes.now → Always Notes (pass_from which v words o)
    pass_onward which v words (Next i) h = h
    pass_onward which v words Halted h = notes_closes (pass_phase which) v words Nothing (at (next_phase (pass_phase which)) 0) h
    pass_onward which v words (Bad cause) h = h

    notes_with : (which : Which) (m : Machine) → NotesTime told w.notes.now m.notes.now → NotesTime told w.notes.now (with_machine which w m).notes.now
    notes_with Making m h = h
    notes_with Reading m h = h

    notes_pass : (which : Which) (g : Given) (now index : ℕ) (words : List ℕ) → IsAnswer told now → Always Notes (pass_tree which g now index w words)
    notes_pass which g now index words answer =
        let s : Setting = setting_in g which w.sealed now in
        always_bound (λ (x : After). NotesTime told w.notes.now x.machine.notes.now) Notes (step_tree s index (machine_in which w words)) (pass_to which w)
        (λ x h. pass_onward which (with_machine which w x.machine) x.machine.words x.outcome (notes_with which x.machine h))
        (notes_step s index (machine_in which w words) answer)

    notes_undone : (words : List ℕ) (index : ℕ) (cause : Option AbortCause) → Always Notes (undone_as w words index cause)
    notes_undone words index None = Same refl
    notes_undone words index (Some cause) = Same refl

    notes_restore : (index : ℕ) (words : List ℕ) (b : Bool) →
        Always Notes (if b then bound (undo_at words (slice_get w.first_log.items (length w.first_log.items - 1 - index))) (undone_to w index) else closes Restore w words Nothing (at Second 0))
    notes_restore index words true =
        always_any Notes (undo_at words (slice_get w.first_log.items (length w.first_log.items - 1 - index))) (undone_to w index) (λ u. notes_undone u.words index u.cause)
    notes_restore index words false = notes_closes Restore w words Nothing (at Second 0) (Same refl)

    notes_entries : (index : ℕ) (words : List ℕ) (same : Bool) → Always Notes (entries_to w words index same)
    notes_entries index words true = Same refl
    notes_entries index words false = Same refl

    notes_outputs : (words : List ℕ) (same : Bool) → Always Notes (outputs_to w words same)
    notes_outputs words true = notes_closes Compare w words Nothing (at Verify 0) (Same refl)
    notes_outputs words false = Same refl

    notes_compare : (index : ℕ) (words : List ℕ) (b : Bool) →
        Always Notes (if b then bound (entry_tree w.first_log.items w.second_log.items index) (entries_to w words index)
        else bound (codes_tree w.first.code w.first.bytes.items w.second.code w.second.bytes.items) (outputs_to w words))
    notes_compare index words true = always_any Notes (entry_tree w.first_log.items w.second_log.items index) (entries_to w words index) (λ same. notes_entries index words same)
    notes_compare index words false = always_any Notes (codes_tree w.first.code w.first.bytes.items w.second.code w.second.bytes.items) (outputs_to w words) (λ same. notes_outputs words same)

    word_same : (index : ℕ) (words : List ℕ) (same : Bool) → Always Notes (if same then ends w words (Leads (at Verify (index + 1))) else ends w words (Aborts (Differing index)))
    word_same index words true = Same refl
    word_same index words false = Same refl

    notes_word : (index : ℕ) (words : List ℕ) (r : Result Bool AbortCause) → Always Notes (word_to w words index r)
    notes_word index words (Ok same) = word_same index words same
    notes_word index words (Err cause) = Same refl

    notes_copy : (index : ℕ) (words bytes : List ℕ) → Always Notes (copy_bytes w words index bytes)
    notes_copy index words [] = Same refl
    notes_copy index words (byte ∷ bytes) = λ b. Same refl

    notes_wire : (words : List ℕ) (same : Bool) → Always Notes (wire_to w words same)
    notes_wire words true = notes_closes Verify w words Nothing (at Enter 0) (Same refl)
    notes_wire words false = Same refl

    behind_words : (index : ℕ) (words : List ℕ) (b : Bool) →
        Always Notes (if b then copy_bytes w words index (reply_of w) else bound (wire_tree PlainMode w.sealed.answer w.first.code w.first.bytes.items w.wire.items) (wire_to w words))
    behind_words index words true = notes_copy index words (reply_of w)
    behind_words index words false = always_any Notes (wire_tree PlainMode w.sealed.answer w.first.code w.first.bytes.items w.wire.items) (wire_to w words) (λ same. notes_wire words same)

    notes_verify : (index : ℕ) (words : List ℕ) (b : Bool) →
        Always Notes (if b then bound (word_at words (slice_get w.second_log.items index)) (word_to w words index) else verify_copy index w words)
    notes_verify index words true = always_any Notes (word_at words (slice_get w.second_log.items index)) (word_to w words index) (λ r. notes_word index words r)
    notes_verify index words false = behind_words index words (index == length w.second_log.items)

    -- each act
    notes_act : (g : Given) (now : ℕ) (phase : Phase) (index : ℕ) (words : List ℕ) → IsAnswer told now → Always Notes (act_in g now phase index w words)
    notes_act g now Guard index words answer = λ yes. notes_guard g words yes
    notes_act g now Take index words answer = notes_take g words (index == 0)
    notes_act g now First index words answer = notes_pass Making g now index words answer
    notes_act g now Restore index words answer = notes_restore index words (nat_lt index (length w.first_log.items))
    notes_act g now Second index words answer = notes_pass Reading g now index words answer
    notes_act g now Compare index words answer = notes_compare index words (nat_lt index (compared w))
    notes_act g now Verify index words answer = notes_verify index words (nat_lt index (length w.second_log.items))
    notes_act g now Enter index words answer = notes_closes Enter w words WantEnter (at Give 0) (Same refl)
    notes_act g now Give index words answer = notes_closes Give w words WantGive (at Send 0) (Same refl)
    notes_act g now Send index words answer = notes_closes Send w words (send_want (reply_of w)) (at Done 0) (Same refl)
    notes_act g now Done index words answer = notes_closes Done w words Nothing (at Done 1) (Same refl)

  -- a whole step

  -- the workspace behind a step notes as that before it
  abbrev NotesOn : Workspace → StepResult → Type 0
  NotesOn w x = NotesTime told w.notes.now x.workspace.notes.now

  ended_notes : (w v : Workspace) (words : List ℕ) (on : Place → Tree StepResult) (e : Ending) → NotesTime told w.notes.now v.notes.now → ((to : Place) → Always (NotesOn w) (on to)) → Always (NotesOn w) (unless_ended on v words e)
  ended_notes w v words on (Leads to) h on_to = on_to to
  ended_notes w v words on Refuses h on_to = h
  ended_notes w v words on (Aborts cause) h on_to = h

  -- an act that is made once, behind what was noted before
  once_notes : (g : Given) (now : ℕ) (w v : Workspace) (words : List ℕ) → IsAnswer told now → NotesTime told w.notes.now v.notes.now → Always (NotesOn w) (once g now v words)
  once_notes g now w v words answer before =
      always_bound (Notes v) (NotesOn w) (act_tree g now v words) goes_on
      (λ y h. let more : NotesTime told w.notes.now y.workspace.notes.now = behind w.notes.now v.notes.now y.workspace.notes.now before h in ended_notes w y.workspace y.words (goes y.workspace y.words) y.ending more (λ to p. more))
      (notes_act v g now v.place.phase v.place.index words answer)

  twice_notes : (g : Given) (now later : ℕ) (w : Workspace) (words : List ℕ) → IsAnswer told now → IsAnswer told later → Always (NotesOn w) (bound (act_tree g now w words) (twice g later))
  twice_notes g now later w words answer again =
      always_bound (Notes w) (NotesOn w) (act_tree g now w words) (twice g later)
      (λ y h. ended_notes w y.workspace y.words (λ to. once g later y.workspace y.words) y.ending h (λ to. once_notes g later w y.workspace y.words again h))
      (notes_act w g now w.place.phase w.place.index words answer)

  times_notes : (g : Given) (now later : ℕ) (w : Workspace) (words : List ℕ) (act : Act) (times : Times) → IsAnswer told now → IsAnswer told later → Always (NotesOn w) (step_as g now later w words act times)
  times_notes g now later w words act Once answer again = once_notes g now w w words answer (Same refl)
  times_notes g now later w words act Skip answer again = λ p. Same refl
  times_notes g now later w words act Twice answer again = twice_notes g now later w words answer again

  step_notes : (g : Given) (now later : ℕ) (w : Workspace) (words : List ℕ) (o : Option Act) → IsAnswer told now → IsAnswer told later → Always (NotesOn w) (step_at o g now later w words)
  step_notes g now later w words None answer again = Same refl
  step_notes g now later w words (Some act) answer again = λ times. times_notes g now later w words act times answer again

  -- whatever is answered, a step notes no other time than the clock's
  pub notes_time : {S : Type 0} (gives : S → (q : Question) → Answer q → S → Type 0) (g : Given) (w v : Workspace) (words left : List ℕ) (state : State) (s t : S) →
      TimedTwice gives told (λ now later. traversal_step g now later w words) s t (step_result v left state) → NotesTime told w.notes.now v.notes.now
  notes_time gives g w v words left state s t turned =
      let from : Workspace = record w { want = Nothing } in
      always gives (NotesOn w) (traversal_step g turned.now turned.later w words) s t (step_result v left state)
      (step_notes g turned.now turned.later from words (site_of g.behavior from) turned.answer turned.answer_later) turned.runs
