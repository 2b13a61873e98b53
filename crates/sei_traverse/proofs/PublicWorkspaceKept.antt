-- Whatever a core answers, a step keeps what was sealed, the layout of the workspace, and the number of the words.
use Rattle.std.proofs.Common.{◌≡◌, ℕ, ◌+◌, ◌-◌, ◌%◌, ◌^◌, ◌≤◌, Bool, true, false, List, [], ◌∷◌, length, Option, Some, None, refl, sym, ap, ◌∙◌, subst, arith}
use Rattle.std.specs.Prelude.{slice_get, if◌then◌else◌, ◌==◌, nat_lt}
use Rattle.std.specs.declared.result.Result.{Result}
use Rattle.std.specs.declared.result.Result.TheVariants.{Ok, Err}
use Rattle.std.proofs.lemmas.Bool.{ltb-true}
use Rattle.std.proofs.lemmas.List.{length-set}
use Rattle.sei_code.specs.declared.modes.Mode.TheVariants.{Plain as PlainMode}
use Rattle.sei_pass.specs.declared.spaces.PassSpace.{PassSpace}
use Rattle.sei_code.specs.Kept.{Kept}
use Rattle.sei_fault.specs.declared.cause.AbortCause.{AbortCause}
use Rattle.sei_fault.specs.declared.cause.AbortCause.TheVariants.{Range as OutOfRange, Differs as Differing}
use Rattle.sei_fault.specs.declared.place.Act.{Act}
use Rattle.sei_fault.specs.declared.place.Phase.{Phase}
use Rattle.sei_fault.specs.declared.place.Phase.TheVariants.{Guard, Take, First, Restore, Second, Compare, Verify, Enter, Give, Send, Done as Last}
use Rattle.sei_fault.specs.declared.place.Place.{Place}
use Rattle.sei_fault.specs.declared.place.Times.{Times}
use Rattle.sei_fault.specs.declared.place.Times.TheVariants.{Once, Skip, Twice}
use Rattle.sei_fault.specs.Tree.{Tree, bound, Always}
use Rattle.sei_fault.specs.Tree.Tree.{Done as Ended, Ask}
use Rattle.sei_gate.specs.Closing.{risen}
use Rattle.sei_log.specs.declared.log.Change.{Change}
use Rattle.sei_stmt.specs.Handling.{Parsed, parsed_words, refilled}
use Rattle.sei_stmt.specs.Machine.{Machine, Setting, Outcome, After, one_made}
use Rattle.sei_stmt.specs.Machine.Outcome.{Next, Halted, Bad}
use Rattle.sei_stmt.specs.Statements.{statement_tree, step_tree}
use Rattle.sei_stmt.proofs.PublicStatementEnds.{by_statement}
use Rattle.sei_pass.specs.declared.given.Which.{Which}
use Rattle.sei_pass.specs.declared.given.Which.TheVariants.{Making, Reading}
use Rattle.sei_pass.specs.Setting.{sealed_call}
use Rattle.sei_pass.specs.State.{PassState, IsPass}
use Rattle.sei_pass.proofs.Public.{Keeps, keeps}
use Rattle.sei_restore.specs.Undoing.{Undone, undo_word, undo_at}
use Rattle.sei_compare.specs.Comparing.{entry_tree, codes_tree, word_at, wire_tree}
use Rattle.sei_traverse.specs.declared.turned.Want.{Want}
use Rattle.sei_traverse.specs.declared.turned.Want.TheVariants.{Nothing, Take as WantTake, Enter as WantEnter, Give as WantGive}
use Rattle.sei_traverse.specs.declared.workspace.Ending.{Ending}
use Rattle.sei_traverse.specs.declared.workspace.Ending.TheVariants.{Leads, Refuses, Aborts}
use Rattle.sei_traverse.specs.declared.workspace.Workspace.{Workspace}
use Rattle.sei_traverse.specs.Acts.{Acted, ends, at, closed_to, closing_then, closes, next_phase}
use Rattle.sei_traverse.specs.PassActs.{pass_of, pass_phase, machine_in, with_machine, pass_from, pass_to, pass_tree}
use Rattle.sei_traverse.specs.Phases.{guard_call, store_wanted, take_wanted, undone_as, undone_to, compared, entries_to, outputs_to, word_to, reply_of, copy_bytes, wire_to, verify_copy, send_want}
use Rattle.sei_traverse.specs.Given.{Given, setting_in}
use Rattle.sei_traverse.specs.Step.{StepResult, act_in, act_tree, site_of, skipped, goes, goes_on, once, unless_ended, twice, step_as, step_at, traversal_step}
pub use Rattle.sei_traverse.specs.Workspaces.{KeepsWorkspace}
use Rattle.sei_traverse.specs.Workspaces.{IsWorkspace, FitsIn}
use Rattle.sei_traverse.proofs.StepsBound.{always_bound, always_any}
use Rattle.sei_traverse.proofs.WordsLast.{Lasts, lasts}

-- both hold of each end, and more follows
always_both : {A : Type 0} (P Q R : A → Type 0) (t : Tree A) → ((x : A) → P x → Q x → R x) → Always P t → Always Q t → Always R t
always_both P Q R (Ended r) h p q = h r p q
always_both P Q R (Ask q k) h p o = λ a. always_both P Q R (k a) h (p a) (o a)

-- a statement

record Ran (given : List ℕ) (budget : ℕ) (m : Machine) (x : After) : Type 0 where
  registers : length x.machine.registers ≡ length m.registers
  input : x.machine.input.room ≡ m.input.room
  output : x.machine.output.room ≡ m.output.room
  bytes : x.machine.bytes.room ≡ m.bytes.room
  log : x.machine.log.room ≡ m.log.room
  made : m.made ≤ budget → x.machine.made ≤ budget
  fits : length m.output.items ≤ m.output.room → length x.machine.output.items ≤ x.machine.output.room
  log_fits : length m.log.items ≤ m.log.room → length x.machine.log.items ≤ x.machine.log.room
  bytes_fit : length m.bytes.items ≤ m.bytes.room → length x.machine.bytes.items ≤ x.machine.bytes.room
  input_fits : length given ≤ m.input.room → length m.input.items ≤ m.input.room → length x.machine.input.items ≤ x.machine.input.room
  words : length x.machine.words ≡ length m.words

stays_so : (given : List ℕ) (budget : ℕ) (m : Machine) (o : Outcome) → Ran given budget m (record { machine = m; outcome = o })
stays_so given budget m o = record { registers = refl; input = refl; output = refl; bytes = refl; log = refl; made = λ h. h; fits = λ h. h; log_fits = λ h. h; bytes_fit = λ h. h; input_fits = λ few h. h; words = refl }

ran_step : (s : Setting) (i : ℕ) (m : Machine) → Always (Ran (parsed_words s.parsed) s.budget m) (step_tree s i m)
ran_step s i m = by_statement s i m (Always (Ran (parsed_words s.parsed) s.budget m)) (λ cause. stays_so (parsed_words s.parsed) s.budget m (Bad cause)) (λ st is enough.
    let from : Machine = one_made m in
    always_both (λ (x : After). Keeps (parsed_words s.parsed) from x.machine) (λ (x : After). Lasts from x.machine) (Ran (parsed_words s.parsed) s.budget m) (statement_tree s i from st)
    (λ x k l. record {
      registers = k.registers;
      input = k.input;
      output = k.output;
      bytes = k.bytes;
      log = k.log;
      made = λ h. omega (arith, k.made, ltb-true m.made s.budget enough);
      fits = k.fits;
      log_fits = k.log_fits;
      bytes_fit = k.bytes_fit;
      input_fits = k.input_fits;
      words = l;
    })
    (keeps s i from st) (lasts s i from st))

module _ (k : PassSpace) (parsed : ℕ → Option Parsed) where
  behind : (w v u : Workspace) (words left last : List ℕ) → KeepsWorkspace k parsed w words v left → KeepsWorkspace k parsed v left u last → KeepsWorkspace k parsed w words u last
  behind w v u words left last a b = record {
    sealed = b.sealed ∙ a.sealed;
    space = b.space ∙ a.space;
    workspace = λ is here few. b.workspace (a.workspace is here few) (a.space ∙ here) (subst (FitsIn k parsed) (sym a.sealed) few);
    long = b.long ∙ a.long;
  }

  -- the passes, the logs and the copy are the same
  like : (w v : Workspace) (words left : List ℕ) → v.sealed ≡ w.sealed → v.first ≡ w.first → v.second ≡ w.second → v.first_log ≡ w.first_log → v.second_log ≡ w.second_log → v.wire ≡ w.wire →
      length left ≡ length words → KeepsWorkspace k parsed w words v left
  like w v words left sealed first second first_log second_log wire long = record {
    sealed = sealed;
    space = ap (λ (p : PassState). p.space) first;
    workspace = λ is here few. record {
      first = subst IsPass (sym first) is.first;
      second = subst IsPass (sym second) is.second;
      same = ap (λ (p : PassState). p.space) second ∙ is.same ∙ sym (ap (λ (p : PassState). p.space) first);
      first_log = subst (λ (p : PassState). length v.first_log.items ≤ p.space.log) (sym first) (subst (λ (l : Kept Change). length l.items ≤ w.first.space.log) (sym first_log) is.first_log);
      second_log = subst (λ (p : PassState). length v.second_log.items ≤ p.space.log) (sym first) (subst (λ (l : Kept Change). length l.items ≤ w.first.space.log) (sym second_log) is.second_log);
      first_room = ap (λ (l : Kept Change). l.room) first_log ∙ is.first_room ∙ sym (ap (λ (p : PassState). p.space.log) first);
      second_room = ap (λ (l : Kept Change). l.room) second_log ∙ is.second_room ∙ sym (ap (λ (p : PassState). p.space.log) first);
      wire_room = ap (λ (l : Kept ℕ). l.room) wire ∙ is.wire_room ∙ sym (ap (λ (p : PassState). p.space.bytes) first);
      wire_fits = subst (λ (l : Kept ℕ). length l.items ≤ l.room) (sym wire) is.wire_fits;
    };
    long = long;
  }

  -- the copy is made anew, of no more bytes than the reply has
  copied : (w : Workspace) (words left bytes : List ℕ) → length bytes ≤ length (reply_of w) → length left ≡ length words → KeepsWorkspace k parsed w words (record w { wire = refilled w.wire bytes }) left
  copied w words left bytes most long = record {
    sealed = refl;
    space = refl;
    workspace = λ is here few. record {
      first = is.first;
      second = is.second;
      same = is.same;
      first_log = is.first_log;
      second_log = is.second_log;
      first_room = is.first_room;
      second_room = is.second_room;
      wire_room = is.wire_room;
      wire_fits = omega (arith, most, is.second.bytes_fit, is.second.bytes, ap (λ (s : PassSpace). s.bytes) is.same, is.wire_room);
    };
    long = long;
  }

  -- behind a step of a pass
  pass_kept : (p : PassState) (m : Machine) (given : List ℕ) (budget : ℕ) (x : After) → length given ≤ p.space.input → budget ≡ p.space.budget → Ran given budget m x → m.registers ≡ p.registers → m.input ≡ p.input → m.output ≡ p.output → m.bytes ≡ p.bytes → m.made ≡ p.made →
      IsPass p → IsPass (pass_of p x.machine)
  pass_kept p m given budget x few is r registers input output bytes made h = record {
    valid = h.valid;
    space = h.space;
    registers = r.registers ∙ ap length registers ∙ h.registers;
    input = r.input ∙ ap (λ (l : Kept ℕ). l.room) input ∙ h.input;
    output = r.output ∙ ap (λ (l : Kept ℕ). l.room) output ∙ h.output;
    bytes = r.bytes ∙ ap (λ (l : Kept ℕ). l.room) bytes ∙ h.bytes;
    made = let before : m.made ≤ budget = omega (arith, h.made, is, made) in omega (arith, r.made before, is);
    fits = r.fits (subst (λ (l : Kept ℕ). length l.items ≤ l.room) (sym output) h.fits);
    bytes_fit = r.bytes_fit (subst (λ (l : Kept ℕ). length l.items ≤ l.room) (sym bytes) h.bytes_fit);
    input_fits = r.input_fits (subst (λ (l : Kept ℕ). length given ≤ l.room) (sym input) (omega (arith, few, h.input))) (subst (λ (l : Kept ℕ). length l.items ≤ l.room) (sym input) h.input_fits);
  }

  pass_is_kept : (which : Which) (w : Workspace) (words : List ℕ) (x : After) → Ran (parsed_words (sealed_call parsed w.sealed.nth)) k.budget (machine_in which w words) x → KeepsWorkspace k parsed w words (with_machine which w x.machine) x.machine.words
  pass_is_kept Making w words x r = record {
    sealed = refl;
    space = refl;
    workspace = λ is here few. record {
      first = pass_kept w.first (machine_in Making w words) (parsed_words (sealed_call parsed w.sealed.nth)) k.budget x
          (subst (λ (q : PassSpace). length (parsed_words (sealed_call parsed w.sealed.nth)) ≤ q.input) (sym here) few) (ap (λ (s : PassSpace). s.budget) (sym here)) r refl refl refl refl refl is.first;
      second = is.second;
      same = is.same;
      first_log = let fits : length x.machine.log.items ≤ x.machine.log.room = r.log_fits (omega (arith, is.first_log, is.first_room)) in omega (arith, fits, r.log, is.first_room);
      second_log = is.second_log;
      first_room = r.log ∙ is.first_room;
      second_room = is.second_room;
      wire_room = is.wire_room;
      wire_fits = is.wire_fits;
    };
    long = r.words;
  }
  pass_is_kept Reading w words x r = record {
    sealed = refl;
    space = refl;
    workspace = λ is here few. record {
      first = is.first;
      second = pass_kept w.second (machine_in Reading w words) (parsed_words (sealed_call parsed w.sealed.nth)) k.budget x
          (subst (λ (q : PassSpace). length (parsed_words (sealed_call parsed w.sealed.nth)) ≤ q.input) (sym (is.same ∙ here)) few) (ap (λ (s : PassSpace). s.budget) (sym (is.same ∙ here))) r refl refl refl refl refl is.second;
      same = is.same;
      first_log = is.first_log;
      second_log = let fits : length x.machine.log.items ≤ x.machine.log.room = r.log_fits (omega (arith, is.second_log, is.second_room)) in omega (arith, fits, r.log, is.second_room);
      first_room = is.first_room;
      second_room = r.log ∙ is.second_room;
      wire_room = is.wire_room;
      wire_fits = is.wire_fits;
    };
    long = r.words;
  }

  module _ (w : Workspace) (before : List ℕ) where
    abbrev KeptBy : Acted → Type 0
    KeptBy y = KeepsWorkspace k parsed w before y.workspace y.words

    -- a workspace of which only the place, the gate, the wanted bucket and the want changed
    so : (v : Workspace) (words : List ℕ) → v.sealed ≡ w.sealed → v.first ≡ w.first → v.second ≡ w.second → v.first_log ≡ w.first_log → v.second_log ≡ w.second_log → v.wire ≡ w.wire → length words ≡ length before → KeepsWorkspace k parsed w before v words
    so v words a b c d e f g = like w v before words a b c d e f g

    -- one that closes a phase, on a workspace that was kept
    kept_closes : (p : Phase) (v : Workspace) (words : List ℕ) (want : Want) (to : Place) → KeepsWorkspace k parsed w before v words → Always KeptBy (closes p v words want to)
    kept_closes p v words want to h = λ yes. by_answer yes
      where
        by_answer : (yes : Bool) → Always KeptBy (closed_to v words (λ u. ends (record u { want = want }) words (Leads to)) (yes, if yes then risen v.gate.done else v.gate.done))
        by_answer true = behind w v _ before words words h (like v _ words words refl refl refl refl refl refl refl)
        by_answer false = behind w v _ before words words h (like v _ words words refl refl refl refl refl refl refl)

    same : (words : List ℕ) → length words ≡ length before → KeepsWorkspace k parsed w before w words
    same words long = so w words refl refl refl refl refl refl long

    guard_asked : (words : List ℕ) → length words ≡ length before → (yes : Bool) → Always KeptBy (if yes then closes Guard w words Nothing (at Take 0) else ends w words Refuses)
    guard_asked words long true = kept_closes Guard w words Nothing (at Take 0) (same words long)
    guard_asked words long false = same words long

    kept_guard : (g : Given) (words : List ℕ) → length words ≡ length before → (yes : Bool) → Always KeptBy (if yes then guard_call g w words else ends w words Refuses)
    kept_guard g words long true = λ yes. guard_asked words long yes
    kept_guard g words long false = same words long

    take_room : (v : Workspace) (words : List ℕ) (there : Bool) → KeepsWorkspace k parsed w before v words →
        Always KeptBy (if there then ends (record v { want = WantTake v.wanted }) words (Leads (at First 0)) else ends v words (Aborts (OutOfRange v.wanted)))
    take_room v words true h = behind w v _ before words words h (like v _ words words refl refl refl refl refl refl refl)
    take_room v words false h = h

    take_closed : (g : Given) (words : List ℕ) → length words ≡ length before → (yes : Bool) → Always KeptBy (closed_to w words (take_wanted g.space.geometry words) (yes, if yes then risen w.gate.done else w.gate.done))
    take_closed g words long true =
        let v : Workspace = record w { gate = record { done = risen w.gate.done } } in
        take_room v words (nat_lt w.wanted g.space.geometry.buckets) (so v words refl refl refl refl refl refl long)
    take_closed g words long false = so (record w { gate = record { done = w.gate.done } }) words refl refl refl refl refl refl long

    kept_take : (g : Given) (words : List ℕ) → length words ≡ length before → (b : Bool) → Always KeptBy (if b then store_wanted g w words else closing_then Take w words (take_wanted g.space.geometry words))
    kept_take g words long true = λ b wanted. so (record w { wanted = wanted }) words refl refl refl refl refl refl long
    kept_take g words long false = λ yes. take_closed g words long yes

    pass_onward : (which : Which) (v : Workspace) (words : List ℕ) (o : Outcome) → KeepsWorkspace k parsed w before v words → Always KeptBy (pass_from which v words o)
    pass_onward which v words (Next i) h = h
    pass_onward which v words Halted h = kept_closes (pass_phase which) v words Nothing (at (next_phase (pass_phase which)) 0) h
    pass_onward which v words (Bad cause) h = h

    kept_pass : (which : Which) (g : Given) (now index : ℕ) (words : List ℕ) → g.space ≡ k → g.behavior.parsed g.input ≡ parsed → length words ≡ length before → Always KeptBy (pass_tree which g now index w words)
    kept_pass which g now index words is of long =
        let s : Setting = setting_in g which w.sealed now in
        always_bound (Ran (parsed_words (sealed_call parsed w.sealed.nth)) k.budget (machine_in which w words)) KeptBy (step_tree s index (machine_in which w words)) (pass_to which w)
        (λ x r. pass_onward which (with_machine which w x.machine) x.machine.words x.outcome (behind w w _ before words _ (same words long) (pass_is_kept which w words x r)))
        (subst (λ (f : ℕ → Option Parsed). Always (Ran (parsed_words (sealed_call f w.sealed.nth)) k.budget (machine_in which w words)) (step_tree s index (machine_in which w words))) of
        (subst (λ (b : ℕ). Always (Ran (parsed_words s.parsed) b (machine_in which w words)) (step_tree s index (machine_in which w words))) (ap (λ (s : PassSpace). s.budget) is) (ran_step s index (machine_in which w words))))

    -- undoing leaves as many words
    undo_word_long : (words : List ℕ) (a was : ℕ) (o : Option ℕ) → Always (λ (u : Undone). length u.words ≡ length words) (undo_word words a was o)
    undo_word_long words a was None = refl
    undo_word_long words a was (Some word) = λ x. length-set words a x

    undo_long : (words : List ℕ) (o : Option Change) → Always (λ (u : Undone). length u.words ≡ length words) (undo_at words o)
    undo_long words None = refl
    undo_long words (Some c) = λ a was. undo_word_long words a was (slice_get words a)

    kept_undone : (words : List ℕ) → length words ≡ length before → (index : ℕ) (cause : Option AbortCause) → Always KeptBy (undone_as w words index cause)
    kept_undone words long index None = same words long
    kept_undone words long index (Some cause) = same words long

    kept_restore : (index : ℕ) (words : List ℕ) → length words ≡ length before → (b : Bool) →
        Always KeptBy (if b then bound (undo_at words (slice_get w.first_log.items (length w.first_log.items - 1 - index))) (undone_to w index) else closes Restore w words Nothing (at Second 0))
    kept_restore index words long true =
        always_bound (λ (u : Undone). length u.words ≡ length words) KeptBy (undo_at words (slice_get w.first_log.items (length w.first_log.items - 1 - index))) (undone_to w index)
        (λ u h. kept_undone u.words (h ∙ long) index u.cause) (undo_long words (slice_get w.first_log.items (length w.first_log.items - 1 - index)))
    kept_restore index words long false = kept_closes Restore w words Nothing (at Second 0) (same words long)

    kept_entries : (index : ℕ) (words : List ℕ) → length words ≡ length before → (b : Bool) → Always KeptBy (entries_to w words index b)
    kept_entries index words long true = same words long
    kept_entries index words long false = same words long

    kept_outputs : (words : List ℕ) → length words ≡ length before → (b : Bool) → Always KeptBy (outputs_to w words b)
    kept_outputs words long true = kept_closes Compare w words Nothing (at Verify 0) (same words long)
    kept_outputs words long false = same words long

    kept_compare : (index : ℕ) (words : List ℕ) → length words ≡ length before → (b : Bool) →
        Always KeptBy (if b then bound (entry_tree w.first_log.items w.second_log.items index) (entries_to w words index)
        else bound (codes_tree w.first.code w.first.bytes.items w.second.code w.second.bytes.items) (outputs_to w words))
    kept_compare index words long true = always_any KeptBy (entry_tree w.first_log.items w.second_log.items index) (entries_to w words index) (λ b. kept_entries index words long b)
    kept_compare index words long false = always_any KeptBy (codes_tree w.first.code w.first.bytes.items w.second.code w.second.bytes.items) (outputs_to w words) (λ b. kept_outputs words long b)

    word_same : (index : ℕ) (words : List ℕ) → length words ≡ length before → (b : Bool) → Always KeptBy (if b then ends w words (Leads (at Verify (index + 1))) else ends w words (Aborts (Differing index)))
    word_same index words long true = same words long
    word_same index words long false = same words long

    kept_word : (index : ℕ) (words : List ℕ) → length words ≡ length before → (r : Result Bool AbortCause) → Always KeptBy (word_to w words index r)
    kept_word index words long (Ok b) = word_same index words long b
    kept_word index words long (Err cause) = same words long

    kept_copy : (index : ℕ) (words bytes : List ℕ) → length bytes ≤ length (reply_of w) → length words ≡ length before → Always KeptBy (copy_bytes w words index bytes)
    kept_copy index words [] few long = copied w before words [] few long
    kept_copy index words (byte ∷ bytes) few long = λ b. copied w before words (b % 2 ^ 8 ∷ bytes) few long

    kept_wire : (words : List ℕ) → length words ≡ length before → (b : Bool) → Always KeptBy (wire_to w words b)
    kept_wire words long true = kept_closes Verify w words Nothing (at Enter 0) (same words long)
    kept_wire words long false = same words long

    behind_words : (index : ℕ) (words : List ℕ) → length words ≡ length before → (b : Bool) →
        Always KeptBy (if b then copy_bytes w words index (reply_of w) else bound (wire_tree PlainMode w.sealed.answer w.first.code w.first.bytes.items w.wire.items) (wire_to w words))
    behind_words index words long true = kept_copy index words (reply_of w) (omega arith) long
    behind_words index words long false = always_any KeptBy (wire_tree PlainMode w.sealed.answer w.first.code w.first.bytes.items w.wire.items) (wire_to w words) (λ b. kept_wire words long b)

    kept_verify : (index : ℕ) (words : List ℕ) → length words ≡ length before → (b : Bool) →
        Always KeptBy (if b then bound (word_at words (slice_get w.second_log.items index)) (word_to w words index) else verify_copy index w words)
    kept_verify index words long true = always_any KeptBy (word_at words (slice_get w.second_log.items index)) (word_to w words index) (λ r. kept_word index words long r)
    kept_verify index words long false = behind_words index words long (index == length w.second_log.items)

    -- each act
    kept_act : (g : Given) (now : ℕ) (phase : Phase) (index : ℕ) (words : List ℕ) → g.space ≡ k → g.behavior.parsed g.input ≡ parsed → length words ≡ length before → Always KeptBy (act_in g now phase index w words)
    kept_act g now Guard index words is of long = λ yes. kept_guard g words long yes
    kept_act g now Take index words is of long = kept_take g words long (index == 0)
    kept_act g now First index words is of long = kept_pass Making g now index words is of long
    kept_act g now Restore index words is of long = kept_restore index words long (nat_lt index (length w.first_log.items))
    kept_act g now Second index words is of long = kept_pass Reading g now index words is of long
    kept_act g now Compare index words is of long = kept_compare index words long (nat_lt index (compared w))
    kept_act g now Verify index words is of long = kept_verify index words long (nat_lt index (length w.second_log.items))
    kept_act g now Enter index words is of long = kept_closes Enter w words WantEnter (at Give 0) (same words long)
    kept_act g now Give index words is of long = kept_closes Give w words WantGive (at Send 0) (same words long)
    kept_act g now Send index words is of long = kept_closes Send w words (send_want (reply_of w)) (at Last 0) (same words long)
    kept_act g now Last index words is of long = kept_closes Last w words Nothing (at Last 1) (same words long)

  -- a whole step

  module _ (w : Workspace) (before : List ℕ) (g : Given) (here : g.space ≡ k) (of : g.behavior.parsed g.input ≡ parsed) where
    abbrev KeptOn : StepResult → Type 0
    KeptOn x = KeepsWorkspace k parsed w before x.workspace x.words

    ended_kept : (v : Workspace) (words : List ℕ) (on : Place → Tree StepResult) (e : Ending) → KeepsWorkspace k parsed w before v words → ((to : Place) → Always KeptOn (on to)) → Always KeptOn (unless_ended on v words e)
    ended_kept v words on (Leads to) h on_to = on_to to
    ended_kept v words on Refuses h on_to = h
    ended_kept v words on (Aborts cause) h on_to = h

    goes_kept : (v : Workspace) (words : List ℕ) (to : Place) → KeepsWorkspace k parsed w before v words → Always KeptOn (goes v words to)
    goes_kept v words to h = λ p. behind w v _ before words words h (like v _ words words refl refl refl refl refl refl refl)

    once_kept : (now : ℕ) (v : Workspace) (words : List ℕ) → KeepsWorkspace k parsed w before v words → Always KeptOn (once g now v words)
    once_kept now v words h =
        always_bound (KeptBy v words) KeptOn (act_tree g now v words) goes_on
        (λ y a. let more : KeepsWorkspace k parsed w before y.workspace y.words = behind w v y.workspace before words y.words h a in ended_kept y.workspace y.words (goes y.workspace y.words) y.ending more (λ to. goes_kept y.workspace y.words to more))
        (kept_act v words g now v.place.phase v.place.index words here of refl)

    twice_kept : (now later : ℕ) (v : Workspace) (words : List ℕ) → KeepsWorkspace k parsed w before v words → Always KeptOn (bound (act_tree g now v words) (twice g later))
    twice_kept now later v words h =
        always_bound (KeptBy v words) KeptOn (act_tree g now v words) (twice g later)
        (λ y a. let more : KeepsWorkspace k parsed w before y.workspace y.words = behind w v y.workspace before words y.words h a in ended_kept y.workspace y.words (λ to. once g later y.workspace y.words) y.ending more (λ to. once_kept later y.workspace y.words more))
        (kept_act v words g now v.place.phase v.place.index words here of refl)

    times_kept : (now later : ℕ) (v : Workspace) (words : List ℕ) (act : Act) (times : Times) → KeepsWorkspace k parsed w before v words → Always KeptOn (step_as g now later v words act times)
    times_kept now later v words act Once h = once_kept now v words h
    times_kept now later v words act Skip h = goes_kept v words (skipped v act) h
    times_kept now later v words act Twice h = twice_kept now later v words h

    step_at_kept : (now later : ℕ) (v : Workspace) (words : List ℕ) (o : Option Act) → KeepsWorkspace k parsed w before v words → Always KeptOn (step_at o g now later v words)
    step_at_kept now later v words None h = h
    step_at_kept now later v words (Some act) h = λ times. times_kept now later v words act times h

    pub step_kept : (now later : ℕ) → Always KeptOn (traversal_step g now later w before)
    step_kept now later =
        let from : Workspace = record w { want = Nothing } in
        step_at_kept now later from before (site_of g.behavior from) (like w from before before refl refl refl refl refl refl refl)
