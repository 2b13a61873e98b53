-- With one strike at most, a traversal makes no more steps than its bound, whatever its workspace and its table are.
use Rattle.std.proofs.Common.{◌≡◌, ℕ, ◌+◌, ◌*◌, ◌-◌, ◌<◌, ◌≤◌, ◌⊎◌, inl, inr, Bool, true, false, List, [], ◌∷◌, length, Option, Some, None, refl, sym, ap, ◌∙◌, subst, arith}
use Rattle.std.specs.Prelude.{⊤, slice_get, if◌then◌else◌, ◌==◌, nat_lt, min}
use Rattle.std.specs.declared.result.Result.{Result}
use Rattle.std.specs.declared.result.Result.TheVariants.{Ok, Err}
use Rattle.std.proofs.lemmas.Bool.{cases_eq, eqb-true, ltb-true}
use Rattle.sei_code.specs.declared.modes.Mode.TheVariants.{Plain as PlainMode}
use Rattle.sei_pass.specs.declared.spaces.PassSpace.{PassSpace}
use Rattle.sei_fault.specs.Counts.{Counts, Answered}
use Rattle.sei_fault.specs.Question.{Question, Answer, honestly_to}
use Rattle.sei_fault.specs.declared.cause.AbortCause.{AbortCause}
use Rattle.sei_fault.specs.declared.cause.AbortCause.TheVariants.{Gate, Range, Differs, Reply as Replies, Wire as Wires}
use Rattle.sei_fault.specs.declared.place.Act.{Act}
use Rattle.sei_fault.specs.declared.place.Phase.{Phase}
use Rattle.sei_fault.specs.declared.place.Phase.TheVariants.{Guard, Take, First, Restore, Second, Compare, Verify, Enter, Give, Send, Done}
use Rattle.sei_fault.specs.declared.place.Place.{Place}
use Rattle.sei_fault.specs.declared.place.Times.{Times}
use Rattle.sei_fault.specs.declared.place.Times.TheVariants.{Once, Skip, Twice}
use Rattle.sei_fault.specs.Tree.{Tree, Runs, any_core, honest, bound, Always}
use Rattle.sei_fault.proofs.Public.{honest_bound, counted_runs, always, always_map, always_honest, never_falls, core_room_left}
use Rattle.sei_gate.specs.Closing.{risen}
use Rattle.sei_stmt.specs.Handling.{parsed_words}
use Rattle.sei_stmt.specs.Machine.{Machine, Setting, Outcome, After, one_made}
use Rattle.sei_stmt.specs.Machine.Outcome.{Next, Halted, Bad}
use Rattle.sei_stmt.specs.Statements.{statement_tree, step_tree}
use Rattle.sei_stmt.proofs.PublicStatementEnds.{by_statement}
use Rattle.sei_stmt.proofs.Public.{IsGoing}
use Rattle.sei_pass.specs.declared.given.Which.{Which}
use Rattle.sei_pass.specs.declared.given.Which.TheVariants.{Making, Reading}
use Rattle.sei_pass.proofs.Public.{Keeps, keeps}
use Rattle.sei_restore.specs.Undoing.{undo_at}
use Rattle.sei_compare.specs.Comparing.{entry_tree, codes_tree, word_at, wire_tree}
use Rattle.sei_traverse.specs.declared.turned.State.{State}
use Rattle.sei_traverse.specs.declared.turned.State.TheVariants.{Went, Finished, Refused, Aborted}
use Rattle.sei_traverse.specs.declared.turned.Want.{Want}
use Rattle.sei_traverse.specs.declared.turned.Want.TheVariants.{Nothing, Take as WantTake, Enter as WantEnter, Give as WantGive}
use Rattle.sei_traverse.specs.declared.workspace.Ending.{Ending}
use Rattle.sei_traverse.specs.declared.workspace.Ending.TheVariants.{Leads, Refuses, Aborts}
use Rattle.sei_traverse.specs.declared.workspace.Workspace.{Workspace}
use Rattle.sei_traverse.specs.Acts.{Acted, acted, ends, at, closed_to, closing_then, closes}
use Rattle.sei_traverse.specs.Bounds.{place_number, last_number, made_by, reached, most_steps, StepsWithin, StepsAfter}
use Rattle.sei_traverse.specs.PassActs.{pass_phase, pass_in, machine_in, with_machine, pass_from, pass_to, pass_tree}
use Rattle.sei_traverse.specs.Phases.{guard_call, store_wanted, take_wanted, undone_as, undone_to, compared, entries_to, outputs_to, word_to, reply_of, copy_bytes, wire_to, verify_copy, send_want}
use Rattle.sei_traverse.specs.Given.{Given, setting_in}
use Rattle.sei_traverse.specs.State.{TraversalState, IsTraversal, begun_traversal, one_more}
use Rattle.sei_pass.specs.declared.given.Sealed.{Sealed}
use Rattle.sei_traverse.specs.Step.{StepResult, step_result, act_in, act_tree, site_of, is_end, arrival, goes, goes_from, goes_on, once, unless_ended, twice, step_as, step_at, traversal_step, TimedTwice}
use Rattle.sei_traverse.proofs.HonestStep.{unwanting, clean_run}

-- what always holds of a piece of work behind another

pub always_bound : {A B : Type 0} (P : A → Type 0) (Q : B → Type 0) (t : Tree A) (f : A → Tree B) → ((x : A) → P x → Always Q (f x)) → Always P t → Always Q (bound t f)
always_bound P Q (Tree.Done r) f h p = h r p
always_bound P Q (Tree.Ask q k) f h p = λ a. always_bound P Q (k a) f h (p a)

-- whatever the end of the first is
pub always_any : {A B : Type 0} (Q : B → Type 0) (t : Tree A) (f : A → Tree B) → ((x : A) → Always Q (f x)) → Always Q (bound t f)
always_any Q (Tree.Done r) f h = h r
always_any Q (Tree.Ask q k) f h = λ a. always_any Q (k a) f h

-- an act comes further

-- both logs fit into their rooms
record Fits (k : PassSpace) (w : Workspace) : Type 0 where
  first_log : length w.first_log.items ≤ k.log
  second_log : length w.second_log.items ≤ k.log

-- where it leads to a place that is not the end, that lies behind n
abbrev Onto : PassSpace → ℕ → Workspace → Ending → Type 0
Onto k n v (Leads to) = is_end to ≡ false → n < made_by v + place_number k to.phase to.index
Onto k n v Refuses = ⊤
Onto k n v (Aborts cause) = ⊤

record Climbs (k : PassSpace) (w : Workspace) (phase : Phase) (index : ℕ) (y : Acted) : Type 0 where
  made : made_by w ≤ made_by y.workspace
  onto : Fits k w → Onto k (made_by w + place_number k phase index) y.workspace y.ending

module _ (k : PassSpace) (w : Workspace) (phase : Phase) (index : ℕ) where
  -- an act that ends without a place
  refuses_up : (v : Workspace) (words : List ℕ) → made_by w ≤ made_by v → Climbs k w phase index (acted v words Refuses)
  refuses_up v words le = record { made = le; onto = λ f. tt }

  aborts_up : (v : Workspace) (words : List ℕ) (cause : AbortCause) → made_by w ≤ made_by v → Climbs k w phase index (acted v words (Aborts cause))
  aborts_up v words cause le = record { made = le; onto = λ f. tt }

  -- one that leads on
  leads_up : (v : Workspace) (words : List ℕ) (to : Place) → made_by w ≤ made_by v → (Fits k w → is_end to ≡ false → made_by w + place_number k phase index < made_by v + place_number k to.phase to.index) →
      Climbs k w phase index (acted v words (Leads to))
  leads_up v words to le h = record { made = le; onto = h }

  -- one that closes its phase, from a workspace in which no fewer statements were made
  closes_up : (p : Phase) (v : Workspace) (words : List ℕ) (want : Want) (to : Place) → made_by w ≤ made_by v →
      (Fits k w → is_end to ≡ false → made_by w + place_number k phase index < made_by v + place_number k to.phase to.index) → Always (Climbs k w phase index) (closes p v words want to)
  closes_up p v words want to le h = λ yes. by_answer yes
    where
      by_answer : (yes : Bool) → Always (Climbs k w phase index) (closed_to v words (λ u. ends (record u { want = want }) words (Leads to)) (yes, if yes then risen v.gate.done else v.gate.done))
      by_answer true = record { made = le; onto = h }
      by_answer false = record { made = le; onto = λ f. tt }

same_made : (w : Workspace) → made_by w ≤ made_by w
same_made w = omega arith

-- where as many statements were made, a greater number of the place is enough
by_place : (n a b : ℕ) → a < b → n + a < n + b
by_place n a b lt = omega (arith, lt)

-- Guard and Take

guard_asked : (k : PassSpace) (g : Given) (index : ℕ) (w : Workspace) (words : List ℕ) (yes : Bool) → Always (Climbs k w Guard index) (if yes then closes Guard w words Nothing (at Take 0) else ends w words Refuses)
guard_asked k g index w words true = closes_up k w Guard index Guard w words Nothing (at Take 0) (same_made w) (λ f onward. by_place (made_by w) 0 (1 + min 0 1) (omega arith))
guard_asked k g index w words false = refuses_up k w Guard index w words (same_made w)

guard_up : (k : PassSpace) (g : Given) (index : ℕ) (w : Workspace) (words : List ℕ) (yes : Bool) → Always (Climbs k w Guard index) (if yes then guard_call g w words else ends w words Refuses)
guard_up k g index w words true = λ yes. guard_asked k g index w words yes
guard_up k g index w words false = refuses_up k w Guard index w words (same_made w)

take_room : (k : PassSpace) (index : ℕ) (w v : Workspace) (words : List ℕ) (there : Bool) → made_by w ≤ made_by v →
    Always (Climbs k w Take index) (if there then ends (record v { want = WantTake v.wanted }) words (Leads (at First 0)) else ends v words (Aborts (Range v.wanted)))
take_room k index w v words true le = leads_up k w Take index (record v { want = WantTake v.wanted }) words (at First 0) le (λ f onward. omega (arith, le))
take_room k index w v words false le = aborts_up k w Take index v words (Range v.wanted) le

take_closed : (k : PassSpace) (g : Given) (index : ℕ) (w : Workspace) (words : List ℕ) (yes : Bool) →
    Always (Climbs k w Take index) (closed_to w words (take_wanted g.space.geometry words) (yes, if yes then risen w.gate.done else w.gate.done))
take_closed k g index w words true = take_room k index w (record w { gate = record { done = risen w.gate.done } }) words (nat_lt w.wanted g.space.geometry.buckets) (same_made w)
take_closed k g index w words false = aborts_up k w Take index (record w { gate = record { done = w.gate.done } }) words (Gate w.gate.done) (same_made w)

take_up : (k : PassSpace) (g : Given) (index : ℕ) (w : Workspace) (words : List ℕ) (b : Bool) → (index == 0) ≡ b →
    Always (Climbs k w Take index) (if b then store_wanted g w words else closing_then Take w words (take_wanted g.space.geometry words))
take_up k g index w words true e = λ b wanted. leads_up k w Take index (record w { wanted = wanted }) words (at Take 1) (same_made w) (λ f onward. omega (arith, eqb-true index 0 e))
take_up k g index w words false e = λ yes. take_closed k g index w words yes

-- the passes: a statement more is made, unless it aborts

record CountsOn (m : Machine) (x : After) : Type 0 where
  made : m.made ≤ x.machine.made
  going : IsGoing x.outcome → x.machine.made ≡ m.made + 1

step_up : (s : Setting) (i : ℕ) (m : Machine) → Always (CountsOn m) (step_tree s i m)
step_up s i m = by_statement s i m (Always (CountsOn m)) (λ cause. record { made = omega arith; going = λ go. absurd go })
    (λ st e b. always_map (λ (x : After). Keeps (parsed_words s.parsed) (one_made m) x.machine) (CountsOn m) (statement_tree s i (one_made m) st)
    (λ x k. record { made = omega (arith, k.made); going = λ go. k.made }) (keeps s i (one_made m) st))

pass_onward : (k : PassSpace) (index : ℕ) (which : Which) (w v : Workspace) (words : List ℕ) (o : Outcome) → made_by w ≤ made_by v → (IsGoing o → made_by v ≡ made_by w + 1) →
    Always (Climbs k w (pass_phase which) index) (pass_from which v words o)
pass_onward k index Making w v words (Next i) le going = leads_up k w First index v words (at First i) le (λ f onward. omega (arith, going tt))
pass_onward k index Making w v words Halted le going = closes_up k w First index First v words Nothing (at Restore 0) le (λ f onward. omega (arith, going tt))
pass_onward k index Reading w v words (Next i) le going = leads_up k w Second index v words (at Second i) le (λ f onward. omega (arith, going tt))
pass_onward k index Reading w v words Halted le going = closes_up k w Second index Second v words Nothing (at Compare 0) le (λ f onward. omega (arith, going tt))
pass_onward k index which w v words (Bad cause) le going = aborts_up k w (pass_phase which) index v words cause le

-- as many more as the machine made
made_with : (which : Which) (w : Workspace) (m : Machine) → made_by (with_machine which w m) + (pass_in which w).made ≡ made_by w + m.made
made_with Making w m = omega arith
made_with Reading w m = omega arith

pass_up : (which : Which) (k : PassSpace) (g : Given) (now index : ℕ) (w : Workspace) (words : List ℕ) → Always (Climbs k w (pass_phase which) index) (pass_tree which g now index w words)
pass_up which k g now index w words =
    let s : Setting = setting_in g which w.sealed now in
    always_bound (CountsOn (machine_in which w words)) (Climbs k w (pass_phase which) index) (step_tree s index (machine_in which w words)) (pass_to which w)
    (λ x h. let more = made_with which w x.machine in
    pass_onward k index which w (with_machine which w x.machine) x.machine.words x.outcome (omega (arith, h.made, more)) (λ go. let one = h.going go in omega (arith, one, more)))
    (step_up s index (machine_in which w words))

-- Restore and Compare

undone_up : (k : PassSpace) (index : ℕ) (w : Workspace) (words : List ℕ) (cause : Option AbortCause) → index < length w.first_log.items → Always (Climbs k w Restore index) (undone_as w words index cause)
undone_up k index w words None lt = leads_up k w Restore index w words (at Restore (index + 1)) (same_made w) (λ f onward. omega (arith, lt, f.first_log))
undone_up k index w words (Some cause) lt = aborts_up k w Restore index w words cause (same_made w)

restore_up : (k : PassSpace) (index : ℕ) (w : Workspace) (words : List ℕ) (b : Bool) → nat_lt index (length w.first_log.items) ≡ b →
    Always (Climbs k w Restore index) (if b then bound (undo_at words (slice_get w.first_log.items (length w.first_log.items - 1 - index))) (undone_to w index) else closes Restore w words Nothing (at Second 0))
restore_up k index w words true e =
    always_any (Climbs k w Restore index) (undo_at words (slice_get w.first_log.items (length w.first_log.items - 1 - index))) (undone_to w index)
    (λ u. undone_up k index w u.words u.cause (ltb-true index (length w.first_log.items) e))
restore_up k index w words false e = closes_up k w Restore index Restore w words Nothing (at Second 0) (same_made w) (λ f onward. omega arith)

entries_up : (k : PassSpace) (index : ℕ) (w : Workspace) (words : List ℕ) (same : Bool) → index < compared w → Always (Climbs k w Compare index) (entries_to w words index same)
entries_up k index w words true lt = leads_up k w Compare index w words (at Compare (index + 1)) (same_made w) (λ f onward. omega (arith, lt, f.first_log, f.second_log))
entries_up k index w words false lt = aborts_up k w Compare index w words (Differs index) (same_made w)

outputs_up : (k : PassSpace) (index : ℕ) (w : Workspace) (words : List ℕ) (same : Bool) → Always (Climbs k w Compare index) (outputs_to w words same)
outputs_up k index w words true = closes_up k w Compare index Compare w words Nothing (at Verify 0) (same_made w) (λ f onward. omega arith)
outputs_up k index w words false = aborts_up k w Compare index w words Replies (same_made w)

compare_up : (k : PassSpace) (index : ℕ) (w : Workspace) (words : List ℕ) (b : Bool) → nat_lt index (compared w) ≡ b →
    Always (Climbs k w Compare index) (if b then bound (entry_tree w.first_log.items w.second_log.items index) (entries_to w words index)
    else bound (codes_tree w.first.code w.first.bytes.items w.second.code w.second.bytes.items) (outputs_to w words))
compare_up k index w words true e =
    always_any (Climbs k w Compare index) (entry_tree w.first_log.items w.second_log.items index) (entries_to w words index) (λ same. entries_up k index w words same (ltb-true index (compared w) e))
compare_up k index w words false e =
    always_any (Climbs k w Compare index) (codes_tree w.first.code w.first.bytes.items w.second.code w.second.bytes.items) (outputs_to w words) (λ same. outputs_up k index w words same)

-- Verify

word_same : (k : PassSpace) (index : ℕ) (w : Workspace) (words : List ℕ) (same : Bool) → index < length w.second_log.items →
    Always (Climbs k w Verify index) (if same then ends w words (Leads (at Verify (index + 1))) else ends w words (Aborts (Differs index)))
word_same k index w words true lt = leads_up k w Verify index w words (at Verify (index + 1)) (same_made w) (λ f onward. omega (arith, lt, f.second_log))
word_same k index w words false lt = aborts_up k w Verify index w words (Differs index) (same_made w)

word_up : (k : PassSpace) (index : ℕ) (w : Workspace) (words : List ℕ) (r : Result Bool AbortCause) → index < length w.second_log.items → Always (Climbs k w Verify index) (word_to w words index r)
word_up k index w words (Ok same) lt = word_same k index w words same lt
word_up k index w words (Err cause) lt = aborts_up k w Verify index w words cause (same_made w)

copy_up : (k : PassSpace) (index : ℕ) (w : Workspace) (words bytes : List ℕ) → index ≡ length w.second_log.items → Always (Climbs k w Verify index) (copy_bytes w words index bytes)
copy_up k index w words [] e = leads_up k w Verify index _ words (at Verify (index + 1)) (same_made w) (λ f onward. omega (arith, e, f.second_log))
copy_up k index w words (byte ∷ bytes) e = λ b. leads_up k w Verify index _ words (at Verify (index + 1)) (same_made w) (λ f onward. omega (arith, e, f.second_log))

wire_up : (k : PassSpace) (index : ℕ) (w : Workspace) (words : List ℕ) (same : Bool) → Always (Climbs k w Verify index) (wire_to w words same)
wire_up k index w words true = closes_up k w Verify index Verify w words Nothing (at Enter 0) (same_made w) (λ f onward. omega arith)
wire_up k index w words false = aborts_up k w Verify index w words Wires (same_made w)

behind_words : (k : PassSpace) (index : ℕ) (w : Workspace) (words : List ℕ) (b : Bool) → (index == length w.second_log.items) ≡ b →
    Always (Climbs k w Verify index) (if b then copy_bytes w words index (reply_of w) else bound (wire_tree PlainMode w.sealed.answer w.first.code w.first.bytes.items w.wire.items) (wire_to w words))
behind_words k index w words true e = copy_up k index w words (reply_of w) (eqb-true index (length w.second_log.items) e)
behind_words k index w words false e =
    always_any (Climbs k w Verify index) (wire_tree PlainMode w.sealed.answer w.first.code w.first.bytes.items w.wire.items) (wire_to w words) (λ same. wire_up k index w words same)

verify_up : (k : PassSpace) (index : ℕ) (w : Workspace) (words : List ℕ) (b : Bool) → nat_lt index (length w.second_log.items) ≡ b →
    Always (Climbs k w Verify index) (if b then bound (word_at words (slice_get w.second_log.items index)) (word_to w words index) else verify_copy index w words)
verify_up k index w words true e =
    always_any (Climbs k w Verify index) (word_at words (slice_get w.second_log.items index)) (word_to w words index) (λ r. word_up k index w words r (ltb-true index (length w.second_log.items) e))
verify_up k index w words false e = behind_words k index w words (index == length w.second_log.items) refl

-- whatever is answered, an act that leads on comes further
act_up : (k : PassSpace) (g : Given) (now : ℕ) (phase : Phase) (index : ℕ) (w : Workspace) (words : List ℕ) → Always (Climbs k w phase index) (act_in g now phase index w words)
act_up k g now Guard index w words = λ yes. guard_up k g index w words yes
act_up k g now Take index w words = take_up k g index w words (index == 0) refl
act_up k g now First index w words = pass_up Making k g now index w words
act_up k g now Restore index w words = restore_up k index w words (nat_lt index (length w.first_log.items)) refl
act_up k g now Second index w words = pass_up Reading k g now index w words
act_up k g now Compare index w words = compare_up k index w words (nat_lt index (compared w)) refl
act_up k g now Verify index w words = verify_up k index w words (nat_lt index (length w.second_log.items)) refl
act_up k g now Enter index w words = closes_up k w Enter index Enter w words WantEnter (at Give 0) (same_made w) (λ f onward. omega arith)
act_up k g now Give index w words = closes_up k w Give index Give w words WantGive (at Send 0) (same_made w) (λ f onward. omega arith)
act_up k g now Send index w words = closes_up k w Send index Send w words (send_want (reply_of w)) (at Done 0) (same_made w) (λ f onward. omega arith)
act_up k g now Done index w words = closes_up k w Done index Done w words Nothing (at Done 1) (same_made w) (λ f onward. absurd cc)

-- a whole step

-- whatever is answered, no statement is unmade
abbrev Remade : Workspace → StepResult → Type 0
Remade w x = made_by w ≤ made_by x.workspace

ended_made : (w v : Workspace) (words : List ℕ) (on : Place → Tree StepResult) (e : Ending) → made_by w ≤ made_by v → ((to : Place) → Always (Remade w) (on to)) → Always (Remade w) (unless_ended on v words e)
ended_made w v words on (Leads to) le h = h to
ended_made w v words on Refuses le h = le
ended_made w v words on (Aborts cause) le h = le

once_made : (g : Given) (now : ℕ) (w v : Workspace) (words : List ℕ) → made_by w ≤ made_by v → Always (Remade w) (once g now v words)
once_made g now w v words le =
    always_bound (Climbs g.space v v.place.phase v.place.index) (Remade w) (act_tree g now v words) goes_on
    (λ y h. let further : made_by w ≤ made_by y.workspace = omega (arith, le, h.made) in ended_made w y.workspace y.words (goes y.workspace y.words) y.ending further (λ to p. further))
    (act_up g.space g now v.place.phase v.place.index v words)

twice_made : (g : Given) (now later : ℕ) (w : Workspace) (words : List ℕ) → Always (Remade w) (bound (act_tree g now w words) (twice g later))
twice_made g now later w words =
    always_bound (Climbs g.space w w.place.phase w.place.index) (Remade w) (act_tree g now w words) (twice g later)
    (λ y h. ended_made w y.workspace y.words (λ to. once g later y.workspace y.words) y.ending h.made (λ to. once_made g later w y.workspace y.words h.made))
    (act_up g.space g now w.place.phase w.place.index w words)

times_made : (g : Given) (now later : ℕ) (w : Workspace) (words : List ℕ) (act : Act) (times : Times) → Always (Remade w) (step_as g now later w words act times)
times_made g now later w words act Once = once_made g now w w words (same_made w)
times_made g now later w words act Skip = λ p. same_made w
times_made g now later w words act Twice = twice_made g now later w words

step_result_made : (g : Given) (now later : ℕ) (w : Workspace) (words : List ℕ) (o : Option Act) → Always (Remade w) (step_at o g now later w words)
step_result_made g now later w words None = same_made w
step_result_made g now later w words (Some act) = λ times. times_made g now later w words act times

-- a step that goes on has not come to the end
arrived : (phase : Phase) (to : Place) (done : ℕ) (b : Bool) → is_end to ≡ b → arrival phase to done ≡ Went → is_end to ≡ false
arrived phase to done false e h = e
arrived phase to done true e h = absurd (by_done (done == 11) (sym (ap (λ (b : Bool). if b then (if done == 11 then Finished else Aborted (record { phase = phase; cause = Gate done })) else Went) e) ∙ h))
  where
    by_done : (b : Bool) → (if b then Finished else Aborted (record { phase = phase; cause = Gate done })) ≡ Went → ⊥
    by_done true f = cc
    by_done false f = cc

ending_up : (k : PassSpace) (n : ℕ) (v : Workspace) (words : List ℕ) (e : Ending) → Onto k n v e → (honest (goes_from v words e)).state ≡ Went → n < reached k (honest (goes_from v words e)).workspace
ending_up k n v words (Leads to) onto h = onto (arrived v.place.phase to v.gate.done (is_end to) refl h)
ending_up k n v words Refuses onto h = absurd cc
ending_up k n v words (Aborts cause) onto h = absurd cc

-- an honest step that goes on comes further
site_up : (k : PassSpace) (g : Given) (now later : ℕ) (w : Workspace) (words : List ℕ) (o : Option Act) → Fits k w →
    (honest (step_at o g now later w words)).state ≡ Went → reached k w < reached k (honest (step_at o g now later w words)).workspace
site_up k g now later w words None fits h = absurd cc
site_up k g now later w words (Some act) fits h =
    let y : Acted = honest (act_tree g now w words) in
    let climbs : Climbs k w w.place.phase w.place.index y =
    always_honest (Climbs k w w.place.phase w.place.index) (act_tree g now w words) (act_up k g now w.place.phase w.place.index w words) in
    let same : honest (once g now w words) ≡ honest (goes_from y.workspace y.words y.ending) = honest_bound (act_tree g now w words) goes_on in
    let went : (honest (goes_from y.workspace y.words y.ending)).state ≡ Went = sym (ap (λ (x : StepResult). x.state) same) ∙ h in
    subst (λ (x : StepResult). reached k w < reached k x.workspace) (sym same) (ending_up k (reached k w) y.workspace y.words y.ending (climbs.onto fits) went)

-- no place has a greater number than the last
number_within : (k : PassSpace) (phase : Phase) (index : ℕ) → place_number k phase index ≤ last_number k
number_within k Guard index = omega arith
number_within k Take index = omega arith
number_within k First index = omega arith
number_within k Restore index = omega arith
number_within k Second index = omega arith
number_within k Compare index = omega arith
number_within k Verify index = omega arith
number_within k Enter index = omega arith
number_within k Give index = omega arith
number_within k Send index = omega arith
number_within k Done index = omega arith

-- the bound

-- the most that a traversal reaches
reached_within : (t : TraversalState) → IsTraversal t → reached t.space t.workspace ≤ 2 * t.space.budget + last_number t.space
reached_within t is =
    let first = subst (λ (k : PassSpace). t.workspace.first.made ≤ k.budget) is.space is.workspace.first.made in
    let second = subst (λ (k : PassSpace). t.workspace.second.made ≤ k.budget) (is.workspace.same ∙ is.space) is.workspace.second.made in
    omega (arith, first, second, number_within t.space t.workspace.place.phase t.workspace.place.index)

-- so many steps, and one more at the end
bounded : (t : TraversalState) (begin now : Counts) → IsTraversal t → StepsWithin t begin now → now.struck ≤ begin.struck + 1 → t.steps + 1 ≤ most_steps t.space
bounded t begin now is s le = elim (cases_eq now.struck begin.struck) [
  | inl same ↦ omega (arith, s.unstruck same, reached_within t is)
  | inr other ↦ omega (arith, s.struck (one_more_struck s.later other), reached_within t is)
]
  where
    one_more_struck : begin.struck ≤ now.struck → (now.struck ≡ begin.struck → ⊥) → now.struck ≡ begin.struck + 1
    one_more_struck later other = omega (arith, later, other, le)

-- a traversal that was struck at most once since it began made no more steps than the bound
pub steps_bounded : (t : TraversalState) (begin now : Counts) → IsTraversal t → StepsWithin t begin now → now.struck ≤ begin.struck + 1 → t.steps ≤ most_steps t.space
steps_bounded t begin now is s le = omega (arith, bounded t begin now is s le)

pub begun_within : (g : PassSpace) (sealed : Sealed) (c : Counts) → StepsWithin (begun_traversal g sealed) c c
begun_within g sealed c = record { later = omega arith; unstruck = λ e. omega arith; struck = λ e. absurd (omega (arith, e)) }

fits_of : (t : TraversalState) → IsTraversal t → Fits t.space t.workspace
fits_of t is = record {
  first_log = subst (λ (k : PassSpace). length t.workspace.first_log.items ≤ k.log) is.space is.workspace.first_log;
  second_log = subst (λ (k : PassSpace). length t.workspace.second_log.items ≤ k.log) is.space is.workspace.second_log;
}

module _ (g : Given) (words left : List ℕ) (state : State) (now later : ℕ) (begin c d : Counts) (old new : TraversalState) (is : IsTraversal old) (space : new.space ≡ old.space)
    (steps : new.steps ≡ one_more old.steps) (run : Runs any_core (traversal_step g now later old.workspace words) c d (step_result new.workspace left state)) (within : StepsWithin old begin c) where
  abbrev tree : Tree StepResult
  tree = traversal_step g now later old.workspace words

  one_step : new.steps ≤ old.steps + 1
  one_step = omega (arith, steps)

  no_less : c.struck ≤ d.struck
  no_less = never_falls tree c d (step_result new.workspace left state) run

  -- without a strike it comes further
  further : d.struck ≡ c.struck → state ≡ Went → reached old.space old.workspace < reached old.space new.workspace
  further none went =
      let same : step_result new.workspace left state ≡ honest tree = (clean_run g now later old.workspace words c d (step_result new.workspace left state) run none).0 in
      let on : (honest tree).state ≡ Went = sym (ap (λ (x : StepResult). x.state) same) ∙ went in
      subst (λ (x : StepResult). reached old.space old.workspace < reached old.space x.workspace) (sym same)
      (site_up old.space g now later (unwanting old.workspace) words (site_of g.behavior (unwanting old.workspace)) (record { first_log = (fits_of old is).first_log; second_log = (fits_of old is).second_log }) on)

  -- and with one not much less far
  not_much_less : reached old.space old.workspace ≤ reached old.space new.workspace + last_number old.space
  not_much_less =
      let made : made_by old.workspace ≤ made_by new.workspace =
      always any_core (Remade (unwanting old.workspace)) tree c d (step_result new.workspace left state) (step_result_made g now later (unwanting old.workspace) words (site_of g.behavior (unwanting old.workspace))) run in
      omega (arith, made, number_within old.space old.workspace.place.phase old.workspace.place.index)

  -- a step that goes on keeps the bound
  went_on : state ≡ Went → StepsWithin new begin d
  went_on went = subst (λ (k : PassSpace). Within k) (sym space) here
    where
      Within : PassSpace → Type 0
      Within k = StepsWithin (record new { space = k }) begin d

      struck_before : d.struck ≡ begin.struck + 1 → c.struck ≡ begin.struck + 1 → new.steps ≤ reached old.space new.workspace + last_number old.space + 1
      struck_before e f = let on = further (e ∙ sym f) went in omega (arith, one_step, within.struck f, on)

      struck_here : c.struck ≡ begin.struck → new.steps ≤ reached old.space new.workspace + last_number old.space + 1
      struck_here f = omega (arith, one_step, within.unstruck f, not_much_less)

      by_counts : d.struck ≡ begin.struck + 1 → (c.struck ≡ begin.struck) ⊎ (c.struck ≡ begin.struck → ⊥) → new.steps ≤ reached old.space new.workspace + last_number old.space + 1
      by_counts e (inl f) = struck_here f
      by_counts e (inr other) = struck_before e (omega (arith, within.later, no_less, e, other))

      here : Within old.space
      here = record {
        later = omega (arith, within.later, no_less);
        unstruck = λ e.
            let before : c.struck ≡ begin.struck = omega (arith, within.later, no_less, e) in
            let on = further (e ∙ sym before) went in
            omega (arith, one_step, within.unstruck before, on);
        struck = λ e. by_counts e (cases_eq c.struck begin.struck);
      }

  -- a step that ends it is within the bound
  ended : d.struck ≤ begin.struck + 1 → new.steps ≤ most_steps new.space
  ended le =
      let before = bounded old begin c is within (omega (arith, no_less, le)) in
      subst (λ (k : PassSpace). new.steps ≤ most_steps k) (sym space) (omega (arith, one_step, before))

  -- whatever the core answers, each step keeps the bound
  pub steps_after : StepsAfter new begin d state
  steps_after = by_state state refl
    where
      by_state : (o : State) → state ≡ o → StepsAfter new begin d o
      by_state Went e = went_on e
      by_state Finished e = ended
      by_state Refused e = ended
      by_state (Aborted abort) e = ended

-- for any core that keeps its law, and any clock
pub steps_after_turned : {S : Type 0} (gives : S → (q : Question) → Answer q → S → Type 0) (counts : S → Counts) →
    ((s : S) (q : Question) (a : Answer q) (t : S) → gives s q a t → Answered (a ≡ honestly_to q) (counts s) (counts t)) →
    (told : Option ℕ) (g : Given) (words left : List ℕ) (begin : Counts) (old new : TraversalState) (state : State) (s t : S) →
    TimedTwice gives told (λ now later. traversal_step g now later old.workspace words) s t (step_result new.workspace left state) →
    IsTraversal old → new.space ≡ old.space → new.steps ≡ one_more old.steps → StepsWithin old begin (counts s) → StepsAfter new begin (counts t) state
steps_after_turned gives counts law told g words left begin old new state s t turned is space steps within =
    let run = counted_runs gives counts law (traversal_step g turned.now turned.later old.workspace words) s t (step_result new.workspace left state) turned.runs in
    steps_after g words left state turned.now turned.later begin (counts s) (counts t) old new is space steps run within

-- nor do more strikes fall than the room of the core allows
pub room_left_turned : {S R : Type 0} (gives : S → (q : Question) → Answer q → S → Type 0) (counts : S → Counts) →
    ((s : S) (q : Question) (a : Answer q) (t : S) → gives s q a t → Answered (a ≡ honestly_to q) (counts s) (counts t)) →
    (told : Option ℕ) (tree : ℕ → ℕ → Tree R) (c d : S) (x : R) → TimedTwice gives told tree c d x → (r : ℕ) → (counts c).room ≡ Some r →
    (s : ℕ) × ((counts d).room ≡ Some s) × ((counts d).struck + s ≡ (counts c).struck + r)
room_left_turned gives counts law told tree c d x turned r = core_room_left gives counts law (tree turned.now turned.later) c d x r turned.runs
