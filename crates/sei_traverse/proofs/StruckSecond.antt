-- The second pass under one strike, and behind one.
use Rattle.std.proofs.Common.{◌≡◌, ◌⊎◌, inl, inr, ℕ, zero, suc, ◌+◌, ◌≤◌, Bool, true, false, List, [], ◌∷◌, ◌++◌, slice_set, Option, Some, None, ap, sym, ◌∙◌, arith, refl, subst}
use Rattle.std.specs.Prelude.{if◌then◌else◌, ◌==◌}
use Rattle.std.proofs.lemmas.Option.{same_Some}
use Rattle.sei_code.specs.Coded.{read_of}
use Rattle.sei_code.specs.Kept.{Kept}
use Rattle.sei_code.specs.declared.coded.Coded.{Coded}
use Rattle.sei_log.specs.Changes.{change_of, SameOff}
use Rattle.sei_log.specs.declared.log.Change.{Change}
use Rattle.sei_log.specs.declared.notes.Notes.{Notes}
use Rattle.sei_log.proofs.Public.{same_push}
use Rattle.sei_fault.specs.declared.cause.AbortCause.{AbortCause}
use Rattle.sei_fault.specs.declared.cause.AbortCause.TheVariants.{Gate}
use Rattle.sei_fault.specs.declared.place.Phase.{Phase}
use Rattle.sei_fault.specs.declared.place.Phase.TheVariants.{Second, Compare}
use Rattle.sei_fault.specs.declared.place.Place.{Place}
use Rattle.sei_fault.specs.Phases.{phase_number}
use Rattle.sei_fault.specs.StruckRuns.{StruckRun}
use Rattle.sei_fault.specs.Tree.{Tree, honest, bound, Always}
use Rattle.sei_fault.specs.Weights.{weighed}
use Rattle.sei_fault.proofs.Public.{honest_bound, weighed_bound, always_honest, StruckBound, struck_bound, always_struck}
use Rattle.sei_fault.proofs.PublicStruckRuns.StruckBound.{Before, Behind}
use Rattle.sei_gate.specs.Closing.{risen}
use Rattle.sei_stmt.specs.declared.stmt.Stmt.{Stmt}
use Rattle.sei_stmt.specs.declared.stmt.Stmt.TheVariants.{Store}
use Rattle.sei_stmt.specs.Weights.{making, first_weighed, weighed_in, weighed_after}
use Rattle.sei_stmt.specs.Honest.{after, onward_from}
use Rattle.sei_stmt.specs.Machine.{Machine, Setting, Outcome, After, register, one_made}
use Rattle.sei_stmt.specs.Machine.Outcome.{Next, Halted, Bad}
use Rattle.sei_stmt.specs.Slots.{is_admissible}
use Rattle.sei_stmt.specs.Statements.{noted_value, noted_now, now_by, fit_if, noted_slot_value, noted_slot, alloc_by, statement_tree, step_tree}
use Rattle.sei_stmt.proofs.Public.{after_one, Effect, StruckEffect, honest_effect, struck_effect, keeps, IsGoing}
use Rattle.sei_stmt.proofs.PublicEffects.Effect.{Untouched, Wrote}
use Rattle.sei_stmt.proofs.PublicEffects.StruckEffect.{Plain, Wrong}
use Rattle.sei_stmt.proofs.PublicStatementEnds.{step_keeps}
use Rattle.sei_stmt.proofs.PublicStatementRuns.{looks, plain_repeats, by_statements}
use Rattle.sei_stmt.proofs.PublicStatementRuns.Looks.{Stores, Times, Slots, Neither}
use Rattle.sei_pass.specs.declared.given.Sealed.{Sealed}
use Rattle.sei_pass.specs.declared.given.Which.TheVariants.{Making, Reading}
use Rattle.sei_traverse.specs.declared.turned.Want.{Want}
use Rattle.sei_traverse.specs.declared.turned.Want.TheVariants.{Nothing}
use Rattle.sei_traverse.specs.declared.workspace.Ending.TheVariants.{Leads, Aborts}
use Rattle.sei_traverse.specs.declared.workspace.Workspace.{Workspace}
use Rattle.sei_traverse.specs.Acts.{Acted, acted, at, closed_to, closes}
use Rattle.sei_traverse.specs.Acts.{ends as ends_act}
use Rattle.sei_traverse.specs.Comes.{renoted}
use Rattle.sei_traverse.specs.CallContext.{CallContext, first_start}
use Rattle.sei_traverse.specs.FaultInvariant.{Wanted}
use Rattle.sei_traverse.proofs.ClosesNext.ClosesNext.{Stays, Closes}
use Rattle.sei_traverse.specs.PassActs.{machine_in, with_machine, asked_behind, pass_from, pass_to}
use Rattle.sei_traverse.specs.Given.{setting_in}
use Rattle.sei_traverse.specs.Struck.{IsNoted, IsAimed, WasHonest, WasMisread, start_on, setting_on, ComesOn, SecondStruck, CompareStruck, OnLent}
use Rattle.sei_traverse.specs.Struck.SecondStruck.{Good, Misread, Damaged, Struck}
use Rattle.sei_traverse.specs.Struck.CompareStruck.{Fine, Doubt}
use Rattle.sei_traverse.specs.Trusted.{IsTrusted, second_setting}
use Rattle.sei_traverse.specs.Unstruck.{InSecond}
use Rattle.sei_traverse.proofs.Closes.{closed, closes_in_step, pass_behind}
use Rattle.sei_traverse.proofs.GoodAnswers.{good_answers}
use Rattle.sei_traverse.proofs.PhaseLaws.{given_for, ActsWell, PhaseLaws}
use Rattle.sei_traverse.proofs.PhaseLaws.LeadsWell.{Onward}
use Rattle.sei_traverse.proofs.SmallNotes.{small_whole}
use Rattle.sei_stmt.proofs.Public.{timeless_again}

-- A step of a reading pass leaves the notes, whatever is answered.

reading_notes : {A : Type 0} (g : Setting) → g.reading ≡ true → g.reading ≡ false → A
reading_notes g e r = absurd (let z : ⊥ = cc in z)

pub notes_kept : (g : Setting) (i : ℕ) (m : Machine) → g.reading ≡ true → Always (λ (x : After). x.machine.notes ≡ m.notes) (step_tree g i m)
notes_kept g i m e = step_keeps g (λ y. y.notes ≡ m.notes) (λ s. record {
  assigned = λ y to w h. h;
  logged = λ is y a was w entry there room h. h;
  emits = λ y w room h. h;
  timed = λ is r. reading_notes g e r;
  slotted = λ is r. reading_notes g e r;
  filled = λ y h. h;
  first = λ y word w words is h. h;
  coded = λ is y code h. h;
  emptied = λ is y h. h;
  rendered = λ is y byte bytes small fits h. h;
}) (λ y h. h) i m refl

-- Where a reading step goes on, a making one asks no more questions there.

at_most : (n : ℕ) → n ≤ n
at_most n = omega arith

-- to read a note takes two questions, as making it does
value_asks : (i : ℕ) (m : Machine) (to : ℕ) (n : Option ℕ) → IsGoing (honest (noted_value i m to n)).outcome → 2 ≤ weighed (noted_value i m to n)
value_asks i m to None going = absurd going
value_asks i m to (Some n) going = omega arith

noted_asks : (i : ℕ) (m : Machine) (to : ℕ) (note : Option Coded) → IsGoing (honest (noted_now i m to note)).outcome → 2 ≤ weighed (noted_now i m to note)
noted_asks i m to None going = absurd going
noted_asks i m to (Some note) going = value_asks i m to (read_of note) going

now_asks : (g : Setting) (i : ℕ) (m : Machine) (to : ℕ) (reading : Bool) → reading ≡ true → IsGoing (honest (now_by reading g i m to)).outcome → 2 ≤ weighed (now_by reading g i m to)
now_asks g i m to true e going = noted_asks i m to m.notes.now going
now_asks g i m to false e going = absurd cc

fit_asks : (i : ℕ) (m : Machine) (to slot : ℕ) (fit : Bool) → IsGoing (honest (fit_if fit i m to slot)).outcome → 2 ≤ weighed (fit_if fit i m to slot)
fit_asks i m to slot true going = omega arith
fit_asks i m to slot false going = absurd going

slot_value_asks : (g : Setting) (i : ℕ) (m : Machine) (to moment : ℕ) (slot : Option ℕ) → IsGoing (honest (noted_slot_value g i m to moment slot)).outcome →
    2 ≤ weighed (noted_slot_value g i m to moment slot)
slot_value_asks g i m to moment None going = absurd going
slot_value_asks g i m to moment (Some slot) going =
    let two = fit_asks i m to slot (is_admissible g m.words moment slot) going in
    omega (arith, two)

slot_asks : (g : Setting) (i : ℕ) (m : Machine) (to moment : ℕ) (note : Option Coded) → IsGoing (honest (noted_slot g i m to moment note)).outcome →
    2 ≤ weighed (noted_slot g i m to moment note)
slot_asks g i m to moment None going = absurd going
slot_asks g i m to moment (Some note) going = slot_value_asks g i m to moment (read_of note) going

alloc_asks : (g : Setting) (i : ℕ) (m : Machine) (to t : ℕ) (reading : Bool) → reading ≡ true → IsGoing (honest (alloc_by reading g i m to t)).outcome → 2 ≤ weighed (alloc_by reading g i m to t)
alloc_asks g i m to t true e going = slot_asks g i m to t m.notes.slot going
alloc_asks g i m to t false e going = absurd cc

-- the statement asks no more where it is made
abbrev AsksMore : Setting → ℕ → Machine → Stmt → Type 0
AsksMore g i m s = IsGoing (honest (statement_tree g i m s)).outcome → weighed (statement_tree (making g) i m s) ≤ weighed (statement_tree g i m s)

statement_asks : (g : Setting) (i : ℕ) (m : Machine) (s : Stmt) → g.reading ≡ true → AsksMore g i m s
statement_asks g i m s e = elim (looks s) [
  | Stores address from is ↦ subst (AsksMore g i m) (sym is) (λ going. at_most (weighed (statement_tree g i m (Store address from))))
  | Times to is ↦ subst (AsksMore g i m) (sym is) (λ going. now_asks g i m to g.reading e going)
  | Slots to moment is ↦ subst (AsksMore g i m) (sym is) (λ going. let two = alloc_asks g i m to (register m moment) g.reading e going in omega (arith, two))
  | Neither plain ↦ λ going. omega (arith, (plain_repeats false g.now (λ log. log) (λ notes. notes) g i m s plain).asked)
]

-- a step that is read and goes on asks at least as much as one that is made
pub making_asks : (g : Setting) (i : ℕ) (m : Machine) → g.reading ≡ true → IsGoing (honest (step_tree g i m)).outcome →
    weighed (step_tree (making g) i m) ≤ weighed (step_tree g i m)
making_asks g i m e =
    by_statements false g.now (λ log. log) (λ notes. notes) g i m (λ a b. IsGoing (honest a).outcome → weighed b ≤ weighed a) (λ cause going. absurd going)
    (λ s is. statement_asks g i (one_made m) s e)

-- a run that did not abort had not aborted before
going_before : (g : Setting) (m : Machine) (o : Outcome) → IsGoing (onward_from g m o).outcome → IsGoing o
going_before g m (Next i) going = tt
going_before g m Halted going = tt
going_before g m (Bad cause) going = absurd going

fewer_in : (g : Setting) (m : Machine) (o : Outcome) → g.reading ≡ true → IsGoing (onward_from g m o).outcome → weighed_in (making g) m o ≤ weighed_in g m o
fewer_in g m (Next i) e going = making_asks g i m e going
fewer_in g m Halted e going = omega arith
fewer_in g m (Bad cause) e going = omega arith

-- so do making steps at all machines of a reading run that did not abort
pub first_fewer : (g : Setting) (start : Machine) (n : ℕ) → g.reading ≡ true → IsGoing (after g start n).outcome → first_weighed g start n ≤ weighed_after g start n
first_fewer g start zero e going = omega arith
first_fewer g start (suc n) e going =
    let x : After = after g start n in
    let before = first_fewer g start n e (going_before g x.machine x.outcome going) in
    let here = fewer_in g x.machine x.outcome e going in
    omega (arith, before, here)

-- A statement changes no word that its log does not name.

effect_off : (those : List ℕ) (m y : Machine) → Effect m y → SameOff m.log.items m.words those → SameOff y.log.items y.words those
effect_off those m y (Untouched words log) s =
    let same_words : SameOff m.log.items y.words those = subst (λ (ws : List ℕ). SameOff m.log.items ws those) (sym words) s in
    subst (λ (k : Kept Change). SameOff k.items y.words those) (sym log) same_words
effect_off those m y (Wrote a was v w here words log) s =
    let one : SameOff (m.log.items ++ change_of a was v ∷ []) (slice_set m.words a w) those = same_push m.log.items (change_of a was v) m.words those w s in
    let same_words : SameOff (m.log.items ++ change_of a was v ∷ []) y.words those = subst (λ (ws : List ℕ). SameOff (m.log.items ++ change_of a was v ∷ []) ws those) (sym words) one in
    subst (λ (k : Kept Change). SameOff k.items y.words those) (sym log) same_words

struck_off : (those : List ℕ) (g : Setting) (i : ℕ) (m : Machine) (y : After) (n : ℕ) → StruckEffect g i m y n → SameOff m.log.items m.words those →
    SameOff y.machine.log.items y.machine.words those
struck_off those g i m y n (Plain e) s = effect_off those m y.machine e s
struck_off those g i m y n (Wrong a word was v here room is or asks) s =
    subst (λ (x : After). SameOff x.machine.log.items x.machine.words those) (sym is) (same_push m.log.items (change_of a was v) m.words those v s)

-- One honest step more.

-- the step of the second pass, whatever the clock answers
abbrev on_step : CallContext → Workspace → List ℕ → Tree After
on_step e w words = step_tree (setting_on e w.wanted) w.place.index (machine_in Reading w words)

-- the act's own step is that one
step_is : (e : CallContext) (now : ℕ) (w : Workspace) (words : List ℕ) → w.sealed ≡ e.sealed →
    step_tree (setting_in (given_for e Second w.wanted) Reading w.sealed now) w.place.index (machine_in Reading w words) ≡ on_step e w words
step_is e now w words is =
    ap (λ (s : Sealed). step_tree (setting_in (given_for e Second w.wanted) Reading s now) w.place.index (machine_in Reading w words)) is
    ∙ timeless_again (setting_in (given_for e Second w.wanted) Making e.sealed 0) now w.place.index (machine_in Reading w words)

-- the workspace whose second pass came to this machine, with another gate, want and place
abbrev behind : Workspace → Machine → ℕ → Want → Place → Workspace
behind w m done want to = record (with_machine Reading w m) { gate = record { done = done }; want = want; place = to }

module _ (e : CallContext) (w : Workspace) (m : Machine) (done : ℕ) (want : Want) (to : Place) (asked later : ℕ) (le : asked ≤ later) (kept : m.notes ≡ w.notes) where
  -- the first pass is what it was
  was_honest : (end : Machine) → WasHonest e w end asked → WasHonest e (behind w m done want to) end later
  was_honest end h = record {
    aimed = record { fit = h.aimed.fit; wanted = h.aimed.wanted };
    time = h.time;
    made = h.made;
    whole = h.whole;
    first = record { first = h.first.first; first_log = h.first.first_log; notes = kept ∙ h.first.notes };
    questions = omega (arith, h.questions, le);
  }

  was_misread : (end : Machine) → WasMisread e w end asked → WasMisread e (behind w m done want to) end later
  was_misread end h = record {
    aimed = record { fit = h.aimed.fit; wanted = h.aimed.wanted };
    time = h.time;
    made = h.made;
    whole = h.whole;
    first = h.first;
    notes = kept ∙ h.notes;
    applies = h.applies;
    questions = omega (arith, h.questions, le);
  }

module _ (e : CallContext) (w : Workspace) (words : List ℕ) where
  abbrev on_end : After
  on_end = honest (on_step e w words)

  notes_here : on_end.machine.notes ≡ w.notes
  notes_here = always_honest (λ (y : After). y.machine.notes ≡ w.notes) (on_step e w words) (notes_kept (setting_on e w.wanted) w.place.index (machine_in Reading w words) refl)

  module _ (done : ℕ) (want : Want) (to : Place) (asked later : ℕ) (le : asked + (weighed (on_step e w words) + asked_behind on_end.outcome) ≤ later) (going : IsGoing on_end.outcome) where
    abbrev there : Workspace
    there = behind w on_end.machine done want to

    -- the run on these words has come one statement on
    comes_one : (found : List ℕ) (n : ℕ) → ComesOn e w found words (Next w.place.index) n → ComesOn e there found on_end.machine.words on_end.outcome (suc n)
    comes_one found n c =
        subst (λ (k : Notes). after (setting_on e w.wanted) (start_on e found k) (suc n) ≡ on_end) (sym notes_here)
        (after_one (setting_on e w.wanted) (start_on e found w.notes) (machine_in Reading w words) w.place.index n on_end c refl)

    -- and asked no less than a first pass would, with the closing test where it halted
    asked_one : (n : ℕ) → ComesOn e w e.taken words (Next w.place.index) n → first_weighed (setting_on e w.wanted) (start_on e e.taken w.notes) n + 0 ≤ asked →
        first_weighed (setting_on e w.wanted) (start_on e e.taken on_end.machine.notes) (suc n) + asked_behind on_end.outcome ≤ later
    asked_one n c before =
        let g : Setting = setting_on e w.wanted in
        let x : After = after g (start_on e e.taken w.notes) n in
        let here : weighed_in (making g) x.machine x.outcome ≡ weighed (step_tree (making g) w.place.index (machine_in Reading w words)) = ap (λ (x : After). weighed_in (making g) x.machine x.outcome) c in
        let fewer : weighed (step_tree (making g) w.place.index (machine_in Reading w words)) ≤ weighed (on_step e w words) = making_asks g w.place.index (machine_in Reading w words) refl going in
        let all : first_weighed g (start_on e e.taken w.notes) n + weighed_in (making g) x.machine x.outcome + asked_behind on_end.outcome ≤ later = omega (arith, before, here, fewer, le) in
        subst (λ (k : Notes). first_weighed (setting_on e w.wanted) (start_on e e.taken k) (suc n) + asked_behind on_end.outcome ≤ later) (sym notes_here) all

    least : asked ≤ later
    least = omega (arith, le)

    -- the case stays as it is
    goes_honestly : SecondStruck e w words (Next w.place.index) asked → SecondStruck e there on_end.machine.words on_end.outcome later
    goes_honestly (Good small n c before) = Good (subst (λ (k : Notes). IsNoted e k.now) (sym notes_here) small) (suc n) (comes_one e.taken n c) (asked_one n c before)
    goes_honestly (Misread end was found off n c) =
        Misread end (was_misread e w on_end.machine done want to asked later least notes_here end was) found off (suc n) (comes_one found n c)
    goes_honestly (Damaged end was p c stands found not n comes) =
        Damaged end (was_honest e w on_end.machine done want to asked later least notes_here end was) p c stands found not (suc n) (comes_one found n comes)
    goes_honestly (Struck end was off) =
        Struck end (was_honest e w on_end.machine done want to asked later least notes_here end was)
        (effect_off e.taken (machine_in Reading w words) on_end.machine (honest_effect (setting_on e w.wanted) w.place.index (machine_in Reading w words)) off)

-- The comparison behind it.

module _ (e : CallContext) (trusted : IsTrusted e) (v : Workspace) (words : List ℕ) (asked : ℕ) where
  -- where the pass was honest on the words that were taken, all is well; else nothing was compared yet
  compare_stands : v.place.index ≡ 0 → SecondStruck e v words Halted asked → CompareStruck e v words asked
  compare_stands zero_at (Good small n comes before) = Fine (good_answers e trusted v words asked n small comes before)
  compare_stands zero_at (Misread end was found off n comes) = Doubt (Misread end was found off n comes) (λ p lt. absurd (omega (arith, zero_at, lt)))
  compare_stands zero_at (Damaged end was p c stands found not n comes) = Doubt (Damaged end was p c stands found not n comes) (λ q lt. absurd (omega (arith, zero_at, lt)))
  compare_stands zero_at (Struck end was off) = Doubt (Struck end was off) (λ p lt. absurd (omega (arith, zero_at, lt)))

-- What an act ends with is as it may be.

module _ (e : CallContext) (trusted : IsTrusted e) (w : Workspace) (m : Machine) (later : ℕ) (nothing : w.want ≡ Nothing) (right : w.gate.done ≡ phase_number Second) where
  -- nothing is wanted
  wants_none : (lent : Option (List ℕ)) (v : Workspace) → Wanted e v lent later w.want
  wants_none lent v = subst (λ (k : Want). Wanted e v lent later k) (sym nothing) tt

  -- the next statement
  next_well : (i : ℕ) → SecondStruck e (behind w m w.gate.done w.want (at Second i)) m.words (Next i) later →
      ActsWell e Second later (acted (with_machine Reading w m) m.words (Leads (at Second i)))
  next_well i s = record { wants = wants_none (Some m.words) (with_machine Reading w m); once = Stays right nothing; ends = Onward right s }

  -- the statement aborts
  bad_well : (cause : AbortCause) → ActsWell e Second later (acted (with_machine Reading w m) m.words (Aborts cause))
  bad_well cause = record { wants = wants_none (Some m.words) (with_machine Reading w m); once = Stays right nothing; ends = tt }

  -- the gate found another number
  lost_well : ActsWell e Second later (acted (record (with_machine Reading w m) { gate = record { done = w.gate.done } }) m.words (Aborts (Gate w.gate.done)))
  lost_well = record { wants = wants_none (Some m.words) (with_machine Reading w m); once = Stays right nothing; ends = tt }

  -- the pass is closed
  halt_well : SecondStruck e (behind w m (risen w.gate.done) Nothing (at Compare 0)) m.words Halted later →
      ActsWell e Second later (acted (closed (with_machine Reading w m)) m.words (Leads (at Compare 0)))
  halt_well s = record {
    wants = tt;
    once = Closes Second refl (ap risen right) refl;
    ends = Onward (ap risen right) (compare_stands e trusted (behind w m (risen w.gate.done) Nothing (at Compare 0)) m.words later refl s);
  }

  -- whichever of them it is
  ends_well : (o : Outcome) → ((done : ℕ) (want : Want) (to : Place) → IsGoing o → SecondStruck e (behind w m done want to) m.words o later) →
      ActsWell e Second later (honest (pass_from Reading (with_machine Reading w m) m.words o))
  ends_well (Next i) f = next_well i (f w.gate.done w.want (at Second i) tt)
  ends_well Halted f =
      subst (ActsWell e Second later) (sym (closes_in_step Second (with_machine Reading w m) m.words (at Compare 0) right))
      (halt_well (f (risen w.gate.done) Nothing (at Compare 0) tt))
  ends_well (Bad cause) f = bad_well cause

-- A strike in the closing of a phase: the phase is closed all the same, or it is not.

module _ (phase : Phase) (w : Workspace) (words : List ℕ) (to : Place) (y : Acted) where
  abbrev Closings : Type 0
  Closings = (y ≡ acted (closed w) words (Leads to)) ⊎ (y ≡ acted (record w { gate = record { done = w.gate.done } }) words (Aborts (Gate w.gate.done)))

  abbrev closing_behind : Bool → Tree Acted
  closing_behind b = closed_to w words (λ v. ends_act (record v { want = Nothing }) words (Leads to)) (b, if b then risen w.gate.done else w.gate.done)

  closing_ends : (b : Bool) → y ≡ honest (closing_behind b) → Closings
  closing_ends true e = inl e
  closing_ends false e = inr e

  closing_asks : (b : Bool) (n : ℕ) → StruckRun (closing_behind b) y n → ⊥
  closing_asks true n s = s
  closing_asks false n s = s

  -- it asks one question at least
  closing_counts : (n : ℕ) → StruckRun (closes phase w words Nothing to) y n → 1 ≤ n
  closing_counts n (inl h) = omega (arith, h.asked)
  closing_counts n (inr (m, c, s)) = omega (arith, c)

  closing_struck : (n : ℕ) → StruckRun (closes phase w words Nothing to) y n → Closings
  closing_struck n (inl h) = closing_ends h.answer h.end
  closing_struck n (inr (m, c, s)) = absurd (closing_asks (w.gate.done == phase_number phase) m s)

-- From a clean traversal.

module _ (e : CallContext) (w : Workspace) (lent : Option (List ℕ)) (steps asked : ℕ) (h : InSecond e w lent steps asked) (aimed : IsAimed e w) where
  -- its first pass was honest
  clean_was : (v : Workspace) → IsAimed e v → v.first ≡ w.first → v.first_log ≡ w.first_log → v.notes ≡ w.notes → WasHonest e v h.end asked
  clean_was v a first log notes = record {
    aimed = a;
    time = h.time;
    made = h.made;
    whole = h.whole;
    first = record { first = first ∙ h.first.first; first_log = log ∙ h.first.first_log; notes = notes ∙ h.first.notes };
    questions = omega (arith, h.questions);
  }

  -- its second pass changed no word that its log does not name
  clean_off : SameOff w.second_log.items h.words e.taken
  clean_off =
      subst (λ (x : After). SameOff x.machine.log.items x.machine.words e.taken) h.comes
      (keeps (second_setting e) (renoted h.end.notes (first_start e)) refl h.n).off

  -- the second pass is honest on the words that were taken, by the workspace's notes
  clean_comes : (words : List ℕ) → lent ≡ Some words → ComesOn e w e.taken words (Next w.place.index) h.n
  clean_comes words are =
      ap (λ (b : ℕ). after (setting_on e b) (start_on e e.taken w.notes) h.n) aimed.wanted
      ∙ ap (λ (k : Notes). after (second_setting e) (renoted k (first_start e)) h.n) h.first.notes
      ∙ h.comes
      ∙ ap (λ (ws : List ℕ). let x : After = record { machine = machine_in Reading w ws; outcome = Next w.place.index } in x) (same_Some h.words words (sym h.lent_are ∙ are))

  -- and has asked no less than a first pass would there
  clean_asked : (words : List ℕ) → lent ≡ Some words → first_weighed (setting_on e w.wanted) (start_on e e.taken w.notes) h.n ≤ asked
  clean_asked words are =
      let going : IsGoing (after (second_setting e) (renoted h.end.notes (first_start e)) h.n).outcome = subst (λ (x : After). IsGoing x.outcome) (sym h.comes) tt in
      let fewer = first_fewer (second_setting e) (renoted h.end.notes (first_start e)) h.n refl going in
      let all : first_weighed (second_setting e) (renoted h.end.notes (first_start e)) h.n ≤ asked = omega (arith, fewer, h.questions) in
      let noted : first_weighed (second_setting e) (renoted w.notes (first_start e)) h.n ≤ asked = subst (λ (k : Notes). first_weighed (second_setting e) (renoted k (first_start e)) h.n ≤ asked) (sym h.first.notes) all in
      subst (λ (b : ℕ). first_weighed (setting_on e b) (start_on e e.taken w.notes) h.n ≤ asked) (sym aimed.wanted) noted

  clean_good : (words : List ℕ) → lent ≡ Some words → SecondStruck e w words (Next w.place.index) asked
  clean_good words are = Good (small_whole e h.time h.made h.end w.notes h.whole h.first.notes) h.n (clean_comes words are) (omega (arith, clean_asked words are))

  -- at any other statement it counts as struck in the second pass
  second_moved : (index : ℕ) → OnLent lent (λ words. SecondStruck e (record w { place = at Second index }) words (Next index) asked)
  second_moved index =
      subst (λ (l : Option (List ℕ)). OnLent l (λ words. SecondStruck e (record w { place = at Second index }) words (Next index) asked)) (sym h.lent_are)
      (Struck h.end (clean_was (record w { place = at Second index }) (record { fit = aimed.fit; wanted = aimed.wanted }) refl refl refl) clean_off)

-- An honest act behind a strike.

module _ (e : CallContext) (trusted : IsTrusted e) (now : ℕ) (w : Workspace) (words : List ℕ) (asked : ℕ) (nothing : w.want ≡ Nothing) (right : w.gate.done ≡ phase_number Second)
    (s : SecondStruck e w words (Next w.place.index) asked) where
  abbrev WellBy : Tree After → Type 0
  WellBy t = ActsWell e Second (asked + weighed (bound t (pass_to Reading w))) (honest (bound t (pass_to Reading w)))

  honest_ends : WellBy (on_step e w words)
  honest_ends =
      let x : After = on_end e w words in
      let all = weighed_bound (on_step e w words) (pass_to Reading w) in
      let later : ℕ = asked + weighed (bound (on_step e w words) (pass_to Reading w)) in
      let closing = pass_behind Reading (with_machine Reading w x.machine) x.machine.words x.outcome in
      let le : asked + (weighed (on_step e w words) + asked_behind x.outcome) ≤ later = omega (arith, all, closing) in
      subst (ActsWell e Second later) (sym (honest_bound (on_step e w words) (pass_to Reading w)))
      (ends_well e trusted w x.machine later nothing right x.outcome (λ done want to going. goes_honestly e w words done want to asked later le going s))

  honest_acts : w.sealed ≡ e.sealed → WellBy (step_tree (setting_in (given_for e Second w.wanted) Reading w.sealed now) w.place.index (machine_in Reading w words))
  honest_acts is = subst WellBy (sym (step_is e now w words is)) honest_ends

-- An act of a clean traversal in which a strike falls.

module _ (e : CallContext) (trusted : IsTrusted e) (now : ℕ) (w : Workspace) (words : List ℕ) (steps asked n : ℕ) (y : Acted) (nothing : w.want ≡ Nothing)
    (h : InSecond e w (Some words) steps asked) (aimed : IsAimed e w) where
  right : w.gate.done ≡ phase_number Second
  right = h.is.gate

  off_here : SameOff w.second_log.items words e.taken
  off_here = subst (λ (ws : List ℕ). SameOff w.second_log.items ws e.taken) (sym (same_Some words h.words h.lent_are)) (clean_off e w (Some words) steps asked h aimed)

  -- in the statement
  in_statement : (x : After) (m : ℕ) → StruckRun (on_step e w words) x m → y ≡ honest (pass_to Reading w x) → ActsWell e Second (asked + n) y
  in_statement x m s is =
      let kept : x.machine.notes ≡ w.notes = always_struck (λ (y : After). y.machine.notes ≡ w.notes) (on_step e w words) x m (notes_kept (setting_on e w.wanted) w.place.index (machine_in Reading w words) refl) s in
      let off : SameOff x.machine.log.items x.machine.words e.taken =
      struck_off e.taken (setting_on e w.wanted) w.place.index (machine_in Reading w words) x m (struck_effect (setting_on e w.wanted) w.place.index (machine_in Reading w words) x m s) off_here in
      let was : WasHonest e w h.end asked = clean_was e w (Some words) steps asked h aimed w aimed refl refl refl in
      subst (ActsWell e Second (asked + n)) (sym is)
      (ends_well e trusted w x.machine (asked + n) nothing right x.outcome
      (λ done want to going. Struck h.end (was_honest e w x.machine done want to asked (asked + n) (omega arith) kept h.end was) off))

  -- in the closing behind Halt
  in_closing : (m : ℕ) (o : Outcome) → (on_end e w words).outcome ≡ o → weighed (on_step e w words) + m ≤ n →
      StruckRun (pass_from Reading (with_machine Reading w (on_end e w words).machine) (on_end e w words).machine.words o) y m → ActsWell e Second (asked + n) y
  in_closing m (Next i) is le s = absurd s
  in_closing m (Bad cause) is le s = absurd s
  in_closing m Halted is le s = by_case (closing_struck Second (with_machine Reading w (on_end e w words).machine) (on_end e w words).machine.words (at Compare 0) y m s)
    where
      asks : asked + (weighed (on_step e w words) + asked_behind (on_end e w words).outcome) ≤ asked + n
      asks =
          let one : asked_behind (on_end e w words).outcome ≡ 1 = ap asked_behind is in
          let test : 1 ≤ m = closing_counts Second (with_machine Reading w (on_end e w words).machine) (on_end e w words).machine.words (at Compare 0) y m s in
          omega (arith, one, test, le)

      good : SecondStruck e (behind w (on_end e w words).machine (risen w.gate.done) Nothing (at Compare 0)) (on_end e w words).machine.words Halted (asked + n)
      good =
          subst (λ (o : Outcome). SecondStruck e (behind w (on_end e w words).machine (risen w.gate.done) Nothing (at Compare 0)) (on_end e w words).machine.words o (asked + n)) is
          (goes_honestly e w words (risen w.gate.done) Nothing (at Compare 0) asked (asked + n) asks (subst IsGoing (sym is) tt)
          (clean_good e w (Some words) steps asked h aimed words refl))

      by_case : Closings Second (with_machine Reading w (on_end e w words).machine) (on_end e w words).machine.words (at Compare 0) y → ActsWell e Second (asked + n) y
      by_case (inl p) = subst (ActsWell e Second (asked + n)) (sym p) (halt_well e trusted w (on_end e w words).machine (asked + n) nothing right good)
      by_case (inr p) = subst (ActsWell e Second (asked + n)) (sym p) (lost_well e trusted w (on_end e w words).machine (asked + n) nothing right)

  struck_case : StruckBound (on_step e w words) (pass_to Reading w) y n → ActsWell e Second (asked + n) y
  struck_case (Before x m s is counts) = in_statement x m s is
  struck_case (Behind m s counts) = in_closing m (on_end e w words).outcome refl (omega (arith, counts)) s

  struck_acts : StruckRun (bound (step_tree (setting_in (given_for e Second w.wanted) Reading w.sealed now) w.place.index (machine_in Reading w words)) (pass_to Reading w)) y n →
      ActsWell e Second (asked + n) y
  struck_acts s =
      struck_case (struck_bound (on_step e w words) (pass_to Reading w) y n
      (subst (λ (t : Tree After). StruckRun (bound t (pass_to Reading w)) y n) (step_is e now w words h.is.sealed) s))

pub second_laws : (e : CallContext) → IsTrusted e → PhaseLaws e Second
second_laws e trusted = record {
  moved = λ w lent steps asked index h aimed. second_moved e w lent steps asked h aimed index;
  struck = λ now small told w words steps asked n y nothing h aimed s. struck_acts e trusted now w words steps asked n y nothing h aimed s;
  honest_on = λ now small told w words asked nothing right is s. honest_acts e trusted now w words asked nothing right s is;
}
