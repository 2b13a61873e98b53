-- The laws of the restoration under one strike.
use Rattle.std.proofs.Common.{◌≡◌, ◌≢◌, ◌⊎◌, inl, inr, ℕ, zero, suc, ◌+◌, ◌-◌, ◌<◌, ◌≤◌, Bool, true, false, List, [], ◌∷◌, length, take, slice_get, slice_set, Option, Some, None, ap, sym, ◌∙◌, arith, refl, subst}
use Rattle.std.specs.Prelude.{if◌then◌else◌, nat_lt}
use Rattle.std.proofs.lemmas.Bool.{ltb-true, ltb-false}
use Rattle.std.proofs.lemmas.Option.{same_Some}
use Rattle.sei_code.specs.Kept.{Kept}
use Rattle.sei_log.specs.Changes.{undone, applied, Stands, IsDistinct}
use Rattle.sei_log.specs.declared.log.Change.{Change}
use Rattle.sei_log.proofs.Public.{get_set_same, get_set_other, set_same, undone_push, take_stands, take_whole, same_within, equal_or, lt_or}
use Rattle.sei_gate.specs.Closing.{risen}
use Rattle.sei_fault.specs.declared.cause.AbortCause.{AbortCause}
use Rattle.sei_fault.specs.declared.cause.AbortCause.TheVariants.{Gate}
use Rattle.sei_fault.specs.declared.place.Phase.{Phase}
use Rattle.sei_fault.specs.declared.place.Phase.TheVariants.{Restore, Second}
use Rattle.sei_fault.specs.declared.place.Place.{Place}
use Rattle.sei_fault.specs.Phases.{phase_number}
use Rattle.sei_fault.specs.Tree.{Always, honest, bound}
use Rattle.sei_fault.specs.Weights.{weighed}
use Rattle.sei_fault.proofs.Public.{always_struck}
use Rattle.sei_restore.specs.Undoing.{undo_word, undo_at, restored}
use Rattle.sei_stmt.specs.Machine.{Machine, After, at_outcome}
use Rattle.sei_stmt.specs.Machine.Outcome.{Next}
use Rattle.sei_stmt.specs.Sound.{RisesFrom}
use Rattle.sei_stmt.proofs.Public.{Keeps, keeps}
use Rattle.sei_pass.specs.State.{PassState, new_pass}
use Rattle.sei_pass.specs.Steps.{machine_of}
use Rattle.sei_traverse.specs.declared.turned.Want.{Want}
use Rattle.sei_traverse.specs.declared.turned.Want.TheVariants.{Nothing}
use Rattle.sei_traverse.specs.declared.workspace.Ending.{Ending}
use Rattle.sei_traverse.specs.declared.workspace.Ending.TheVariants.{Leads, Aborts}
use Rattle.sei_traverse.specs.declared.workspace.Workspace.{Workspace}
use Rattle.sei_traverse.specs.Acts.{Acted, acted, ends, at, closed_to, closes}
use Rattle.sei_traverse.specs.Comes.{at_time}
use Rattle.sei_traverse.specs.CallContext.{CallContext, first_setting, first_start, Whole}
use Rattle.sei_traverse.specs.FaultInvariant.{Wanted}
use Rattle.sei_traverse.proofs.ClosesNext.ClosesNext.{Stays, Closes}
use Rattle.sei_traverse.specs.Phases.{undone_to, restore_tree, closing_want}
use Rattle.sei_traverse.specs.Struck.{IsNoted, IsAimed, WasHonest, WasMisread, pending, OnLent, RestoreStruck, SecondStruck, ComesOn}
use Rattle.sei_traverse.specs.Struck.RestoreStruck.{Restorable, Misread, Damaged}
use Rattle.sei_traverse.specs.Struck.SecondStruck.{Good, Misread as MisreadOn, Damaged as DamagedOn}
use Rattle.sei_traverse.specs.Trusted.{IsTrusted}
use Rattle.sei_traverse.specs.Unstruck.{SecondIsNew, InRestore}
use Rattle.sei_traverse.proofs.Closes.{closed, closes_in_step}
use Rattle.sei_traverse.proofs.PhaseLaws.{lent_in, LeadsWell, EndsRight, ActsWell, PhaseLaws}
use Rattle.sei_traverse.proofs.PhaseLaws.LeadsWell.{Onward}
use Rattle.sei_traverse.proofs.SmallNotes.{small_whole}

-- An act by its end.

module _ (e : CallContext) (phase : Phase) (w : Workspace) (words : List ℕ) (asked : ℕ) where
  -- where no phase is closed, only the end is to be shown
  pub acts_well : (ending : Ending) → w.want ≡ Nothing → w.gate.done ≡ phase_number phase → EndsRight e phase w words asked ending → ActsWell e phase asked (acted w words ending)
  acts_well ending nothing gate right = record {
    wants = subst (λ (x : Want). Wanted e w (lent_in phase words) asked x) (sym nothing) tt;
    once = Stays gate nothing;
    ends = right;
  }

  module _ (to : Place) (wants : Nothing ≡ closing_want (closed w) phase) (next : risen w.gate.done ≡ phase_number phase + 1) (leads : LeadsWell e phase (closed w) words asked to) where
    -- where the phase is closed, and nothing is wanted then
    pub closed_acts : ActsWell e phase asked (acted (closed w) words (Leads to))
    closed_acts = record { wants = tt; once = Closes phase refl next wants; ends = leads }

    module _ (nothing : w.want ≡ Nothing) (gate : w.gate.done ≡ phase_number phase) where
      closed_well : (yes : Bool) →
          Always (ActsWell e phase asked) (closed_to w words (λ (v : Workspace). ends (record v { want = Nothing }) words (Leads to)) (yes, if yes then risen w.gate.done else w.gate.done))
      closed_well true = closed_acts
      closed_well false = acts_well (Aborts (Gate w.gate.done)) nothing gate tt

      -- whatever the closing test answers, the act leads on or aborts
      pub closes_well : Always (ActsWell e phase asked) (closes phase w words Nothing to)
      closes_well = λ yes. closed_well yes

-- Workspaces with the same first pass.

pub record IsLike (w v : Workspace) : Type 0 where
  pub wanted : v.wanted ≡ w.wanted
  pub first : v.first ≡ w.first
  pub first_log : v.first_log ≡ w.first_log
  pub notes : v.notes ≡ w.notes

pub moved_like : (w : Workspace) (to : Place) → IsLike w (record w { place = to })
moved_like w to = record { wanted = refl; first = refl; first_log = refl; notes = refl }

pub closed_like : (w : Workspace) (to : Place) → IsLike w (record (closed w) { place = to })
closed_like w to = record { wanted = refl; first = refl; first_log = refl; notes = refl }

module _ (e : CallContext) (w v : Workspace) (like : IsLike w v) where
  pub aimed_like : IsAimed e w → IsAimed e v
  aimed_like a = record { fit = a.fit; wanted = like.wanted ∙ a.wanted }

  -- later more questions were asked
  pub honest_like : (end : Machine) (asked more : ℕ) → asked ≤ more → WasHonest e w end asked → WasHonest e v end more
  honest_like end asked more le h = record {
    aimed = aimed_like h.aimed;
    time = h.time;
    made = h.made;
    whole = h.whole;
    first = record { first = like.first ∙ h.first.first; first_log = like.first_log ∙ h.first.first_log; notes = like.notes ∙ h.first.notes };
    questions = omega (arith, le, h.questions);
  }

  pub misread_like : (end : Machine) (asked more : ℕ) → asked ≤ more → WasMisread e w end asked → WasMisread e v end more
  misread_like end asked more le h = record {
    aimed = aimed_like h.aimed;
    time = h.time;
    made = h.made;
    whole = h.whole;
    first = like.first ∙ h.first;
    notes = like.notes ∙ h.notes;
    applies = ap (λ (l : Kept Change). applied l.items e.taken) like.first_log ∙ h.applies;
    questions = omega (arith, le, h.questions);
  }

-- A log whose addresses rise.

starts_above : (log : List Change) (lo place : ℕ) (c : Change) → RisesFrom lo log → Stands log place c → lo ≤ c.address
starts_above [] lo place c rises s = absurd (let z : ⊥ = cc in z)
starts_above (d ∷ ds) lo zero c (le, rises) s = subst (λ (x : Change). lo ≤ x.address) (same_Some d c s) le
starts_above (d ∷ ds) lo (suc place) c (le, rises) s = omega (arith, le, starts_above ds (d.address + 1) place c rises s)

rises_apart : (log : List Change) (lo : ℕ) → RisesFrom lo log → (p q : ℕ) (c d : Change) → Stands log p c → Stands log q d → c.address ≡ d.address → p ≡ q
rises_apart [] lo rises p q c d s t e = absurd (let z : ⊥ = cc in z)
rises_apart (x ∷ xs) lo (le, rises) zero zero c d s t e = refl
rises_apart (x ∷ xs) lo (le, rises) zero (suc q) c d s t e =
    let here : x.address ≡ c.address = ap (λ (y : Change). y.address) (same_Some x c s) in
    absurd (omega (arith, here, e, starts_above xs (x.address + 1) q d rises t))
rises_apart (x ∷ xs) lo (le, rises) (suc p) zero c d s t e =
    let here : x.address ≡ d.address = ap (λ (y : Change). y.address) (same_Some x d t) in
    absurd (omega (arith, here, e, starts_above xs (x.address + 1) p c rises s))
rises_apart (x ∷ xs) lo (le, rises) (suc p) (suc q) c d s t e = ap suc (rises_apart xs (x.address + 1) rises p q c d s t e)

-- no address stands in it twice
pub rises_distinct : (log : List Change) → RisesFrom 0 log → IsDistinct log
rises_distinct log rises = record { distinct = rises_apart log 0 rises }

-- so it is in the log of an honest first pass
pub honest_distinct : (e : CallContext) (w : Workspace) (end : Machine) (asked : ℕ) → WasHonest e w end asked → IsDistinct w.first_log.items
honest_distinct e w end asked h =
    subst (λ (l : Kept Change). IsDistinct l.items) (sym h.first.first_log) (rises_distinct end.log.items h.whole.rising)

-- what a whole first pass keeps
pub whole_keeps : (e : CallContext) (time made : ℕ) (end : Machine) → Whole e time made end → Keeps e.taken end.log.items end.words
whole_keeps e time made end whole =
    subst (λ (x : After). Keeps e.taken x.machine.log.items x.machine.words) whole.run.halts (keeps (at_time (first_setting e) time) (first_start e) refl made)

pub stands_below : (log : List Change) (place : ℕ) (c : Change) → Stands log place c → place < length log
stands_below [] place c s = absurd (let z : ⊥ = cc in z)
stands_below (x ∷ xs) zero c s = omega arith
stands_below (x ∷ xs) (suc place) c s = omega (arith, stands_below xs place c s)

pub stands_some : (log : List Change) (place : ℕ) → place < length log → (c : Change) × Stands log place c
stands_some [] place h = absurd (omega (arith, h))
stands_some (x ∷ xs) zero h = (x, refl)
stands_some (x ∷ xs) (suc place) h = stands_some xs place (omega (arith, h))

-- Words while a log is undone.

-- so many changes, the first ones, are still to be undone; the words of the others are back
pub record Undoing (taken : List ℕ) (log : List Change) (words : List ℕ) (left : ℕ) : Type 0 where
  pub undo : undone (take left log) words ≡ taken
  pub waits : (p : ℕ) (c : Change) → Stands log p c → p < left → slice_get words c.address ≡ Some c.becomes
  pub passed : (p : ℕ) (c : Change) → Stands log p c → left ≤ p → slice_get words c.address ≡ Some c.was

-- undoing the last one that is left
undone_one : (log : List Change) (taken words : List ℕ) (k : ℕ) (c : Change) → Stands log k c → undone (take (suc k) log) words ≡ taken →
    undone (take k log) (slice_set words c.address c.was) ≡ taken
undone_one log taken words k c here u =
    sym (undone_push (take k log) c words) ∙ ap (λ (l : List Change). undone l words) (sym (take_stands log k c here)) ∙ u

-- where what stands at the places behind is back already, undoing that too makes no difference
undo_more : (log : List Change) (words : List ℕ) (n k : ℕ) → k + n ≤ length log →
    ((p : ℕ) (c : Change) → Stands log p c → n ≤ p → slice_get words c.address ≡ Some c.was) →
    undone (take (k + n) log) words ≡ undone (take n log) words
undo_more log words n zero h back = ap (λ (i : ℕ). undone (take i log) words) (let e : 0 + n ≡ n = omega arith in e)
undo_more log words n (suc k) h back =
    let c = stands_some log (k + n) (omega (arith, h)) in
    let one : suc k + n ≡ suc (k + n) = omega arith in
    ap (λ (i : ℕ). undone (take i log) words) one
    ∙ ap (λ (l : List Change). undone l words) (take_stands log (k + n) c.0 c.1)
    ∙ undone_push (take (k + n) log) c.0 words
    ∙ ap (undone (take (k + n) log)) (set_same words c.0.address c.0.was (back (k + n) c.0 c.1 (omega arith)))
    ∙ undo_more log words n k (omega (arith, h)) back

module _ (taken : List ℕ) (log : List Change) (distinct : IsDistinct log) where
  module _ (words : List ℕ) (k : ℕ) (c : Change) (here : Stands log k c) (u : Undoing taken log words (suc k)) where
    -- the word at its address is back then, and so are those that were back before
    back_now : (p : ℕ) (d : Change) → Stands log p d → k ≤ p → (p ≡ k) ⊎ (p ≢ k) → slice_get (slice_set words c.address c.was) d.address ≡ Some d.was
    back_now p d s h (inl same) =
        let one : Some c ≡ Some d = sym here ∙ ap (slice_get log) (sym same) ∙ s in
        subst (λ (x : Change). slice_get (slice_set words c.address c.was) x.address ≡ Some x.was) (same_Some c d one)
        (get_set_same words c.address c.was c.becomes (u.waits k c here (omega arith)))
    back_now p d s h (inr other) =
        get_set_other words c.address d.address c.was (λ i. other (distinct.distinct p k d c s here i)) ∙ u.passed p d s (omega (arith, h, other))

    undo_down : Undoing taken log (slice_set words c.address c.was) k
    undo_down = record {
      undo = undone_one log taken words k c here u.undo;
      waits = λ p d s h.
          get_set_other words c.address d.address c.was (λ i. let same = distinct.distinct p k d c s here i in omega (arith, h, same))
          ∙ u.waits p d s (omega (arith, h));
      passed = λ p d s h. back_now p d s h (equal_or p k);
    }

    restored_one : (honest (undo_at words (slice_get log k))).words ≡ slice_set words c.address c.was
    restored_one =
        ap (λ (o : Option Change). (honest (undo_at words o)).words) here
        ∙ ap (λ (o : Option ℕ). (honest (undo_word words c.address c.was o)).words) (u.waits k c here (omega arith))

  -- the words behind n undone changes, from those at the end of an honest pass
  undone_so : (words : List ℕ) → Keeps taken log words → (n : ℕ) → n ≤ length log → Undoing taken log (restored log words n) (length log - n)
  undone_so words kept zero h =
      let all : length log ≡ length log - 0 = omega arith in
      subst (λ (m : ℕ). Undoing taken log words m) all (record {
        undo = ap (λ (l : List Change). undone l words) (take_whole log) ∙ kept.undo;
        waits = λ p c s below. kept.lasts p c s (λ q d later t i. let same = distinct.distinct p q c d s t i in omega (arith, later, same));
        passed = λ p c s past. absurd (omega (arith, past, stands_below log p c s));
      })
  undone_so words kept (suc n) h =
      let k = length log - 1 - n in
      let c = stands_some log k (omega (arith, h)) in
      let left : length log - n ≡ suc k = omega (arith, h) in
      let next : k ≡ length log - suc n = omega (arith, h) in
      let u : Undoing taken log (restored log words n) (suc k) = subst (λ (m : ℕ). Undoing taken log (restored log words n) m) left (undone_so words kept n (omega (arith, h))) in
      let down : Undoing taken log (restored log words (suc n)) k =
      subst (λ (x : List ℕ). Undoing taken log x k) (sym (restored_one (restored log words n) k c.0 c.1 u)) (undo_down (restored log words n) k c.0 c.1 u) in
      subst (λ (m : ℕ). Undoing taken log (restored log words (suc n)) m) next down

-- The clean case.

record RestoreInvariant (e : CallContext) (w : Workspace) (words : List ℕ) (asked : ℕ) : Type 0 where
  end : Machine
  was : WasHonest e w end asked
  undoing : Undoing e.taken w.first_log.items words (length w.first_log.items - w.place.index)
  real : (p : ℕ) (c : Change) → Stands w.first_log.items p c → c.was ≢ c.becomes

restore_invariant : (e : CallContext) (w : Workspace) (words : List ℕ) (steps asked : ℕ) → IsAimed e w → InRestore e w (Some words) steps asked → RestoreInvariant e w words asked
restore_invariant e w words steps asked aimed i =
    let kept : Keeps e.taken i.end.log.items i.end.words = whole_keeps e i.time i.made i.end i.whole in
    let from_end : Undoing e.taken i.end.log.items (restored i.end.log.items i.end.words w.place.index) (length i.end.log.items - w.place.index) =
    undone_so e.taken i.end.log.items (rises_distinct i.end.log.items i.whole.rising) i.end.words kept w.place.index i.index in
    let here : Undoing e.taken i.end.log.items words (length i.end.log.items - w.place.index) =
    subst (λ (x : List ℕ). Undoing e.taken i.end.log.items x (length i.end.log.items - w.place.index)) (sym (same_Some words _ i.words)) from_end in
    record {
      end = i.end;
      was = record {
        aimed = aimed;
        time = i.time;
        made = i.made;
        whole = i.whole;
        first = i.first;
        questions = omega (arith, i.questions);
      };
      undoing = subst (λ (l : Kept Change). Undoing e.taken l.items words (length l.items - w.place.index)) (sym i.first.first_log) here;
      real = subst (λ (l : Kept Change). (p : ℕ) (c : Change) → Stands l.items p c → c.was ≢ c.becomes) (sym i.first.first_log) kept.real;
    }

-- what was changed is not what was there before
not_back : (word : Option ℕ) (c : Change) → c.was ≢ c.becomes → word ≡ Some c.becomes → word ≢ Some c.was
not_back word c real is back = real (same_Some c.was c.becomes (sym back ∙ is))

-- what an honest first pass noted is small
small_was : (e : CallContext) (w : Workspace) (end : Machine) (asked : ℕ) → WasHonest e w end asked → IsNoted e w.notes.now
small_was e w end asked was = small_whole e was.time was.made end w.notes was.whole was.first.notes

-- A move to another place of the restoration.

module _ (e : CallContext) (w : Workspace) (words : List ℕ) (asked : ℕ) (f : RestoreInvariant e w words asked) (index : ℕ) where
  move_back : length w.first_log.items - w.place.index ≤ length w.first_log.items - index → RestoreStruck e (record w { place = at Restore index }) words asked
  move_back h =
      let left = length w.first_log.items - w.place.index in
      let more = length w.first_log.items - index - left in
      let all : length w.first_log.items - index ≡ more + left = omega (arith, h) in
      Restorable (small_was e w f.end asked f.was) (ap (λ (n : ℕ). undone (take n w.first_log.items) words) all
      ∙ undo_more w.first_log.items words left more (omega (arith, h)) f.undoing.passed
      ∙ f.undoing.undo)

  move_on : length w.first_log.items - index < length w.first_log.items - w.place.index → RestoreStruck e (record w { place = at Restore index }) words asked
  move_on h =
      let place = length w.first_log.items - (w.place.index + 1) in
      let c = stands_some w.first_log.items place (omega (arith, h)) in
      Damaged f.end (honest_like e w _ (moved_like w (at Restore index)) f.end asked asked (omega arith) f.was) place c.0 c.1 (omega (arith, h))
      (not_back (slice_get words c.0.address) c.0 (f.real place c.0 c.1) (f.undoing.waits place c.0 c.1 (omega (arith, h))))

  move_to : RestoreStruck e (record w { place = at Restore index }) words asked
  move_to = elim (lt_or (length w.first_log.items - index) (length w.first_log.items - w.place.index)) [
    | inl h ↦ move_on h
    | inr h ↦ move_back h
  ]

new_like : (e : CallContext) (w : Workspace) (to : Place) → SecondIsNew e w → SecondIsNew e (record w { place = to })
new_like e w to n = record { second = n.second; second_log = n.second_log }

restore_moved : (e : CallContext) (w : Workspace) (lent : Option (List ℕ)) (steps asked index : ℕ) → InRestore e w lent steps asked → IsAimed e w →
    (SecondIsNew e (record w { place = at Restore index })) × OnLent lent (λ words. RestoreStruck e (record w { place = at Restore index }) words asked)
restore_moved e w None steps asked index i aimed = absurd (let never : None ≡ Some _ = i.words in let z : ⊥ = cc in z)
restore_moved e w (Some words) steps asked index i aimed =
    (new_like e w (at Restore index) i.second, move_to e w words asked (restore_invariant e w words steps asked aimed i) index)

-- The undoing of one change.

-- whatever is answered, some word is written, or the act aborts
module _ (P : Acted → Type 0) (w : Workspace) (words : List ℕ) (index : ℕ) (c : Change)
    (wrote : (a v : ℕ) → P (acted w (slice_set words a v) (Leads (at Restore (index + 1))))) (aborts : (cause : AbortCause) → P (acted w words (Aborts cause))) where
  undo_found : (a was : ℕ) (o : Option ℕ) → Always P (bound (undo_word words a was o) (undone_to w index))
  undo_found a was None = aborts _
  undo_found a was (Some word) = λ v. wrote a v

  undo_always : Always P (bound (undo_at words (Some c)) (undone_to w index))
  undo_always = λ a was. undo_found a was (slice_get words a)

-- without a strike, the old word is written at the address
module _ (P : Acted → Type 0) (w : Workspace) (words : List ℕ) (index : ℕ) (c : Change)
    (wrote : P (acted w (slice_set words c.address c.was) (Leads (at Restore (index + 1))))) (aborts : (cause : AbortCause) → P (acted w words (Aborts cause))) where
  honest_found : (o : Option ℕ) → P (honest (bound (undo_word words c.address c.was o) (undone_to w index)))
  honest_found None = aborts _
  honest_found (Some word) = wrote

  undo_honest : P (honest (bound (undo_at words (Some c)) (undone_to w index)))
  undo_honest = honest_found (slice_get words c.address)

-- the change at the place that is next
module _ (e : CallContext) (w : Workspace) (words : List ℕ) (asked more : ℕ) (le : asked ≤ more) (k : ℕ) (c : Change) (here : Stands w.first_log.items k c) (last : length w.first_log.items - w.place.index ≡ suc k) where
  abbrev next : Workspace
  next = record w { place = at Restore (w.place.index + 1) }

  next_left : length w.first_log.items - (w.place.index + 1) ≡ k
  next_left = omega (arith, last)

  undo_next : undone (pending w) words ≡ e.taken → undone (pending next) (slice_set words c.address c.was) ≡ e.taken
  undo_next u =
      ap (λ (n : ℕ). undone (take n w.first_log.items) (slice_set words c.address c.was)) next_left
      ∙ undone_one w.first_log.items e.taken words k c here (ap (λ (n : ℕ). undone (take n w.first_log.items) words) (sym last) ∙ u)

  honest_next : RestoreStruck e w words asked → RestoreStruck e next (slice_set words c.address c.was) more
  honest_next (Restorable small u) = Restorable small (undo_next u)
  honest_next (Misread end was off) =
      Misread end (misread_like e w next (moved_like w (at Restore (w.place.index + 1))) end asked more le was) (same_within w.first_log.items k c words e.taken c.was here off)
  honest_next (Damaged end was place d s past other) =
      let distinct = honest_distinct e w end asked was in
      Damaged end (honest_like e w next (moved_like w (at Restore (w.place.index + 1))) end asked more le was) place d s (omega (arith, past))
      (λ back. other (sym (get_set_other words c.address d.address c.was
      (λ i. let same = distinct.distinct place k d c s here i in omega (arith, same, past, last))) ∙ back))

  module _ (f : RestoreInvariant e w words asked) where
    damaged : (a v : ℕ) → slice_get (slice_set words a v) c.address ≢ Some c.was → RestoreStruck e next (slice_set words a v) more
    damaged a v other =
        Damaged f.end (honest_like e w next (moved_like w (at Restore (w.place.index + 1))) f.end asked more le f.was) k c here (omega (arith, next_left)) other

    there : slice_get words c.address ≡ Some c.becomes
    there = f.undoing.waits k c here (omega (arith, last))

    -- some word was written at some address
    wrote_some : (a v : ℕ) → (a ≡ c.address) ⊎ (a ≢ c.address) → (v ≡ c.was) ⊎ (v ≢ c.was) → RestoreStruck e next (slice_set words a v) more
    wrote_some a v (inl i) (inl j) =
        Restorable (small_was e w f.end asked f.was) (ap (λ (x : ℕ). undone (pending next) (slice_set words x v)) i
        ∙ ap (λ (x : ℕ). undone (pending next) (slice_set words c.address x)) j
        ∙ undo_next f.undoing.undo)
    wrote_some a v (inl i) (inr j) =
        let written : slice_get (slice_set words a v) c.address ≡ Some v =
        ap (λ (x : ℕ). slice_get (slice_set words x v) c.address) i ∙ get_set_same words c.address v c.becomes there in
        damaged a v (λ back. j (same_Some v c.was (sym written ∙ back)))
    wrote_some a v (inr i) j =
        let untouched : slice_get (slice_set words a v) c.address ≡ Some c.becomes = get_set_other words a c.address v (λ y. i (sym y)) ∙ there in
        damaged a v (not_back _ c (f.real k c here) untouched)

-- Into the second pass.

module _ (e : CallContext) (w : Workspace) (words : List ℕ) (asked more : ℕ) (le : asked ≤ more) (new : SecondIsNew e w) (all : length w.first_log.items ≤ w.place.index) where
  abbrev begun : Workspace
  begun = record (closed w) { place = at Second 0 }

  -- the second pass begins on the words that are there
  begins_on : ComesOn e begun words words (Next 0) 0
  begins_on =
      sym (ap (λ (p : PassState). at_outcome (machine_of p words w.second_log w.notes) (Next 0)) new.second
      ∙ ap (λ (l : Kept Change). at_outcome (machine_of (new_pass e.space) words l w.notes) (Next 0)) new.second_log)

  none_pending : undone (pending w) words ≡ e.taken → words ≡ e.taken
  none_pending u =
      let none : 0 ≡ length w.first_log.items - w.place.index = omega (arith, all) in
      ap (λ (n : ℕ). undone (take n w.first_log.items) words) none ∙ u

  into_second : RestoreStruck e w words asked → SecondStruck e begun words (Next 0) more
  into_second (Restorable small u) = Good small 0 (subst (λ (found : List ℕ). ComesOn e begun found words (Next 0) 0) (none_pending u) begins_on) (omega arith)
  into_second (Misread end was off) = MisreadOn end (misread_like e w begun (closed_like w (at Second 0)) end asked more le was) words off 0 begins_on
  into_second (Damaged end was place c s past other) =
      DamagedOn end (honest_like e w begun (closed_like w (at Second 0)) end asked more le was) place c s words other 0 begins_on

-- The act.

module _ (e : CallContext) (w : Workspace) (words : List ℕ) (asked more : ℕ) (le : asked ≤ more) (nothing : w.want ≡ Nothing) (gate : w.gate.done ≡ phase_number Restore) (new : SecondIsNew e w) where
  aborts_well : (cause : AbortCause) → ActsWell e Restore more (acted w words (Aborts cause))
  aborts_well cause = acts_well e Restore w words more (Aborts cause) nothing gate tt

  goes_well : (left : List ℕ) → RestoreStruck e (record w { place = at Restore (w.place.index + 1) }) left more →
      ActsWell e Restore more (acted w left (Leads (at Restore (w.place.index + 1))))
  goes_well left r = acts_well e Restore w left more (Leads (at Restore (w.place.index + 1))) nothing gate (Onward gate (new_like e w (at Restore (w.place.index + 1)) new, r))

  second_well : length w.first_log.items ≤ w.place.index → RestoreStruck e w words asked → LeadsWell e Restore (closed w) words more (at Second 0)
  second_well all r = Onward (ap risen gate) (into_second e w words asked more le new all r)

  abbrev undoes_at : ℕ
  undoes_at = length w.first_log.items - 1 - w.place.index

  -- under a strike
  struck_act : RestoreInvariant e w words asked → (b : Bool) → nat_lt w.place.index (length w.first_log.items) ≡ b →
      Always (ActsWell e Restore more) (if b then bound (undo_at words (slice_get w.first_log.items undoes_at)) (undone_to w w.place.index) else closes Restore w words Nothing (at Second 0))
  struck_act f true h =
      let below = ltb-true w.place.index (length w.first_log.items) h in
      let c = stands_some w.first_log.items undoes_at (omega (arith, below)) in
      subst (λ (o : Option Change). Always (ActsWell e Restore more) (bound (undo_at words o) (undone_to w w.place.index))) (sym c.1)
      (undo_always (ActsWell e Restore more) w words w.place.index c.0
      (λ a v. goes_well (slice_set words a v) (wrote_some e w words asked more le undoes_at c.0 c.1 (omega (arith, below)) f a v (equal_or a c.0.address) (equal_or v c.0.was)))
      aborts_well)
  struck_act f false h =
      closes_well e Restore w words more (at Second 0) refl (ap risen gate)
      (second_well (ltb-false w.place.index (length w.first_log.items) h) (Restorable (small_was e w f.end asked f.was) f.undoing.undo)) nothing gate

  -- without one
  honest_act : RestoreStruck e w words asked → (b : Bool) → nat_lt w.place.index (length w.first_log.items) ≡ b →
      ActsWell e Restore more (honest (if b then bound (undo_at words (slice_get w.first_log.items undoes_at)) (undone_to w w.place.index) else closes Restore w words Nothing (at Second 0)))
  honest_act r true h =
      let below = ltb-true w.place.index (length w.first_log.items) h in
      let c = stands_some w.first_log.items undoes_at (omega (arith, below)) in
      subst (λ (o : Option Change). ActsWell e Restore more (honest (bound (undo_at words o) (undone_to w w.place.index)))) (sym c.1)
      (undo_honest (ActsWell e Restore more) w words w.place.index c.0
      (goes_well (slice_set words c.0.address c.0.was) (honest_next e w words asked more le undoes_at c.0 c.1 (omega (arith, below)) r))
      aborts_well)
  honest_act r false h =
      subst (ActsWell e Restore more) (sym (closes_in_step Restore w words (at Second 0) gate))
      (closed_acts e Restore w words more (at Second 0) refl (ap risen gate) (second_well (ltb-false w.place.index (length w.first_log.items) h) r))

pub restore_laws : (e : CallContext) → IsTrusted e → PhaseLaws e Restore
restore_laws e trusted = record {
  moved = λ w lent steps asked index clean knows. restore_moved e w lent steps asked index clean knows;
  struck = λ now small told w words steps asked n y nothing clean knows run.
      always_struck (ActsWell e Restore (asked + n)) (restore_tree w.place.index w words) y n
      (struck_act e w words asked (asked + n) (omega arith) nothing clean.is.gate clean.second (restore_invariant e w words steps asked knows clean)
      (nat_lt w.place.index (length w.first_log.items)) refl) run;
  honest_on = λ now small told w words asked nothing gate sealed stands.
      honest_act e w words asked (asked + weighed (restore_tree w.place.index w words)) (omega arith) nothing gate stands.0 stands.1
      (nat_lt w.place.index (length w.first_log.items)) refl;
}
