-- A second pass that halts has read its notes, and is the one by the numbers that they tell.
use Rattle.std.proofs.Common.{◌≡◌, ℕ, zero, suc, ◌<◌, ◌⊎◌, inl, inr, Bool, true, false, Option, Some, None, ap, sym, ◌∙◌, arith, refl, subst}
use Rattle.std.specs.Prelude.{if◌then◌else◌, ◌==◌, nat_lt, slice_get}
use Rattle.std.proofs.lemmas.Bool.{eqb-true, ltb-true, and_parts}
use Rattle.sei_code.specs.Coded.{sealed, read_of, complement}
use Rattle.sei_code.specs.declared.coded.Coded.{Coded}
use Rattle.sei_log.specs.declared.notes.Notes.{Notes}
use Rattle.sei_fault.specs.Tree.{honest}
use Rattle.sei_fault.specs.Weights.{weighed}
use Rattle.sei_stmt.specs.declared.stmt.Stmt.{Stmt}
use Rattle.sei_stmt.specs.declared.stmt.Stmt.TheVariants.{Input, Emit, Now, Alloc, Parse, Render, Halt}
use Rattle.sei_stmt.specs.Weights.{making, first_weighed, weighed_in}
use Rattle.sei_stmt.specs.Machine.{Machine, Setting, Outcome, After, register, one_made}
use Rattle.sei_stmt.specs.Machine.Outcome.{Next, Halted, Bad}
use Rattle.sei_stmt.specs.Passes.{notes_of}
use Rattle.sei_stmt.specs.Slots.{is_admissible}
use Rattle.sei_stmt.specs.Statements.{noted_value, noted_now, fit_if, noted_slot_value, noted_slot, statement_tree, count_if, found_tree, step_tree}
use Rattle.sei_stmt.specs.Honest.{after, onward, onward_from, HonestRun}
use Rattle.sei_stmt.specs.Order.{only, stage_behind, stage_behind_found, stage_onward, stage_after}
use Rattle.sei_stmt.proofs.Public.{halts_or_aborts, IsGoing}
use Rattle.sei_stmt.proofs.PublicStatementRuns.{by_statements}
use Rattle.sei_traverse.specs.Comes.{again, renoted, renoted_end}
use Rattle.sei_traverse.proofs.NoteLaws.{Kind, kind, read_sealed}
use Rattle.sei_traverse.proofs.NoteLaws.Kind.{Timing, Slotting, Plain}

-- what a note says

seal_from : (c : Coded) (v : ℕ) (b : Bool) → (c.check == complement c.value) ≡ b → (if b then Some c.value else None) ≡ Some v → c ≡ sealed v
seal_from c v true is e =
    let same : c.value ≡ v = cc in
    let check : c.check ≡ complement v = eqb-true c.check (complement c.value) is ∙ ap complement same in
    ap (λ (w : ℕ). let d : Coded = record { value = w; check = c.check } in d) same ∙ ap (λ (k : ℕ). let d : Coded = record { value = v; check = k } in d) check
seal_from c v false is e = absurd cc

-- a note that reads is the seal of what it reads
pub seal_of : (c : Coded) (v : ℕ) → read_of c ≡ Some v → c ≡ sealed v
seal_of c v e = seal_from c v (c.check == complement c.value) refl e

-- where the note reads, it says this
abbrev pub Says : Option Coded → ℕ → Type 0
Says noted said = (c : Coded) (v : ℕ) → noted ≡ Some c → read_of c ≡ Some v → v ≡ said

-- there is none, or it does not read
abbrev pub SaysNothing : Option Coded → Type 0
SaysNothing noted = (c : Coded) (v : ℕ) → noted ≡ Some c → read_of c ≡ Some v → ⊥

none_reads : (o : Option ℕ) (v : ℕ) → o ≡ None → o ≡ Some v → ⊥
none_reads o v e f = cc

says_or_not : (c : Coded) (r : Option ℕ) → read_of c ≡ r → ((v : ℕ) × (Some c ≡ Some (sealed v))) ⊎ (SaysNothing (Some c))
says_or_not c None e = inr (λ d v same reads. let one : c ≡ d = cc in none_reads (read_of c) v e (ap read_of one ∙ reads))
says_or_not c (Some v) e = inl (v, ap (λ (d : Coded). let o : Option Coded = Some d in o) (seal_of c v e))

-- a note is the seal of a number, or says nothing
pub seal_or_nothing : (noted : Option Coded) → ((v : ℕ) × (noted ≡ Some (sealed v))) ⊎ (SaysNothing noted)
seal_or_nothing None = inr (λ c v same reads. cc)
seal_or_nothing (Some c) = says_or_not c (read_of c) refl

-- the seal of a number says it
pub seal_says : (noted : Option Coded) (v : ℕ) → noted ≡ Some (sealed v) → Says noted v
seal_says noted v is c w same reads =
    let one : c ≡ sealed v = cc in
    let both : Some w ≡ Some v = sym reads ∙ ap read_of one ∙ read_sealed v in
    let e : w ≡ v = cc in
    e

pub nothing_says : (noted : Option Coded) (v : ℕ) → SaysNothing noted → Says noted v
nothing_says noted v silent c w same reads = absurd (silent c w same reads)

-- each note says something
pub something_said : (noted : Option Coded) → (v : ℕ) × Says noted v
something_said noted = elim (seal_or_nothing noted) [
  | inl h ↦ (h.0, seal_says noted h.0 h.1)
  | inr silent ↦ (0, nothing_says noted 0 silent)
]

-- one statement by some notes, and by the notes of what they say

-- it ends the same but for the notes, which it leaves
pub record Alike (k : Notes) (m : Machine) (first second : After) : Type 0 where
  pub ended : second ≡ renoted_end k first
  pub left : first.machine.notes ≡ m.notes

time_read : (k : Notes) (i : ℕ) (m : Machine) (to time : ℕ) (r : Option ℕ) → ((v : ℕ) → r ≡ Some v → v ≡ time) → IsGoing (honest (noted_value i m to r)).outcome →
    Alike k m (honest (noted_value i m to r)) (honest (noted_value i (renoted k m) to (Some time)))
time_read k i m to time None says going = absurd going
time_read k i m to time (Some v) says going =
    subst (λ t. Alike k m (honest (noted_value i m to (Some t))) (honest (noted_value i (renoted k m) to (Some time)))) (sym (says v refl)) (record { ended = refl; left = refl })

time_noted : (k : Notes) (i : ℕ) (m : Machine) (to time : ℕ) (noted : Option Coded) → Says noted time → IsGoing (honest (noted_now i m to noted)).outcome →
    Alike k m (honest (noted_now i m to noted)) (honest (noted_now i (renoted k m) to (Some (sealed time))))
time_noted k i m to time None says going = absurd going
time_noted k i m to time (Some c) says going =
    subst (λ r. Alike k m (honest (noted_value i m to (read_of c))) (honest (noted_value i (renoted k m) to r))) (sym (read_sealed time))
    (time_read k i m to time (read_of c) (λ v e. says c v refl e) going)

slot_tested : (k : Notes) (i : ℕ) (m : Machine) (to slot : ℕ) (fit : Bool) →
    Alike k m (honest (fit_if fit i m to slot))
    (honest (fit_if fit i (renoted k m) to slot))
slot_tested k i m to slot true = record { ended = refl; left = refl }
slot_tested k i m to slot false = record { ended = refl; left = refl }

slot_read : (g : Setting) (k : Notes) (i : ℕ) (m : Machine) (to moment slot : ℕ) (r : Option ℕ) → ((v : ℕ) → r ≡ Some v → v ≡ slot) → IsGoing (honest (noted_slot_value g i m to moment r)).outcome →
    Alike k m (honest (noted_slot_value g i m to moment r)) (honest (noted_slot_value g i (renoted k m) to moment (Some slot)))
slot_read g k i m to moment slot None says going = absurd going
slot_read g k i m to moment slot (Some v) says going =
    subst (λ t. Alike k m (honest (noted_slot_value g i m to moment (Some t))) (honest (noted_slot_value g i (renoted k m) to moment (Some slot)))) (sym (says v refl))
    (slot_tested k i m to slot (is_admissible g m.words moment slot))

slot_noted : (g : Setting) (k : Notes) (i : ℕ) (m : Machine) (to moment slot : ℕ) (noted : Option Coded) → Says noted slot → IsGoing (honest (noted_slot g i m to moment noted)).outcome →
    Alike k m (honest (noted_slot g i m to moment noted)) (honest (noted_slot g i (renoted k m) to moment (Some (sealed slot))))
slot_noted g k i m to moment slot None says going = absurd going
slot_noted g k i m to moment slot (Some c) says going =
    subst (λ r. Alike k m (honest (noted_slot_value g i m to moment (read_of c))) (honest (noted_slot_value g i (renoted k m) to moment r))) (sym (read_sealed slot))
    (slot_read g k i m to moment slot (read_of c) (λ v e. says c v refl e) going)

module _ (g : Setting) (time slot : ℕ) where
  -- a statement of the second pass, unless it aborts
  alike_kind : (i : ℕ) (m : Machine) (s : Stmt) → Says m.notes.now time → Says m.notes.slot slot → Kind (again g) (notes_of time slot) i m s →
      IsGoing (honest (statement_tree (again g) i m s)).outcome →
      Alike (notes_of time slot) m (honest (statement_tree (again g) i m s)) (honest (statement_tree (again g) i (renoted (notes_of time slot) m) s))
  alike_kind i m s now free (Timing to is) going =
      subst (λ s. IsGoing (honest (statement_tree (again g) i m s)).outcome →
      Alike (notes_of time slot) m (honest (statement_tree (again g) i m s)) (honest (statement_tree (again g) i (renoted (notes_of time slot) m) s)))
      (sym is) (λ h. time_noted (notes_of time slot) i m to time m.notes.now now h) going
  alike_kind i m s now free (Slotting to moment is) going =
      subst (λ s. IsGoing (honest (statement_tree (again g) i m s)).outcome →
      Alike (notes_of time slot) m (honest (statement_tree (again g) i m s)) (honest (statement_tree (again g) i (renoted (notes_of time slot) m) s)))
      (sym is) (λ h. slot_noted (again g) (notes_of time slot) i m to (register m moment) slot m.notes.slot free h) going
  alike_kind i m s now free (Plain r) going = record { ended = r.ended; left = r.left }

  alike_step : (i : ℕ) (m : Machine) → Says m.notes.now time → Says m.notes.slot slot → IsGoing (honest (step_tree (again g) i m)).outcome →
      Alike (notes_of time slot) m (honest (step_tree (again g) i m)) (honest (step_tree (again g) i (renoted (notes_of time slot) m)))
  alike_step i m now free =
      by_statements true g.now (λ log. log) (λ notes. notes_of time slot) (again g) i m (λ a b. IsGoing (honest a).outcome → Alike (notes_of time slot) m (honest a) (honest b)) (λ cause going. absurd going)
      (λ s is going. let r = alike_kind i (one_made m) s now free (kind (again g) (notes_of time slot) i (one_made m) s) going in record { ended = r.ended; left = r.left })

  alike_onward : (m : Machine) (o : Outcome) → Says m.notes.now time → Says m.notes.slot slot → IsGoing (onward_from (again g) m o).outcome →
      Alike (notes_of time slot) m (onward_from (again g) m o) (onward_from (again g) (renoted (notes_of time slot) m) o)
  alike_onward m (Next i) now free going = alike_step i m now free going
  alike_onward m Halted now free going = record { ended = refl; left = refl }
  alike_onward m (Bad cause) now free going = absurd going

  -- the run by some notes that aborts nowhere, and the run by the notes of what they say
  module _ (start : Machine) (notes : Notes) (now : Says notes.now time) (free : Says notes.slot slot) (going : (n : ℕ) → IsGoing (after (again g) (renoted notes start) n).outcome) where
    -- the notes stay, and but for them the two runs are one
    pub alike_run : (n : ℕ) → Alike (notes_of time slot) (renoted notes start) (after (again g) (renoted notes start) n) (after (again g) (renoted (notes_of time slot) start) n)
    alike_run zero = record { ended = refl; left = refl }
    alike_run (suc n) =
        let x : After = after (again g) (renoted notes start) n in
        let before = alike_run n in
        let one = alike_onward x.machine x.outcome (subst (λ (k : Notes). Says k.now time) (sym before.left) now) (subst (λ (k : Notes). Says k.slot slot) (sym before.left) free) (going (suc n)) in
        record { ended = ap (onward (again g)) before.ended ∙ one.ended; left = one.left ∙ before.left }

-- a run that halts aborts nowhere

going_by : (g : Setting) (start end : Machine) (steps n : ℕ) → HonestRun g start end steps → (o : Outcome) → (after g start n).outcome ≡ o → IsGoing o
going_by g start end steps n run (Next i) e = tt
going_by g start end steps n run Halted e = tt
going_by g start end steps n run (Bad cause) e =
    halts_or_aborts g start (after g start n).machine end cause n steps (ap (λ (o : Outcome). let x : After = record { machine = (after g start n).machine; outcome = o } in x) e) run.halts

pub halting_goes : (g : Setting) (start end : Machine) (steps : ℕ) → HonestRun g start end steps → (n : ℕ) → IsGoing (after g start n).outcome
halting_goes g start end steps run n = going_by g start end steps n run (after g start n).outcome refl

-- the questions of a first pass do not depend on notes

asked_kinds : (g : Setting) (k : Notes) (i : ℕ) (m : Machine) (s : Stmt) → Kind (making g) k i m s → Kind (making g) k i (renoted k m) s →
    weighed (statement_tree (making g) i m s) ≡ weighed (statement_tree (making g) i (renoted k m) s)
asked_kinds g k i m s (Timing to is) other = subst (λ s. weighed (statement_tree (making g) i m s) ≡ weighed (statement_tree (making g) i (renoted k m) s)) (sym is) refl
asked_kinds g k i m s (Slotting to moment is) other = subst (λ s. weighed (statement_tree (making g) i m s) ≡ weighed (statement_tree (making g) i (renoted k m) s)) (sym is) refl
asked_kinds g k i m s (Plain r) (Timing to is) = subst (λ s. weighed (statement_tree (making g) i m s) ≡ weighed (statement_tree (making g) i (renoted k m) s)) (sym is) refl
asked_kinds g k i m s (Plain r) (Slotting to moment is) = subst (λ s. weighed (statement_tree (making g) i m s) ≡ weighed (statement_tree (making g) i (renoted k m) s)) (sym is) refl
asked_kinds g k i m s (Plain r) (Plain q) = sym r.asked ∙ q.asked

asked_step : (g : Setting) (k : Notes) (i : ℕ) (m : Machine) → weighed (step_tree (making g) i m) ≡ weighed (step_tree (making g) i (renoted k m))
asked_step g k i m =
    by_statements false g.now (λ log. log) (λ notes. k) (making g) i m (λ a b. weighed a ≡ weighed b) (λ cause. refl)
    (λ s is. asked_kinds g k i (one_made m) s (kind (making g) k i _ s) (kind (making g) k i _ s))

asked_alike : (g : Setting) (k : Notes) (m : Machine) (o : Outcome) → weighed_in (making g) m o ≡ weighed_in (making g) (renoted k m) o
asked_alike g k m (Next i) = asked_step g k i m
asked_alike g k m Halted = refl
asked_alike g k m (Bad cause) = refl

-- two runs that are one but for their notes count the same questions of a first pass
pub alike_asked : (g : Setting) (k : Notes) (start other : Machine) → ((n : ℕ) → after g other n ≡ renoted_end k (after g start n)) → (n : ℕ) → first_weighed g start n ≡ first_weighed g other n
alike_asked g k start other same zero = refl
alike_asked g k start other same (suc n) =
    let x : After = after g start n in
    let one : weighed_in (making g) (after g other n).machine (after g other n).outcome ≡ weighed_in (making g) (renoted k x.machine) x.outcome =
    ap (λ (y : After). weighed_in (making g) y.machine y.outcome) (same n) in
    omega (arith, alike_asked g k start other same n, one, asked_alike g k x.machine x.outcome)

-- a pass that is finished has taken the time

now_value : (i : ℕ) (m : Machine) (to : ℕ) (r : Option ℕ) → ((v : ℕ) → r ≡ Some v → ⊥) → IsGoing (honest (noted_value i m to r)).outcome → ⊥
now_value i m to None silent going = going
now_value i m to (Some v) silent going = silent v refl

now_note : (i : ℕ) (m : Machine) (to : ℕ) (noted : Option Coded) → SaysNothing noted → IsGoing (honest (noted_now i m to noted)).outcome → ⊥
now_note i m to None silent going = going
now_note i m to (Some c) silent going = now_value i m to (read_of c) (λ v e. silent c v refl e) going

-- a second pass whose noted time says nothing aborts where it takes the time
now_counted : (g : Setting) (i : ℕ) (m : Machine) (to : ℕ) (enough : Bool) → SaysNothing m.notes.now →
    IsGoing (honest (count_if enough (again g) i m (Now to))).outcome → ⊥
now_counted g i m to true silent going = now_note i (one_made m) to m.notes.now silent going
now_counted g i m to false silent going = going

only_right : (b : Bool) (n s : ℕ) → only b n ≡ Some s → (b ≡ true) × (n ≡ s)
only_right true n s e = (refl, cc)
only_right false n s e = absurd cc

-- no statement but Now leads behind the stage of the call
untimed_behind : (stage next : ℕ) (s : Stmt) → stage < 2 → ((to : ℕ) → s ≡ Now to → ⊥) → stage_behind stage s ≡ Some next → next < 2
untimed_behind stage next (Input to index) lt never e = omega (arith, (only_right _ _ _ e).1, lt)
untimed_behind stage next (Emit from) lt never e = omega (arith, (only_right _ _ _ e).1, lt)
untimed_behind stage next (Now to) lt never e = absurd (never to refl)
untimed_behind stage next (Alloc to moment) lt never e = absurd (omega (arith, eqb-true stage 2 (only_right _ _ _ e).0, lt))
untimed_behind stage next Parse lt never e = omega (arith, (only_right _ _ _ e).1)
untimed_behind stage next Render lt never e = absurd (omega (arith, ltb-true 1 stage (and_parts _ _ (only_right _ _ _ e).0).0, lt))
untimed_behind stage next Halt lt never e = absurd (omega (arith, eqb-true stage 4 (only_right _ _ _ e).0, lt))
untimed_behind stage next s lt never e = let same : stage ≡ next = cc in omega (arith, same, lt)

untimed_found : (stage next : ℕ) (o : Option Stmt) → stage < 2 → ((to : ℕ) → o ≡ Some (Now to) → ⊥) → stage_behind_found stage o ≡ Some next → next < 2
untimed_found stage next None lt never e = absurd cc
untimed_found stage next (Some s) lt never e = untimed_behind stage next s lt (λ to is. never to (ap (λ (t : Stmt). let o : Option Stmt = Some t in o) is)) e

untimed_onward : (g : Setting) (stage : Option ℕ) (next : ℕ) (o : Outcome) → ((s : ℕ) → stage ≡ Some s → s < 2) → ((i to : ℕ) → o ≡ Next i → slice_get g.statements i ≡ Some (Now to) → ⊥) →
    stage_onward g stage o ≡ Some next → next < 2
untimed_onward g None next o lt never e = absurd cc
untimed_onward g (Some s) next (Next i) lt never e = untimed_found s next (slice_get g.statements i) (lt s refl) (λ to is. never i to refl is) e
untimed_onward g (Some s) next Halted lt never e = let same : s ≡ next = cc in omega (arith, same, lt s refl)
untimed_onward g (Some s) next (Bad cause) lt never e = absurd cc

-- a run that never takes the time does not come behind the stage of the call
pub untimed_stage : (g : Setting) (start : Machine) → ((n i to : ℕ) → (after g start n).outcome ≡ Next i → slice_get g.statements i ≡ Some (Now to) → ⊥) →
    (n stage : ℕ) → stage_after g start n ≡ Some stage → stage < 2
untimed_stage g start never zero stage e = let same : 0 ≡ stage = cc in omega (arith, same)
untimed_stage g start never (suc n) stage e = untimed_onward g (stage_after g start n) stage (after g start n).outcome (λ s is. untimed_stage g start never n s is) (λ i to next is. never n i to next is) e

-- a second pass whose noted time says nothing, and that aborts nowhere, takes no time
now_onward : (g : Setting) (m : Machine) (o : Outcome) (i to : ℕ) → SaysNothing m.notes.now → o ≡ Next i → slice_get g.statements i ≡ Some (Now to) → IsGoing (onward_from (again g) m o).outcome → ⊥
now_onward g m o i to silent next is going =
    now_counted g i m to (nat_lt m.made g.budget) silent
    (subst (λ (f : Option Stmt). IsGoing (honest (found_tree (again g) i m f)).outcome) is (subst (λ (p : Outcome). IsGoing (onward_from (again g) m p).outcome) next going))

pub untimed_run : (g : Setting) (start : Machine) (notes : Notes) → SaysNothing notes.now → ((n : ℕ) → IsGoing (after (again g) (renoted notes start) n).outcome) →
    ((n : ℕ) → (after (again g) (renoted notes start) n).machine.notes ≡ notes) →
    (n i to : ℕ) → (after (again g) (renoted notes start) n).outcome ≡ Next i → slice_get g.statements i ≡ Some (Now to) → ⊥
untimed_run g start notes silent going left n i to next is =
    let x : After = after (again g) (renoted notes start) n in
    now_onward g x.machine x.outcome i to (subst (λ (k : Notes). SaysNothing k.now) (sym (left n)) silent) next is (going (suc n))
