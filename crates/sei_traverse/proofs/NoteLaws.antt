-- The second pass repeats the first by its notes.
use Rattle.std.proofs.Common.{◌≡◌, inl, inr, ℕ, zero, suc, ◌+◌, ◌-◌, ◌<◌, ◌≤◌, Bool, true, false, Option, Some, None, ap, sym, ◌∙◌, arith, refl, subst}
use Rattle.std.specs.Prelude.{slice_get}
use Rattle.std.proofs.lemmas.Bool.{eq-eqb, eqb-true, ltb-true, and_parts}
use Rattle.sei_code.specs.Coded.{sealed, read_of, complement}
use Rattle.sei_code.specs.declared.coded.Coded.{Coded}
use Rattle.sei_log.specs.declared.notes.Notes.{Notes}
use Rattle.sei_fault.specs.Tree.{Tree, honest, Always}
use Rattle.sei_fault.specs.Weights.{weighed}
use Rattle.sei_fault.specs.Tree.Tree.{Ask}
use Rattle.sei_fault.specs.Question.Question.{Value, Test}
use Rattle.sei_fault.proofs.Public.{always_honest}
use Rattle.sei_stmt.specs.declared.stmt.Stmt.{Stmt}
use Rattle.sei_stmt.specs.declared.stmt.Stmt.TheVariants.{Input, Emit, Now, Alloc, Parse, Render, Halt}
use Rattle.sei_stmt.specs.Machine.{Machine, Setting, Outcome, After, register, time_noted, slot_noted, one_made, assign}
use Rattle.sei_stmt.specs.Machine.Outcome.{Next, Halted, Bad}
use Rattle.sei_stmt.specs.Statements.{noted_value, noted_now, told_now, now_by, now_tree, fit_if, noted_slot_value, noted_slot, lowest_slot, alloc_by, alloc_tree, statement_tree, step_tree}
use Rattle.sei_stmt.specs.Slots.{lowest_free, is_admissible}
use Rattle.sei_stmt.specs.Honest.{after, onward, onward_from, HonestRun}
use Rattle.sei_stmt.specs.Weights.{weighed_in, weighed_after}
use Rattle.sei_stmt.specs.Order.{timed, slotted, finished, only, stage_behind, stage_behind_found, stage_onward, stage_after}
use Rattle.sei_stmt.proofs.Public.{lowest_admissible}
use Rattle.sei_stmt.proofs.PublicStatementEnds.{IsNow, now_or_not, statement_keeps, by_statement}
use Rattle.sei_stmt.proofs.PublicStatementRuns.{looks, Repeats, plain_repeats, store_repeats, by_statements}
use Rattle.sei_stmt.proofs.PublicStatementRuns.Looks.{Stores, Times, Slots, Neither}
use Rattle.sei_traverse.specs.Comes.{again, renoted, renoted_end}
use Rattle.sei_traverse.specs.CallContext.{no_notes}

-- one statement in both passes

-- a statement takes the time, or a slot, or is the same in both passes: it leaves the notes
pub data Kind (g : Setting) (k : Notes) (i : ℕ) (m : Machine) (s : Stmt) : Type 0 where
  Timing : (to : ℕ) → s ≡ Now to → Kind g k i m s
  Slotting : (to moment : ℕ) → s ≡ Alloc to moment → Kind g k i m s
  Plain : Repeats (renoted k) m.notes (statement_tree g i m s) (statement_tree (again g) i (renoted k m) s) → Kind g k i m s

pub kind : (g : Setting) (k : Notes) (i : ℕ) (m : Machine) (s : Stmt) → Kind g k i m s
kind g k i m s = elim (looks s) [
  | Stores address from is ↦
      Plain (subst (λ (x : Stmt). Repeats (renoted k) m.notes (statement_tree g i m x) (statement_tree (again g) i (renoted k m) x)) (sym is) (store_repeats k i m address from))
  | Times to is ↦ Timing to is
  | Slots to moment is ↦ Slotting to moment is
  | Neither plain ↦ Plain (plain_repeats true g.now (λ log. log) (λ notes. k) g i m s plain)
]

-- the statements that note

-- the first pass takes the time of the clock
pub now_first : (g : Setting) (i : ℕ) (m : Machine) (to : ℕ) → g.reading ≡ false → now_tree g i m to ≡ told_now i m to g.now
now_first g i m to first = ap (λ b. now_by b g i m to) first

-- and the lowest free slot
alloc_first : (g : Setting) (i : ℕ) (m : Machine) (to moment : ℕ) → g.reading ≡ false →
    alloc_tree g i m to moment ≡ Ask (Value (register m moment)) (λ t. lowest_slot i m to (lowest_free g m.words t))
alloc_first g i m to moment first = ap (λ b. Ask (Value (register m moment)) (λ t. alloc_by b g i m to t)) first

-- a statement that is no Now, or that reads the noted time, leaves it

-- the noted time stands as in the machine
abbrev pub Leaves : Machine → Machine → Type 0
Leaves m y = y.notes.now ≡ m.notes.now

pub leaves : (g : Setting) (i : ℕ) (m : Machine) (s : Stmt) → (IsNow s → g.reading ≡ false → ⊥) → Always (λ (x : After). Leaves m x.machine) (statement_tree g i m s)
leaves g i m s other = statement_keeps g s (Leaves m) (record {
  assigned = λ y to w h. h;
  logged = λ is y a was w entry e r h. h;
  emits = λ y w r h. h;
  timed = λ is r. absurd (other is r);
  slotted = λ is r y note h. h;
  filled = λ y h. h;
  first = λ y word w words e h. h;
  coded = λ is y code h. h;
  emptied = λ is y h. h;
  rendered = λ is y byte bytes small fits h. h;
}) i m refl

-- a step that doesn't ask for the time leaves the noted one
pub now_kept : (g : Setting) (i : ℕ) (m : Machine) → ((to : ℕ) → slice_get g.statements i ≡ Some (Now to) → ⊥) → (honest (step_tree g i m)).machine.notes.now ≡ m.notes.now
now_kept g i m other = by_statement g i m (λ t. (honest t).machine.notes.now ≡ m.notes.now) (λ cause. refl) (λ s is b. elim (now_or_not s) [
  | inl (to, now) ↦ absurd (other to (is ∙ ap Some now))
  | inr never ↦ always_honest (λ (x : After). x.machine.notes.now ≡ m.notes.now) (statement_tree g i (one_made m) s) (leaves g i (one_made m) s (λ is r. never is))
])

pub read_sealed : (v : ℕ) → read_of (sealed v) ≡ Some v
read_sealed v = simp (eq-eqb (complement v) (complement v) refl)

-- these notes have each note of those
pub record Has (notes those : Notes) : Type 0 where
  pub now : (c : Coded) → those.now ≡ Some c → notes.now ≡ Some c
  pub slot : (c : Coded) → those.slot ≡ Some c → notes.slot ≡ Some c

has_same : (notes those : Notes) → notes ≡ those → Has notes those
has_same notes those e = record { now = λ c h. ap (λ (n : Notes). n.now) e ∙ h; slot = λ c h. ap (λ (n : Notes). n.slot) e ∙ h }

has_more : (a b c : Notes) → Has a b → Has b c → Has a c
has_more a b c h k = record { now = λ n e. h.now n (k.now n e); slot = λ n e. h.slot n (k.slot n e) }

-- the step of the second pass ends honestly as that of the first, but for the notes, and asks no fewer questions
record Follows (notes : Notes) (first second : Tree After) : Type 0 where
  ended : honest second ≡ renoted_end notes (honest first)
  asked : weighed first ≤ weighed second

follows_now : (g : Setting) (k : Notes) (i : ℕ) (m : Machine) (to : ℕ) → g.reading ≡ false → Has k (honest (now_tree g i m to)).machine.notes →
    Follows k (now_tree g i m to) (now_tree (again g) i (renoted k m) to)
follows_now g k i m to first has =
    let one : now_tree g i m to ≡ told_now i m to g.now = now_first g i m to first in
    let noted : k.now ≡ Some (sealed g.now) = has.now (sealed g.now) (ap (λ (t : Tree After). (honest t).machine.notes.now) one) in
    let two : now_tree (again g) i (renoted k m) to ≡ Ask (Value g.now) (λ v. assign i (renoted k m) to v) =
    ap (λ o. noted_now i (renoted k m) to o) noted ∙ ap (λ o. noted_value i (renoted k m) to o) (read_sealed g.now) in
    let before : weighed (now_tree g i m to) ≡ 2 = ap (λ (t : Tree After). weighed t) one in
    let behind : weighed (now_tree (again g) i (renoted k m) to) ≡ 2 = ap (λ (t : Tree After). weighed t) two in
    record {
      ended = ap (λ (t : Tree After). honest t) two ∙ sym (ap (λ (t : Tree After). renoted_end k (honest t)) one);
      asked = omega (arith, before, behind);
    }

-- the noted slot is tested first
follows_alloc : (g : Setting) (k : Notes) (i : ℕ) (m : Machine) (to moment : ℕ) → g.reading ≡ false → Has k (honest (alloc_tree g i m to moment)).machine.notes →
    Follows k (alloc_tree g i m to moment) (alloc_tree (again g) i (renoted k m) to moment)
follows_alloc g k i m to moment first has =
    let t : ℕ = register m moment in
    let slot : ℕ = lowest_free g m.words t in
    let one : alloc_tree g i m to moment ≡ Ask (Value (register m moment)) (λ t. lowest_slot i m to (lowest_free g m.words t)) = alloc_first g i m to moment first in
    let noted : k.slot ≡ Some (sealed slot) = has.slot (sealed slot) (ap (λ (t : Tree After). (honest t).machine.notes.slot) one) in
    let tested : noted_slot (again g) i (renoted k m) to t k.slot ≡ Ask (Test (is_admissible g m.words t slot)) (λ fit. fit_if fit i (renoted k m) to slot) =
    ap (λ o. noted_slot (again g) i (renoted k m) to t o) noted ∙ ap (λ o. noted_slot_value (again g) i (renoted k m) to t o) (read_sealed slot) in
    let two : noted_slot (again g) i (renoted k m) to t k.slot ≡ Ask (Test true) (λ fit. fit_if fit i (renoted k m) to slot) =
    tested ∙ ap (λ b. Ask (Test b) (λ fit. fit_if fit i (renoted k m) to slot)) (lowest_admissible g m.words t) in
    let before : weighed (alloc_tree g i m to moment) ≡ 3 = ap (λ (t : Tree After). weighed t) one in
    let behind : weighed (alloc_tree (again g) i (renoted k m) to moment) ≡ 4 = ap (λ (t : Tree After). 1 + weighed t) two in
    record {
      ended = ap (λ (t : Tree After). honest t) two ∙ sym (ap (λ (t : Tree After). renoted_end k (honest t)) one);
      asked = omega (arith, before, behind);
    }

follows_kind : (g : Setting) (k : Notes) (i : ℕ) (m : Machine) (s : Stmt) → g.reading ≡ false → Kind g k i m s → Has k (honest (statement_tree g i m s)).machine.notes →
    Follows k (statement_tree g i m s) (statement_tree (again g) i (renoted k m) s)
follows_kind g k i m s first (Timing to is) has =
    subst (λ s. Has k (honest (statement_tree g i m s)).machine.notes → Follows k (statement_tree g i m s) (statement_tree (again g) i (renoted k m) s)) (sym is) (follows_now g k i m to first) has
follows_kind g k i m s first (Slotting to moment is) has =
    subst (λ s. Has k (honest (statement_tree g i m s)).machine.notes → Follows k (statement_tree g i m s) (statement_tree (again g) i (renoted k m) s)) (sym is) (follows_alloc g k i m to moment first) has
follows_kind g k i m s first (Plain r) has = record { ended = r.ended; asked = omega (arith, r.asked) }

follows_step : (g : Setting) (k : Notes) (i : ℕ) (m : Machine) → g.reading ≡ false → Has k (honest (step_tree g i m)).machine.notes → Follows k (step_tree g i m) (step_tree (again g) i (renoted k m))
follows_step g k i m first =
    by_statements true g.now (λ log. log) (λ notes. k) g i m (λ t u. Has k (honest t).machine.notes → Follows k t u) (λ cause has. record { ended = refl; asked = omega arith })
    (λ s is has. follows_kind g k i (one_made m) s first (kind g k i (one_made m) s) has)

onward_follows : (g : Setting) (k : Notes) (m : Machine) (o : Outcome) → g.reading ≡ false → Has k (onward_from g m o).machine.notes →
    onward_from (again g) (renoted k m) o ≡ renoted_end k (onward_from g m o)
onward_follows g k m (Next i) first has = (follows_step g k i m first has).ended
onward_follows g k m Halted first has = refl
onward_follows g k m (Bad cause) first has = refl

asked_follows : (g : Setting) (k : Notes) (m : Machine) (o : Outcome) → g.reading ≡ false → Has k (onward_from g m o).machine.notes → weighed_in g m o ≤ weighed_in (again g) (renoted k m) o
asked_follows g k m (Next i) first has = (follows_step g k i m first has).asked
asked_follows g k m Halted first has = omega arith
asked_follows g k m (Bad cause) first has = omega arith

-- a note that was made stays

-- before the stage of a note nothing is noted
record Untold (stage : ℕ) (notes : Notes) : Type 0 where
  untimed : stage < timed → notes.now ≡ None
  unslotted : stage < slotted → notes.slot ≡ None

-- a stage that only comes so
pub only_so : (b : Bool) (n s : ℕ) → only b n ≡ Some s → (b ≡ true) × (n ≡ s)
only_so true n s e = (refl, cc)
only_so false n s e = absurd cc

-- one honest statement more keeps all that was noted, and notes nothing before its stage
record Noting (old new : Notes) (stage : ℕ) : Type 0 where
  kept : Has new old
  untold : Untold stage new

-- the stages rise
rising : (stage next : ℕ) (s : Stmt) → stage_behind stage s ≡ Some next → stage ≤ next
rising stage next (Input to index) e = omega (arith, (only_so _ _ _ e).1)
rising stage next (Emit from) e = omega (arith, (only_so _ _ _ e).1)
rising stage next (Now to) e = let h = only_so _ _ _ e in omega (arith, eqb-true stage 1 h.0, h.1)
rising stage next (Alloc to moment) e = let h = only_so _ _ _ e in omega (arith, eqb-true stage 2 h.0, h.1)
rising stage next Parse e = let h = only_so _ _ _ e in omega (arith, eqb-true stage 0 h.0, h.1)
rising stage next Render e = let h = only_so _ _ _ e in omega (arith, ltb-true stage 4 (and_parts _ _ h.0).1, h.1)
rising stage next Halt e = omega (arith, (only_so _ _ _ e).1, eqb-true stage 4 (only_so _ _ _ e).0)
rising stage next s e = let same : stage ≡ next = cc in omega (arith, same)

rising_found : (stage next : ℕ) (o : Option Stmt) → stage_behind_found stage o ≡ Some next → stage ≤ next
rising_found stage next None e = absurd cc
rising_found stage next (Some s) e = rising stage next s e

none_or_some : {A : Type 0} (o : Option A) (c : A) → o ≡ None → o ≡ Some c → ⊥
none_or_some o c e f = cc

noting_none : (old new : Notes) (stage next : ℕ) → new ≡ old → Untold stage old → stage ≤ next → Noting old new next
noting_none old new stage next e u le = record {
  kept = has_same new old e;
  untold = record {
    untimed = λ lt. ap (λ (n : Notes). n.now) e ∙ u.untimed (omega (arith, le, lt));
    unslotted = λ lt. ap (λ (n : Notes). n.slot) e ∙ u.unslotted (omega (arith, le, lt));
  };
}

noting_now : (g : Setting) (i : ℕ) (m : Machine) (to stage next : ℕ) → g.reading ≡ false → Untold stage m.notes → stage_behind stage (Now to) ≡ Some next →
    Noting m.notes (honest (now_tree g i m to)).machine.notes next
noting_now g i m to stage next first u e =
    let h = only_so _ _ _ e in
    let here : stage ≡ 1 = eqb-true stage 1 h.0 in
    let there : next ≡ 2 = sym h.1 in
    let new : (honest (now_tree g i m to)).machine.notes ≡ time_noted m.notes (sealed g.now) = ap (λ (t : Tree After). (honest t).machine.notes) (now_first g i m to first) in
    subst (λ n. Noting m.notes n next) (sym new) (record {
      kept = record { now = λ c f. absurd (none_or_some m.notes.now c (u.untimed (omega (arith, here))) f); slot = λ c f. f };
      untold = record { untimed = λ lt. absurd (omega (arith, there, lt)); unslotted = λ lt. u.unslotted (omega (arith, here)) };
    })

noting_alloc : (g : Setting) (i : ℕ) (m : Machine) (to moment stage next : ℕ) → g.reading ≡ false → Untold stage m.notes → stage_behind stage (Alloc to moment) ≡ Some next →
    Noting m.notes (honest (alloc_tree g i m to moment)).machine.notes next
noting_alloc g i m to moment stage next first u e =
    let h = only_so _ _ _ e in
    let here : stage ≡ 2 = eqb-true stage 2 h.0 in
    let there : next ≡ 3 = sym h.1 in
    let new : (honest (alloc_tree g i m to moment)).machine.notes ≡ slot_noted m.notes (sealed (lowest_free g m.words (register m moment))) =
    ap (λ (t : Tree After). (honest t).machine.notes) (alloc_first g i m to moment first) in
    subst (λ n. Noting m.notes n next) (sym new) (record {
      kept = record { now = λ c f. f; slot = λ c f. absurd (none_or_some m.notes.slot c (u.unslotted (omega (arith, here))) f) };
      untold = record { untimed = λ lt. absurd (omega (arith, there, lt)); unslotted = λ lt. absurd (omega (arith, there, lt)) };
    })

noting_kind : (g : Setting) (i : ℕ) (m : Machine) (s : Stmt) (stage next : ℕ) → g.reading ≡ false → Kind g m.notes i m s → Untold stage m.notes → stage_behind stage s ≡ Some next →
    Noting m.notes (honest (statement_tree g i m s)).machine.notes next
noting_kind g i m s stage next first (Timing to is) u e =
    subst (λ s. Noting m.notes (honest (statement_tree g i m s)).machine.notes next) (sym is) (noting_now g i m to stage next first u (ap (stage_behind stage) (sym is) ∙ e))
noting_kind g i m s stage next first (Slotting to moment is) u e =
    subst (λ s. Noting m.notes (honest (statement_tree g i m s)).machine.notes next) (sym is) (noting_alloc g i m to moment stage next first u (ap (stage_behind stage) (sym is) ∙ e))
noting_kind g i m s stage next first (Plain r) u e = noting_none m.notes (honest (statement_tree g i m s)).machine.notes stage next r.left u (rising stage next s e)

noting_step : (g : Setting) (i : ℕ) (m : Machine) (stage next : ℕ) → g.reading ≡ false → Untold stage m.notes → stage_behind_found stage (slice_get g.statements i) ≡ Some next →
    Noting m.notes (honest (step_tree g i m)).machine.notes next
noting_step g i m stage next first u e = by_statement g i m (λ t. Noting m.notes (honest t).machine.notes next)
    (λ cause. noting_none m.notes m.notes stage next refl u (rising_found stage next (slice_get g.statements i) e))
    (λ s is b. noting_kind g i (one_made m) s stage next first (kind g m.notes i (one_made m) s) u (ap (stage_behind_found stage) (sym is) ∙ e))

noting_onward : (g : Setting) (m : Machine) (o : Outcome) (stage : Option ℕ) (next : ℕ) → g.reading ≡ false → ((s : ℕ) → stage ≡ Some s → Untold s m.notes) → stage_onward g stage o ≡ Some next →
    Noting m.notes (onward_from g m o).machine.notes next
noting_onward g m o None next first u e = absurd cc
noting_onward g m (Next i) (Some s) next first u e = noting_step g i m s next first (u s refl) e
noting_onward g m Halted (Some s) next first u e = let same : s ≡ next = cc in noting_none m.notes m.notes s next refl (u s refl) (omega (arith, same))
noting_onward g m (Bad cause) (Some s) next first u e = absurd cc

-- a statement behind which there is a stage had one before it
stage_before : (g : Setting) (stage : Option ℕ) (o : Outcome) (next : ℕ) → stage_onward g stage o ≡ Some next → (s : ℕ) × (stage ≡ Some s)
stage_before g None o next e = absurd cc
stage_before g (Some s) o next e = (s, refl)

stage_within : (g : Setting) (start : Machine) (d n next : ℕ) → stage_after g start (d + n) ≡ Some next → (s : ℕ) × (stage_after g start n ≡ Some s)
stage_within g start zero n next e = let here : zero + n ≡ n = omega arith in (next, ap (stage_after g start) (sym here) ∙ e)
stage_within g start (suc d) n next e =
    let one : suc d + n ≡ suc (d + n) = omega arith in
    let before = stage_before g (stage_after g start (d + n)) (after g start (d + n)).outcome next (ap (stage_after g start) (sym one) ∙ e) in
    stage_within g start d n before.0 before.1

-- each honest statement of a run in order had its stage
pub stage_of : (g : Setting) (start : Machine) (n steps last : ℕ) → n ≤ steps → stage_after g start steps ≡ Some last → (s : ℕ) × (stage_after g start n ≡ Some s)
stage_of g start n steps last le e = let all : steps - n + n ≡ steps = omega (arith, le) in stage_within g start (steps - n) n last (ap (stage_after g start) all ∙ e)

module _ (g : Setting) (start : Machine) (first : g.reading ≡ false) (blank : start.notes ≡ no_notes) where
  untold_at : (n stage : ℕ) → stage_after g start n ≡ Some stage → Untold stage (after g start n).machine.notes
  untold_at zero stage e = record { untimed = λ lt. ap (λ (n : Notes). n.now) blank; unslotted = λ lt. ap (λ (n : Notes). n.slot) blank }
  untold_at (suc n) stage e = (noting_onward g (after g start n).machine (after g start n).outcome (stage_after g start n) stage first (λ s h. untold_at n s h) e).untold

  has_one : (n stage : ℕ) → stage_after g start (suc n) ≡ Some stage → Has (after g start (suc n)).machine.notes (after g start n).machine.notes
  has_one n stage e = (noting_onward g (after g start n).machine (after g start n).outcome (stage_after g start n) stage first (λ s h. untold_at n s h) e).kept

  has_all : (d n stage : ℕ) → stage_after g start (d + n) ≡ Some stage → Has (after g start (d + n)).machine.notes (after g start n).machine.notes
  has_all zero n stage e = let here : zero + n ≡ n = omega arith in has_same _ _ (ap (λ j. (after g start j).machine.notes) here)
  has_all (suc d) n stage e =
      let one : suc d + n ≡ suc (d + n) = omega arith in
      let at : stage_after g start (suc (d + n)) ≡ Some stage = ap (stage_after g start) (sym one) ∙ e in
      let before = stage_of g start (d + n) (suc (d + n)) stage (omega arith) at in
      subst (λ j. Has (after g start j).machine.notes (after g start n).machine.notes) (sym one) (has_more _ _ _ (has_one (d + n) stage at) (has_all d n before.0 before.1))

  -- what was noted stays noted to the end of a run in order
  pub notes_stay : (n steps stage : ℕ) → n ≤ steps → stage_after g start steps ≡ Some stage → Has (after g start steps).machine.notes (after g start n).machine.notes
  notes_stay n steps stage le e =
      let all : steps - n + n ≡ steps = omega (arith, le) in
      subst (λ j. Has (after g start j).machine.notes (after g start n).machine.notes) all (has_all (steps - n) n stage (ap (stage_after g start) all ∙ e))

  -- where the time is taken in order it was not noted before
  pub untimed_before : (n i to next : ℕ) (m : Machine) → after g start n ≡ record { machine = m; outcome = Next i } → slice_get g.statements i ≡ Some (Now to) →
      stage_after g start (suc n) ≡ Some next → m.notes.now ≡ None
  untimed_before n i to next m e is ordered =
      let s = stage_of g start n (suc n) next (omega arith) ordered in
      let behind : stage_behind s.0 (Now to) ≡ Some next =
      sym (ap (λ o. stage_onward g o (after g start n).outcome) s.1 ∙ ap (λ (x : After). stage_onward g (Some s.0) x.outcome) e ∙ ap (stage_behind_found s.0) is) ∙ ordered in
      let here : s.0 ≡ 1 = eqb-true s.0 1 (only_so _ _ _ behind).0 in
      sym (ap (λ (x : After). x.machine.notes.now) e) ∙ (untold_at n s.0 s.1).untimed (omega (arith, here))

  module _ (end : Machine) (steps : ℕ) (run : HonestRun g start end steps) (ordered : stage_after g start steps ≡ Some finished) where
    has_end : (n : ℕ) → n ≤ steps → Has end.notes (after g start n).machine.notes
    has_end n le = subst (λ (x : After). Has x.machine.notes (after g start n).machine.notes) run.halts (notes_stay n steps finished le ordered)

    -- the second pass, by the notes of the first one's end, does each statement as the first did
    pub repeats : (n : ℕ) → n ≤ steps → after (again g) (renoted end.notes start) n ≡ renoted_end end.notes (after g start n)
    repeats zero le = refl
    repeats (suc n) le =
        ap (onward (again g)) (repeats n (omega (arith, le)))
        ∙ onward_follows g end.notes (after g start n).machine (after g start n).outcome first (has_end (suc n) le)

    -- and asks no fewer questions
    pub repeats_asked : (n : ℕ) → n ≤ steps → weighed_after g start n ≤ weighed_after (again g) (renoted end.notes start) n
    repeats_asked zero le = omega arith
    repeats_asked (suc n) le =
        let same : weighed_in (again g) (after (again g) (renoted end.notes start) n).machine (after (again g) (renoted end.notes start) n).outcome
        ≡ weighed_in (again g) (renoted end.notes (after g start n).machine) (after g start n).outcome =
        ap (λ (x : After). weighed_in (again g) x.machine x.outcome) (repeats n (omega (arith, le))) in
        omega (arith, same, repeats_asked n (omega (arith, le)), asked_follows g end.notes (after g start n).machine (after g start n).outcome first (has_end (suc n) le))
