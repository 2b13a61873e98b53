-- The acts of the first pass under one strike, and behind one.
use Rattle.std.proofs.Common.{◌≡◌, ◌⊎◌, inl, inr, ℕ, suc, ◌+◌, ◌-◌, ◌^◌, ◌<◌, ◌≤◌, Bool, true, false, List, [], ◌∷◌, ◌++◌, length, length-append, take, slice_get, slice_set, Option, Some, None, ap, sym, ◌∙◌, arith, refl, subst}
use Rattle.std.specs.Prelude.{◌==◌, if◌then◌else◌}
use Rattle.sei_pass.specs.declared.spaces.PassSpace.{PassSpace}
use Rattle.sei_code.specs.Kept.{Kept, pushed}
use Rattle.sei_fault.specs.declared.cause.AbortCause.TheVariants.{Range}
use Rattle.sei_fault.specs.declared.place.Phase.TheVariants.{First, Restore}
use Rattle.sei_fault.specs.Phases.{phase_number}
use Rattle.sei_fault.specs.StruckRuns.{StruckRun}
use Rattle.sei_fault.specs.Tree.{Tree, honest, bound}
use Rattle.sei_fault.specs.Weights.{weighed}
use Rattle.sei_fault.proofs.Public.{honest_bound, weighed_bound, StruckBound, struck_bound}
use Rattle.sei_fault.proofs.PublicStruckRuns.StruckBound.{Before, Behind}
use Rattle.sei_gate.specs.Closing.{risen}
use Rattle.sei_log.specs.Changes.{change_of, undone, applied, SameOff}
use Rattle.sei_log.specs.declared.log.Change.{Change}
use Rattle.sei_log.proofs.Public.{set_same, set_set, undone_push, applied_push, same_push, take_whole}
use Rattle.sei_stmt.specs.Machine.{Machine, Setting, Outcome, After, with_words, one_made, stored, at_outcome}
use Rattle.sei_stmt.specs.Machine.Outcome.{Next, Halted, Bad}
use Rattle.sei_stmt.specs.Statements.{step_tree}
use Rattle.sei_stmt.proofs.Public.{Effect, HonestEffect, StruckEffect, honest_effect, keeps_honest, struck_effect, Keeps, keeps, IsGoing, Relogs, relog, relog_asks}
use Rattle.sei_stmt.proofs.PublicEffects.Effect.{Untouched, Wrote}
use Rattle.sei_stmt.proofs.PublicEffects.HonestEffect.{Left, Changed}
use Rattle.sei_stmt.proofs.PublicEffects.StruckEffect.{Plain, Wrong}
use Rattle.sei_pass.specs.declared.given.Sealed.{Sealed}
use Rattle.sei_pass.specs.declared.given.Which.TheVariants.{Making}
use Rattle.sei_pass.specs.State.{PassState}
use Rattle.sei_traverse.specs.declared.turned.Want.{Want}
use Rattle.sei_traverse.specs.declared.turned.Want.TheVariants.{Nothing}
use Rattle.sei_traverse.specs.declared.workspace.Ending.TheVariants.{Leads, Aborts}
use Rattle.sei_traverse.specs.declared.workspace.Workspace.{Workspace}
use Rattle.sei_traverse.specs.Acts.{Acted, acted, ends, at, closed_to}
use Rattle.sei_traverse.specs.Comes.{at_time, Agrees, Comes, EndsAlways}
use Rattle.sei_traverse.specs.CallContext.{CallContext, Follows, first_setting, first_start, Whole}
use Rattle.sei_traverse.specs.FaultInvariant.{Wanted}
use Rattle.sei_traverse.proofs.ClosesNext.{ClosesNext}
use Rattle.sei_traverse.proofs.ClosesNext.ClosesNext.{Stays, Closes}
use Rattle.sei_traverse.specs.PassActs.{pass_of, machine_in, with_machine, asked_behind, pass_from, pass_to}
use Rattle.sei_traverse.specs.Given.{given_of, setting_in}
use Rattle.sei_traverse.specs.Step.{act_in}
use Rattle.sei_traverse.specs.Struck.{IsNoted, relogged, IsAimed, IsMisread, FirstStruck, StruckInFirst, WasMisread, RestoreStruck}
use Rattle.sei_traverse.specs.Struck.FirstStruck.{Restorable as Undoes, Misread as Misreads}
use Rattle.sei_traverse.specs.Struck.RestoreStruck.{Restorable as StillUndoes, Misread as HasMisread}
use Rattle.sei_traverse.specs.Trusted.{IsTrusted}
use Rattle.sei_traverse.specs.Unstruck.{SecondIsNew, InFirst, FirstRuns}
use Rattle.sei_traverse.proofs.Closes.{closed, closes_in_step, pass_behind}
use Rattle.sei_traverse.proofs.PhaseLaws.{given_for, EndsRight, ActsWell, PhaseLaws}
use Rattle.sei_traverse.proofs.PhaseLaws.LeadsWell.{Onward}
use Rattle.sei_traverse.proofs.SmallNotes.{small_agrees, small_honest, small_struck}
use Rattle.sei_traverse.proofs.TimeLaws.{within_clock, agrees_on, comes_on, goes_on, Stands, ends_so}

-- What an effect keeps.

-- a store is undone by what it logs
undone_store : (log : List Change) (words : List ℕ) (a was v w : ℕ) → slice_get words a ≡ Some was → undone (log ++ change_of a was v ∷ []) (slice_set words a w) ≡ undone log words
undone_store log words a was v w stood =
    undone_push log (change_of a was v) (slice_set words a w) ∙ ap (undone log) (set_set words a w was ∙ set_same words a was stood)

-- whatever is answered, what was undone by the log still is
effect_undone : (taken : List ℕ) (m y : Machine) → Effect m y → undone m.log.items m.words ≡ taken → undone y.log.items y.words ≡ taken
effect_undone taken m y (Untouched words log) u = ap (λ (k : Kept Change). undone k.items y.words) log ∙ ap (undone m.log.items) words ∙ u
effect_undone taken m y (Wrote a was v w stood words log) u =
    ap (λ (k : Kept Change). undone k.items y.words) log
    ∙ ap (undone (m.log.items ++ change_of a was v ∷ [])) words
    ∙ undone_store m.log.items m.words a was v w stood
    ∙ u

-- and the words differ from those only where the log has a change
effect_off : (taken : List ℕ) (m y : Machine) → Effect m y → SameOff m.log.items m.words taken → SameOff y.log.items y.words taken
effect_off taken m y (Untouched words log) s =
    subst (λ (k : Kept Change). SameOff k.items y.words taken) (sym log) (subst (λ (ws : List ℕ). SameOff m.log.items ws taken) (sym words) s)
effect_off taken m y (Wrote a was v w stood words log) s =
    subst (λ (k : Kept Change). SameOff k.items y.words taken) (sym log)
    (subst (λ (ws : List ℕ). SameOff (m.log.items ++ change_of a was v ∷ []) ws taken) (sym words) (same_push m.log.items (change_of a was v) m.words taken w s))

-- an honest log leads to the words
honest_applied : (taken : List ℕ) (m y : Machine) → HonestEffect m y → applied m.log.items taken ≡ m.words → applied y.log.items taken ≡ y.words
honest_applied taken m y (Left words log) u = ap (λ (k : Kept Change). applied k.items taken) log ∙ u ∙ sym words
honest_applied taken m y (Changed a was v stood other words log) u =
    ap (λ (k : Kept Change). applied k.items taken) log
    ∙ applied_push m.log.items (change_of a was v) taken
    ∙ ap (λ (ws : List ℕ). slice_set ws a v) u
    ∙ sym words

-- where a pass has come, its log leads from the words at its start to the words there, and back
comes_keeps : (g : Setting) (start : Machine) (n q : ℕ) (x : After) → start.log.items ≡ [] → Comes g start n x q → Keeps start.words x.machine.log.items x.machine.words
comes_keeps g start n q x none c =
    subst (λ (y : After). Keeps start.words y.machine.log.items y.machine.words) (c.run c.time c.agrees) (keeps (at_time g c.time) start none n)

-- Honest first passes.

-- a first pass has come here, at a time that is the told one, where one is told
record Came (e : CallContext) (n q : ℕ) (x : After) : Type 0 where
  comes : Comes (first_setting e) (first_start e) n x q
  told : Follows e.clock comes.time

came_at : (e : CallContext) (clock : Option ℕ) → e.clock ≡ clock → (n q : ℕ) (x : After) (time now : ℕ) → Follows clock time → Follows clock now →
    Comes (first_setting e) (first_start e) n x q → (time ≡ now → Agrees x.machine.notes.now now) → Came e n q x
came_at e None is n q x time now h k c f = record { comes = c; told = subst (λ (o : Option ℕ). Follows o c.time) (sym is) tt }
came_at e (Some t) is n q x time now h k c f =
    record { comes = record { time = now; agrees = f (h ∙ sym k); run = c.run; asked = c.asked }; told = subst (λ (o : Option ℕ). Follows o now) (sym is) k }

-- the step of a first pass
abbrev first_step : CallContext → ℕ → ℕ → Machine → Tree After
first_step e now i m = step_tree (at_time (first_setting e) now) i m

module _ (e : CallContext) (always : EndsAlways (first_setting e) (first_start e)) (n q i : ℕ) (m : Machine) (here : Came e n q (at_outcome m (Next i))) where
  -- it makes one statement more, whatever the clock answers
  came_on : (now : ℕ) → now < 2 ^ 64 → Follows e.clock now → Came e (suc n) (q + weighed (first_step e now i m)) (honest (first_step e now i m))
  came_on now small told =
      came_at e e.clock refl (suc n) (q + weighed (first_step e now i m)) (honest (first_step e now i m)) here.comes.time now here.told told
      (comes_on (first_setting e) (first_start e) refl refl always n i q now m here.comes small)
      (λ same. agrees_on (first_setting e) refl now i m small (subst (λ (t : ℕ). Agrees m.notes.now t) same here.comes.agrees))

  -- so far it was within its budget
  came_within : suc n < (first_setting e).budget
  came_within =
      let t : ℕ = here.comes.time in
      let lt : t < 2 ^ 64 = within_clock m.notes.now t here.comes.agrees in
      let before = goes_on (first_setting e) (first_start e) refl refl always n i t m lt (here.comes.run t here.comes.agrees) in
      let budget = (always t lt).within in
      omega (arith, before, budget)

  -- where it has halted, it is whole
  came_whole : (k : ℕ) (end : Machine) (c : Came e (suc n) k (at_outcome end Halted)) → Whole e c.comes.time (suc n) end
  came_whole k end c =
      let s : Stands (first_setting e) (first_start e) (suc n) c.comes.time (at_outcome end Halted) = ends_so (first_setting e) (first_start e) always (suc n) k (at_outcome end Halted) c.comes in
      record {
        small = within_clock end.notes.now c.comes.time c.comes.agrees;
        told = c.told;
        run = s.run refl;
        within = came_within;
        ordered = s.ordered refl;
        rising = s.rising refl;
        coded = s.coded refl;
      }

-- How an act ends.

-- an act that wants nothing
wants_nothing : (e : CallContext) (asked : ℕ) (y : Acted) → y.workspace.want ≡ Nothing → ClosesNext e 2 y.workspace (y.ending ≡ Aborts (Range y.workspace.wanted)) → EndsRight e First y.workspace y.words asked y.ending →
    ActsWell e First asked y
wants_nothing e asked y nothing once right = record {
  wants = subst (λ (t : Want). Wanted e y.workspace (Some y.words) asked t) (sym nothing) tt;
  once = once;
  ends = right;
}

-- all of a log is pending at the start of Restore
all_pending : (log : List Change) (words taken : List ℕ) → undone log words ≡ taken → undone (take (length log - 0) log) words ≡ taken
all_pending log words taken u =
    let all : length log - 0 ≡ length log = omega arith in
    ap (λ (n : ℕ). undone (take n log) words) all ∙ ap (λ (l : List Change). undone l words) (take_whole log) ∙ u

-- the workspace behind a statement that leads on, and behind one that halts
abbrev stepped : Workspace → Machine → ℕ → Workspace
stepped w m index = record (with_machine Making w m) { place = at First index }

abbrev halted : Workspace → Machine → Workspace
halted w m = record (closed (with_machine Making w m)) { place = at Restore 0 }

module _ (e : CallContext) (w : Workspace) (nothing : w.want ≡ Nothing) (gate : w.gate.done ≡ phase_number First) (space : w.first.space ≡ e.space) (second : SecondIsNew e w) (m : Machine) (asked : ℕ) where
  leads_on : (index : ℕ) → FirstStruck e (stepped w m index) m.words asked → ActsWell e First asked (acted (with_machine Making w m) m.words (Leads (at First index)))
  leads_on index s =
      wants_nothing e asked (acted (with_machine Making w m) m.words (Leads (at First index))) nothing (Stays gate nothing)
      (Onward gate (record { space = space; second = record { second = second.second; second_log = second.second_log }; stands = s }))

  leads_behind : RestoreStruck e (halted w m) m.words asked → ActsWell e First asked (acted (closed (with_machine Making w m)) m.words (Leads (at Restore 0)))
  leads_behind s =
      let three : risen w.gate.done ≡ 3 = ap risen gate in
      wants_nothing e asked (acted (closed (with_machine Making w m)) m.words (Leads (at Restore 0))) refl (Closes First refl three refl)
      (Onward three (record { second = second.second; second_log = second.second_log }, s))

  -- whatever the closing test is answered
  closed_so : (b : Bool) → RestoreStruck e (halted w m) m.words asked →
      ActsWell e First asked (honest (closed_to (with_machine Making w m) m.words (λ v. ends (record v { want = Nothing }) m.words (Leads (at Restore 0))) (b, if b then risen w.gate.done else w.gate.done)))
  closed_so true s = leads_behind s
  closed_so false s = wants_nothing e asked _ nothing (Stays gate nothing) tt

  -- by the outcome of the statement
  ends_so_by : (o : Outcome) → ((index : ℕ) → o ≡ Next index → FirstStruck e (stepped w m index) m.words asked) → (o ≡ Halted → RestoreStruck e (halted w m) m.words asked) →
      ActsWell e First asked (honest (pass_from Making (with_machine Making w m) m.words o))
  ends_so_by (Next index) next halts = leads_on index (next index refl)
  ends_so_by Halted next halts =
      subst (λ (y : Acted). ActsWell e First asked y) (sym (closes_in_step First (with_machine Making w m) m.words (at Restore 0) gate)) (leads_behind (halts refl))
  ends_so_by (Bad cause) next halts = wants_nothing e asked (acted (with_machine Making w m) m.words (Aborts cause)) nothing (Stays gate nothing) tt

  -- where the log undoes what was changed, it may go on anywhere
  undoes_on : (o : Outcome) → IsNoted e m.notes.now → undone m.log.items m.words ≡ e.taken → ActsWell e First asked (honest (pass_from Making (with_machine Making w m) m.words o))
  undoes_on o small u = ends_so_by o (λ index is. Undoes small u) (λ is. StillUndoes small (all_pending m.log.items m.words e.taken u))

-- behind the closing test nothing is asked
closed_asks_no_more : (w : Workspace) (words : List ℕ) (b : Bool) (done : ℕ) (y : Acted) (n : ℕ) → StruckRun (closed_to w words (λ v. ends (record v { want = Nothing }) words (Leads (at Restore 0))) (b, done)) y n → ⊥
closed_asks_no_more w words true done y n s = s
closed_asks_no_more w words false done y n s = s

module _ (e : CallContext) (w : Workspace) (nothing : w.want ≡ Nothing) (gate : w.gate.done ≡ phase_number First) (space : w.first.space ≡ e.space) (second : SecondIsNew e w) (m : Machine) (asked : ℕ) (small : IsNoted e m.notes.now) (u : undone m.log.items m.words ≡ e.taken) where
  -- a strike behind the statement falls on the closing test
  struck_behind : (o : Outcome) (y : Acted) (n : ℕ) → StruckRun (pass_from Making (with_machine Making w m) m.words o) y n → ActsWell e First asked y
  struck_behind (Next index) y n s = absurd s
  struck_behind Halted y n (inl h) =
      subst (λ (x : Acted). ActsWell e First asked x) (sym h.end)
      (closed_so e w nothing gate space second m asked h.answer (StillUndoes small (all_pending m.log.items m.words e.taken u)))
  struck_behind Halted y n (inr (k, is, s)) = absurd (closed_asks_no_more (with_machine Making w m) m.words (w.gate.done == 2) (if w.gate.done == 2 then risen w.gate.done else w.gate.done) y k s)
  struck_behind (Bad cause) y n s = absurd s

-- A strike in the first pass.

-- a clean first pass has come here
came_clean : (e : CallContext) (w : Workspace) (words : List ℕ) (steps asked : ℕ) (r : FirstRuns e w words steps asked) → Came e r.made asked (at_outcome (machine_in Making w words) (Next w.place.index))
came_clean e w words steps asked r = record { comes = r.comes; told = r.told }

clean_keeps : (e : CallContext) (w : Workspace) (words : List ℕ) (steps asked : ℕ) → FirstRuns e w words steps asked → Keeps e.taken w.first_log.items words
clean_keeps e w words steps asked r =
    comes_keeps (first_setting e) (first_start e) r.made asked (at_outcome (machine_in Making w words) (Next w.place.index)) refl r.comes

clean_small : (e : CallContext) (w : Workspace) (words : List ℕ) (steps asked : ℕ) → FirstRuns e w words steps asked → IsNoted e w.notes.now
clean_small e w words steps asked r = small_agrees e w.notes.now r.comes.time r.told r.comes.agrees

pub first_moved : (e : CallContext) (w : Workspace) (lent : Option (List ℕ)) (steps asked index : ℕ) → InFirst e w lent steps asked → StruckInFirst e (record w { place = at First index }) lent asked
first_moved e w None steps asked index h = record {
  space = ap (λ (p : PassState). p.space) h.at.first.first;
  second = record { second = h.second.second; second_log = h.second.second_log };
  stands = record { first = h.at.first.first; first_log = h.at.first.first_log; notes = h.at.first.notes };
}
first_moved e w (Some words) steps asked index h = record {
  space = h.at.space;
  second = record { second = h.second.second; second_log = h.second.second_log };
  stands = Undoes (clean_small e w words steps asked h.at) (clean_keeps e w words steps asked h.at).undo;
}

-- the given parts of a step are the call context's, where the wanted bucket is the call's
given_step : (e : CallContext) (now : ℕ) (w : Workspace) (m : Machine) → w.sealed ≡ e.sealed → w.wanted ≡ e.call.bucket →
    step_tree (setting_in (given_for e First w.wanted) Making w.sealed now) w.place.index m ≡ first_step e now w.place.index m
given_step e now w m sealed wanted =
    ap (λ (s : Sealed). step_tree (setting_in (given_of e.behavior e.input e.space (Some w.wanted)) Making s now) w.place.index m) sealed
    ∙ ap (λ (b : ℕ). step_tree (setting_in (given_of e.behavior e.input e.space (Some b)) Making e.sealed now) w.place.index m) wanted

-- an old word was misread
module _ (e : CallContext) (w : Workspace) (words : List ℕ) (aimed : IsAimed e w) (keep : Keeps e.taken w.first_log.items words) (a was v i n q asked : ℕ) (more : q ≤ asked) where
  abbrev misread_machine : Machine
  misread_machine = stored (one_made (machine_in Making w words)) a (change_of a was v) v

  misread_by : (log : Kept Change) → log.room ≡ w.first_log.room → length log.items ≤ length w.first_log.items + 1 → Came e n q (at_outcome (relogged log misread_machine) (Next i)) →
      IsMisread e (stepped w misread_machine i) (slice_set words a v) asked
  misread_by log room fewer c = record {
    aimed = record { fit = aimed.fit; wanted = aimed.wanted };
    log = log;
    room = room;
    fewer = omega (arith, fewer, length-append w.first_log.items (change_of a was v ∷ []));
    made = n;
    number = q;
    comes = c.comes;
    told = c.told;
    applies = applied_push w.first_log.items (change_of a was v) e.taken ∙ ap (λ (ws : List ℕ). slice_set ws a v) keep.apply;
    off = same_push w.first_log.items (change_of a was v) words e.taken v keep.off;
    questions = more;
  }

  -- it was taken for another one and stored, or taken for the same and not stored
  misread_so : (word : ℕ) (z : After) → slice_get words a ≡ Some word → Came e n q z →
      ((word ≡ v) × (z ≡ at_outcome (one_made (machine_in Making w words)) (Next i))) ⊎ (z ≡ at_outcome (stored (one_made (machine_in Making w words)) a (change_of a word v) v) (Next i)) →
      IsMisread e (stepped w misread_machine i) (slice_set words a v) asked
  misread_so word z stood c (inl (same, is)) =
      let unchanged : slice_set words a v ≡ words = set_same words a v (stood ∙ ap (λ (x : ℕ). let o : Option ℕ = Some x in o) same) in
      misread_by w.first_log refl (omega arith)
      (subst (λ (x : After). Came e n q x)
      (is ∙ ap (λ (ws : List ℕ). at_outcome (with_words (one_made (machine_in Making w words)) ws) (Next i)) (sym unchanged)) c)
  misread_so word z stood c (inr is) =
      misread_by (pushed w.first_log (change_of a word v)) refl (omega (arith, length-append w.first_log.items (change_of a word v ∷ [])))
      (subst (λ (x : After). Came e n q x) is c)

module _ (e : CallContext) (always : EndsAlways (first_setting e) (first_start e)) (now : ℕ) (small : now < 2 ^ 64) (told : Follows e.clock now) (w : Workspace) (words : List ℕ) (steps asked : ℕ)
    (nothing : w.want ≡ Nothing) (h : InFirst e w (Some words) steps asked) (aimed : IsAimed e w) where
  abbrev clean_step : Tree After
  clean_step = first_step e now w.place.index (machine_in Making w words)

  -- a strike in the statement
  struck_before : (n : ℕ) (x : After) (k : ℕ) → k ≤ n → IsNoted e x.machine.notes.now → StruckEffect (at_time (first_setting e) now) w.place.index (machine_in Making w words) x k →
      ActsWell e First (asked + n) (honest (pass_to Making w x))
  struck_before n x k le noted (Plain effect) =
      undoes_on e w nothing h.is.gate h.at.space h.second x.machine (asked + n) x.outcome noted
      (effect_undone e.taken (machine_in Making w words) x.machine effect (clean_keeps e w words steps asked h.at).undo)
  struck_before n x k le noted (Wrong a word was v stood room is so many) =
      subst (λ (z : After). ActsWell e First (asked + n) (honest (pass_to Making w z))) (sym is)
      (leads_on e w nothing h.is.gate h.at.space h.second (stored (one_made (machine_in Making w words)) a (change_of a was v) v) (asked + n) (w.place.index + 1)
      (Misreads (misread_so e w words aimed (clean_keeps e w words steps asked h.at) a was v (w.place.index + 1) (suc h.at.made) (asked + weighed clean_step) (asked + n)
      (omega (arith, many, le)) word (honest clean_step) stood
      (came_on e always h.at.made asked w.place.index (machine_in Making w words) (came_clean e w words steps asked h.at) now small told) so)))

  struck_within : (y : Acted) (n : ℕ) → StruckBound clean_step (pass_to Making w) y n → ActsWell e First (asked + n) y
  struck_within y n (Before x k s is many) =
      subst (λ (z : Acted). ActsWell e First (asked + n) z) (sym is)
      (struck_before n x k (omega (arith, many)) (small_struck e (first_setting e) now small told w.place.index (machine_in Making w words) (clean_small e w words steps asked h.at) x k s) (struck_effect (at_time (first_setting e) now) w.place.index (machine_in Making w words) x k s))
  struck_within y n (Behind k s many) =
      struck_behind e w nothing h.is.gate h.at.space h.second (honest clean_step).machine (asked + n)
      (small_honest e (first_setting e) now small told w.place.index (machine_in Making w words) (clean_small e w words steps asked h.at))
      (effect_undone e.taken (machine_in Making w words) (honest clean_step).machine (honest_effect (at_time (first_setting e) now) w.place.index (machine_in Making w words)) (clean_keeps e w words steps asked h.at).undo)
      (honest clean_step).outcome y k s

pub first_struck : (e : CallContext) → IsTrusted e → (now : ℕ) → now < 2 ^ 64 → Follows e.clock now → (w : Workspace) (words : List ℕ) (steps asked n : ℕ) (y : Acted) → w.want ≡ Nothing →
    InFirst e w (Some words) steps asked → IsAimed e w → StruckRun (act_in (given_for e First w.wanted) now First w.place.index w words) y n → ActsWell e First (asked + n) y
first_struck e trusted now small told w words steps asked n y nothing h aimed s =
    struck_within e (trusted.ends aimed.fit) now small told w words steps asked nothing h aimed y n
    (struck_bound (first_step e now w.place.index (machine_in Making w words)) (pass_to Making w) y n
    (subst (λ (t : Tree After). StruckRun (bound t (pass_to Making w)) y n) (given_step e now w (machine_in Making w words) h.is.sealed aimed.wanted) s))

-- An honest statement behind a strike.

-- but for its log, a pass with a misread word does what an honest one does
module _ (e : CallContext) (always : EndsAlways (first_setting e) (first_start e)) (now : ℕ) (small : now < 2 ^ 64) (told : Follows e.clock now) (w : Workspace) (words : List ℕ) (asked : ℕ)
    (nothing : w.want ≡ Nothing) (gate : w.gate.done ≡ phase_number First) (space : w.first.space ≡ e.space) (second : SecondIsNew e w) (h : IsMisread e w words asked) (total : ℕ)
    (many : asked + (weighed (first_step e now w.place.index (machine_in Making w words)) + asked_behind (honest (first_step e now w.place.index (machine_in Making w words))).outcome) ≤ total) where
  abbrev misread_step : Tree After
  misread_step = first_step e now w.place.index (machine_in Making w words)

  abbrev misread_end : After
  misread_end = honest misread_step

  -- the same statement with the honest log
  abbrev relogged_step : Tree After
  relogged_step = first_step e now w.place.index (relogged h.log (machine_in Making w words))

  came_here : Came e h.made h.number (at_outcome (relogged h.log (machine_in Making w words)) (Next w.place.index))
  came_here = record { comes = h.comes; told = h.told }

  applies_on : applied misread_end.machine.log.items e.taken ≡ misread_end.machine.words
  applies_on = honest_applied e.taken (machine_in Making w words) misread_end.machine (keeps_honest (at_time (first_setting e) now) w.place.index (machine_in Making w words)) h.applies

  off_on : SameOff misread_end.machine.log.items misread_end.machine.words e.taken
  off_on = effect_off e.taken (machine_in Making w words) misread_end.machine (honest_effect (at_time (first_setting e) now) w.place.index (machine_in Making w words)) h.off

  module _ (going : IsGoing misread_end.outcome) where
    relogs : Relogs (honest relogged_step) misread_end
    relogs = relog (at_time (first_setting e) now) w.place.index (machine_in Making w words) h.log h.room h.fewer going

    asks_fewer : weighed relogged_step ≤ weighed misread_step
    asks_fewer = relog_asks (at_time (first_setting e) now) w.place.index (machine_in Making w words) h.log h.room h.fewer going

    -- where the honest pass comes
    came_relogged : Came e (suc h.made) (h.number + weighed relogged_step) (at_outcome (relogged relogs.log misread_end.machine) misread_end.outcome)
    came_relogged =
        subst (λ (x : After). Came e (suc h.made) (h.number + weighed relogged_step) x) relogs.same
        (came_on e always h.made h.number w.place.index (relogged h.log (machine_in Making w words)) came_here now small told)

    came_in : (o : Outcome) → misread_end.outcome ≡ o → Came e (suc h.made) (h.number + weighed relogged_step) (at_outcome (relogged relogs.log misread_end.machine) o)
    came_in o is = subst (λ (p : Outcome). Came e (suc h.made) (h.number + weighed relogged_step) (at_outcome (relogged relogs.log misread_end.machine) p)) is came_relogged

    misreads_on : (index : ℕ) → misread_end.outcome ≡ Next index → IsMisread e (stepped w misread_end.machine index) misread_end.machine.words total
    misreads_on index is = record {
      aimed = record { fit = h.aimed.fit; wanted = h.aimed.wanted };
      log = relogs.log;
      room = relogs.room;
      fewer = relogs.fewer;
      made = suc h.made;
      number = h.number + weighed relogged_step;
      comes = (came_in (Next index) is).comes;
      told = (came_in (Next index) is).told;
      applies = applies_on;
      off = off_on;
      questions = omega (arith, h.questions, asks_fewer, many);
    }

    has_misread : misread_end.outcome ≡ Halted → WasMisread e (halted w misread_end.machine) (relogged relogs.log misread_end.machine) total
    has_misread is =
        let c : Came e (suc h.made) (h.number + weighed relogged_step) (at_outcome (relogged relogs.log misread_end.machine) Halted) = came_in Halted is in
        let one : asked_behind misread_end.outcome ≡ 1 = ap asked_behind is in
        record {
          aimed = record { fit = h.aimed.fit; wanted = h.aimed.wanted };
          time = c.comes.time;
          made = suc h.made;
          whole = came_whole e always h.made h.number w.place.index (relogged h.log (machine_in Making w words)) came_here (h.number + weighed relogged_step) (relogged relogs.log misread_end.machine) c;
          first = ap (λ (g : PassSpace). let p : PassState = record (pass_of w.first misread_end.machine) { space = g } in p) space;
          notes = refl;
          applies = applies_on;
          questions = omega (arith, c.comes.asked c.comes.time c.comes.agrees, h.questions, asks_fewer, many, one);
        }

  goes_by : (o : Outcome) → misread_end.outcome ≡ o → IsGoing o → IsGoing misread_end.outcome
  goes_by o is g = subst IsGoing (sym is) g

  misread_acts : ActsWell e First total (honest (pass_to Making w misread_end))
  misread_acts =
      ends_so_by e w nothing gate space second misread_end.machine total misread_end.outcome
      (λ index is. Misreads (misreads_on (goes_by (Next index) is tt) index is))
      (λ is. let g : IsGoing misread_end.outcome = goes_by Halted is tt in HasMisread (relogged (relogs g).log misread_end.machine) (has_misread g is) off_on)

module _ (e : CallContext) (now : ℕ) (w : Workspace) (words : List ℕ) (asked : ℕ) (nothing : w.want ≡ Nothing) (gate : w.gate.done ≡ phase_number First) (space : w.first.space ≡ e.space) (second : SecondIsNew e w) where
  -- whatever bucket is lent
  abbrev given_tree : Tree After
  given_tree = step_tree (setting_in (given_for e First w.wanted) Making w.sealed now) w.place.index (machine_in Making w words)

  undoes_honest : now < 2 ^ 64 → Follows e.clock now → IsNoted e w.notes.now → undone w.first_log.items words ≡ e.taken → ActsWell e First (asked + weighed (bound given_tree (pass_to Making w))) (honest (bound given_tree (pass_to Making w)))
  undoes_honest small told noted u =
      subst (λ (y : Acted). ActsWell e First (asked + weighed (bound given_tree (pass_to Making w))) y) (sym (honest_bound given_tree (pass_to Making w)))
      (undoes_on e w nothing gate space second (honest given_tree).machine (asked + weighed (bound given_tree (pass_to Making w))) (honest given_tree).outcome
      (small_honest e (setting_in (given_for e First w.wanted) Making w.sealed now) now small told w.place.index (machine_in Making w words) noted)
      (effect_undone e.taken (machine_in Making w words) (honest given_tree).machine
      (honest_effect (setting_in (given_for e First w.wanted) Making w.sealed now) w.place.index (machine_in Making w words)) u))

  misreads_honest : EndsAlways (first_setting e) (first_start e) → now < 2 ^ 64 → Follows e.clock now → w.sealed ≡ e.sealed → IsMisread e w words asked →
      ActsWell e First (asked + weighed (bound given_tree (pass_to Making w))) (honest (bound given_tree (pass_to Making w)))
  misreads_honest always small told sealed h =
      let step : Tree After = first_step e now w.place.index (machine_in Making w words) in
      let all = weighed_bound step (pass_to Making w) in
      let behind = pass_behind Making (with_machine Making w (honest step).machine) (honest step).machine.words (honest step).outcome in
      subst (λ (t : Tree After). ActsWell e First (asked + weighed (bound t (pass_to Making w))) (honest (bound t (pass_to Making w))))
      (sym (given_step e now w (machine_in Making w words) sealed h.aimed.wanted))
      (subst (λ (y : Acted). ActsWell e First (asked + weighed (bound step (pass_to Making w))) y) (sym (honest_bound step (pass_to Making w)))
      (misread_acts e always now small told w words asked nothing gate space second h (asked + weighed (bound step (pass_to Making w))) (omega (arith, all, behind))))

  honest_stands : IsTrusted e → now < 2 ^ 64 → Follows e.clock now → w.sealed ≡ e.sealed → FirstStruck e w words asked →
      ActsWell e First (asked + weighed (bound given_tree (pass_to Making w))) (honest (bound given_tree (pass_to Making w)))
  honest_stands trusted small told sealed (Undoes noted u) = undoes_honest small told noted u
  honest_stands trusted small told sealed (Misreads h) = misreads_honest (trusted.ends h.aimed.fit) small told sealed h

pub first_honest_on : (e : CallContext) → IsTrusted e → (now : ℕ) → now < 2 ^ 64 → Follows e.clock now → (w : Workspace) (words : List ℕ) (asked : ℕ) → w.want ≡ Nothing → w.gate.done ≡ phase_number First → w.sealed ≡ e.sealed →
    StruckInFirst e w (Some words) asked →
    ActsWell e First (asked + weighed (act_in (given_for e First w.wanted) now First w.place.index w words)) (honest (act_in (given_for e First w.wanted) now First w.place.index w words))
first_honest_on e trusted now small told w words asked nothing gate sealed h =
    honest_stands e now w words asked nothing gate h.space h.second trusted small told sealed h.stands

pub first_laws : (e : CallContext) → IsTrusted e → PhaseLaws e First
first_laws e trusted = record {
  moved = λ w lent steps asked index h k. first_moved e w lent steps asked index h;
  struck = λ now small told w words steps asked n y nothing h k s. first_struck e trusted now small told w words steps asked n y nothing h k s;
  honest_on = λ now small told w words asked nothing gate sealed h. first_honest_on e trusted now small told w words asked nothing gate sealed h;
}
