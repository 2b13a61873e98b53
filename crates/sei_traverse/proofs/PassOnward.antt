-- The acts of both passes without a strike.
use Rattle.std.proofs.Common.{◌≡◌, ◌⊎◌, inl, inr, ℕ, zero, suc, ◌+◌, ◌-◌, ◌^◌, ◌<◌, ◌≤◌, List, Option, Some, None, ap, sym, ◌∙◌, arith, refl, subst}
use Rattle.std.specs.Prelude.{slice_get}
use Rattle.std.specs.Option.{option_map}
use Rattle.std.proofs.lemmas.Bool.{cases_lt}
use Rattle.std.proofs.lemmas.Option.{same_Some}
use Rattle.sei_pass.specs.declared.spaces.PassSpace.{PassSpace}
use Rattle.sei_fault.specs.declared.cause.AbortCause.{AbortCause}
use Rattle.sei_fault.specs.declared.cause.AbortCause.TheVariants.{Table}
use Rattle.sei_fault.specs.declared.place.Act.{Act}
use Rattle.sei_fault.specs.declared.place.Phase.TheVariants.{First, Restore, Second, Compare}
use Rattle.sei_fault.specs.Tree.{Tree, honest, bound}
use Rattle.sei_fault.specs.Weights.{weighed}
use Rattle.sei_fault.proofs.Public.{honest_bound, weighed_bound}
use Rattle.sei_gate.specs.Closing.{risen}
use Rattle.sei_stmt.specs.declared.stmt.Stmt.{Stmt}
use Rattle.sei_stmt.specs.Honest.{after}
use Rattle.sei_stmt.specs.Weights.{weighed_after, weighed_in}
use Rattle.sei_stmt.specs.Machine.{Machine, Setting, Outcome, After}
use Rattle.sei_stmt.specs.Machine.Outcome.{Next, Halted, Bad}
use Rattle.sei_stmt.specs.Statements.{found_tree, step_tree}
use Rattle.sei_stmt.proofs.Public.{after_one, still_halted, halts_or_aborts, halts_or_goes_on}
use Rattle.sei_pass.specs.Acts.{act_of}
use Rattle.sei_pass.specs.declared.given.Sealed.{Sealed}
use Rattle.sei_pass.specs.declared.given.Which.TheVariants.{Making, Reading}
use Rattle.sei_pass.specs.State.{PassState, new_pass}
use Rattle.sei_traverse.specs.declared.turned.Want.TheVariants.{Nothing}
use Rattle.sei_traverse.specs.declared.workspace.Workspace.{Workspace}
use Rattle.sei_traverse.specs.Acts.{at}
use Rattle.sei_traverse.specs.Comes.{at_time, again, renoted, renoted_end, Agrees, Comes}
use Rattle.sei_traverse.specs.CallContext.{CallContext, Follows, given_in, first_setting, first_start, IsFitContext, Whole}
use Rattle.sei_traverse.specs.PassActs.{pass_of, machine_in, with_machine, asked_behind, pass_from, pass_to}
use Rattle.sei_traverse.specs.Given.{setting_in}
use Rattle.sei_traverse.specs.Step.{act_in, site_in}
use Rattle.sei_traverse.specs.Unstruck.{IsOf, SecondIsNew, FirstRuns, InFirst, InRestore, InSecond, InBoth, InCompare}
use Rattle.sei_traverse.proofs.Closes.{closed, closes_in_step, pass_behind, pass_behind}
use Rattle.sei_traverse.proofs.GoesOn.{GoesOn}
use Rattle.sei_traverse.proofs.NoteLaws.{repeats, repeats_asked}
use Rattle.sei_traverse.proofs.TimeLaws.{after_again, weighed_after_again, within_clock, agrees_on, comes_on, goes_on, Stands, ends_so}
use Rattle.sei_stmt.proofs.Public.{timeless_again}

-- Both passes.

-- where a step doesn't abort, there is a statement
found : (g : Setting) (i : ℕ) (m : Machine) (o : Option Stmt) → ((cause : AbortCause) → (honest (found_tree g i m o)).outcome ≡ Bad cause → ⊥) → (s : Stmt) × (o ≡ Some s)
found g i m None never = absurd (never (Table i) refl)
found g i m (Some s) never = (s, refl)

-- so the act is told as that statement
found_site : (g : Setting) (i : ℕ) (m : Machine) (registers : List ℕ) → ((cause : AbortCause) → (honest (step_tree g i m)).outcome ≡ Bad cause → ⊥) →
    (act : Act) × (option_map (act_of registers) (slice_get g.statements i) ≡ Some act)
found_site g i m registers never =
    let s = found g i m (slice_get g.statements i) never in
    (act_of registers s.0, ap (option_map (act_of registers)) s.1)

-- an end by its outcome
data EndsIn (o : Outcome) : Type 0 where
  Goes : (index : ℕ) → o ≡ Next index → EndsIn o
  Halts : o ≡ Halted → EndsIn o
  Aborting : (cause : AbortCause) → o ≡ Bad cause → EndsIn o

ends_in : (o : Outcome) → EndsIn o
ends_in (Next index) = Goes index refl
ends_in Halted = Halts refl
ends_in (Bad cause) = Aborting cause refl

-- a pass of a space is known by its machine
pass_known : (p : PassState) (g : PassSpace) (m : Machine) → p.space ≡ g → pass_of p m ≡ pass_of (new_pass g) m
pass_known p g m e = ap (λ (g : PassSpace). let r : PassState = record (pass_of p m) { space = g } in r) e

-- The first pass.

-- a run whose time is the told one, where one is told
record Followed (clock : Option ℕ) (g : Setting) (start : Machine) (n q : ℕ) (x : After) : Type 0 where
  comes : Comes g start n x q
  told : Follows clock comes.time

followed : (clock : Option ℕ) (g : Setting) (start : Machine) (n q : ℕ) (x : After) (time now : ℕ) → Follows clock time → Follows clock now → Comes g start n x q →
    (time ≡ now → Agrees x.machine.notes.now now) → Followed clock g start n q x
followed None g start n q x time now h k c f = record { comes = c; told = search }
followed (Some t) g start n q x time now h k c f = record { comes = record { time = now; agrees = f (h ∙ sym k); run = c.run; asked = c.asked }; told = k }

module _ (e : CallContext) (now : ℕ) (w : Workspace) (words : List ℕ) where
  -- the step of the first pass
  abbrev first_step : Tree After
  first_step = step_tree (at_time (first_setting e) now) w.place.index (machine_in Making w words)

  abbrev first_end : After
  first_end = honest first_step

  first_acts : w.sealed ≡ e.sealed → honest (act_in (given_in e) now First w.place.index w words) ≡ honest (pass_to Making w first_end)
  first_acts is =
      honest_bound (step_tree (setting_in (given_in e) Making w.sealed now) w.place.index (machine_in Making w words)) (pass_to Making w)
      ∙ ap (λ (s : Sealed). honest (pass_to Making w (honest (step_tree (setting_in (given_in e) Making s now) w.place.index (machine_in Making w words))))) is

  -- it asks what the statement asks, and the closing test where that halts
  first_asks : w.sealed ≡ e.sealed → weighed first_step + asked_behind first_end.outcome ≤ weighed (act_in (given_in e) now First w.place.index w words)
  first_asks is =
      let all = weighed_bound first_step (pass_to Making w) in
      let behind = pass_behind Making (with_machine Making w first_end.machine) first_end.machine.words first_end.outcome in
      let here : weighed first_step + asked_behind first_end.outcome ≤ weighed (bound first_step (pass_to Making w)) = omega (arith, all, behind) in
      subst (λ (s : Sealed). weighed first_step + asked_behind first_end.outcome ≤ weighed (bound (step_tree (setting_in (given_in e) Making s now) w.place.index (machine_in Making w words)) (pass_to Making w)))
      (sym is) here

  first_asks_closing : w.sealed ≡ e.sealed → first_end.outcome ≡ Halted → weighed first_step + 1 ≤ weighed (act_in (given_in e) now First w.place.index w words)
  first_asks_closing is halts = let one : asked_behind first_end.outcome ≡ 1 = ap asked_behind halts in omega (arith, first_asks is, one)

  module _ (call_context : IsFitContext e) (small : now < 2 ^ 64) (told : Follows e.clock now) (nothing : w.want ≡ Nothing) (steps asked : ℕ) (is : IsOf e w First) (second : SecondIsNew e w) (runs : FirstRuns e w words steps asked) where
    first_followed : Followed e.clock (first_setting e) (first_start e) (suc runs.made) (asked + weighed first_step) first_end
    first_followed =
        followed e.clock (first_setting e) (first_start e) (suc runs.made) (asked + weighed first_step) first_end runs.comes.time now runs.told told
        (comes_on (first_setting e) (first_start e) refl refl call_context.ends runs.made w.place.index asked now (machine_in Making w words) runs.comes small)
        (λ same. agrees_on (first_setting e) refl now w.place.index (machine_in Making w words) small (subst (λ t. Agrees w.notes.now t) same runs.comes.agrees))

    abbrev first_comes : Comes (first_setting e) (first_start e) (suc runs.made) first_end (asked + weighed first_step)
    first_comes = first_followed.comes

    first_stands : Stands (first_setting e) (first_start e) (suc runs.made) first_comes.time first_end
    first_stands = ends_so (first_setting e) (first_start e) call_context.ends (suc runs.made) (asked + weighed first_step) first_end first_comes

    -- where it halts, it was within its budget
    first_within : suc runs.made < (first_setting e).budget
    first_within =
        let t : ℕ = runs.comes.time in
        let lt : t < 2 ^ 64 = within_clock w.notes.now t runs.comes.agrees in
        let before = goes_on (first_setting e) (first_start e) refl refl call_context.ends runs.made w.place.index t (machine_in Making w words) lt (runs.comes.run t runs.comes.agrees) in
        let budget = (call_context.ends t lt).within in
        omega (arith, before, budget)

    first_site : (act : Act) × (site_in e.behavior w First w.place.index ≡ Some act)
    first_site = found_site (at_time (first_setting e) now) w.place.index (machine_in Making w words) w.first.registers first_stands.never_bad

    -- the next statement
    first_next : (index : ℕ) → first_end.outcome ≡ Next index →
        InFirst e (record (with_machine Making w first_end.machine) { place = at First index }) (Some first_end.machine.words) (suc steps) (asked + weighed first_step)
    first_next index next = record {
      is = record { sealed = is.sealed; gate = is.gate };
      second = record { second = second.second; second_log = second.second_log };
      at = record {
        space = runs.space;
        made = suc runs.made;
        comes = subst (λ (o : Outcome). Comes (first_setting e) (first_start e) (suc runs.made) (record { machine = first_end.machine; outcome = o }) (asked + weighed first_step)) next first_comes;
        told = first_followed.told;
        number = omega (arith, runs.number);
      };
    }

    first_goes : (index : ℕ) → first_end.outcome ≡ Next index → GoesOn e (given_in e) now First w words Some steps asked
    first_goes index next = record {
      act = first_site.0;
      site = first_site.1;
      workspace = with_machine Making w first_end.machine;
      left = first_end.machine.words;
      to = at First index;
      next = tt;
      acts = first_acts is.sealed ∙ ap (λ (o : Outcome). honest (pass_from Making (with_machine Making w first_end.machine) first_end.machine.words o)) next;
      want = nothing;
      more = weighed first_step;
      asks = omega (arith, first_asks is.sealed);
      clean = first_next index next;
    }

    -- the whole first pass
    first_whole : first_end.outcome ≡ Halted → Whole e first_comes.time (suc runs.made) first_end.machine
    first_whole halts = record {
      small = within_clock first_end.machine.notes.now first_comes.time first_comes.agrees;
      told = first_followed.told;
      run = first_stands.run halts;
      within = first_within;
      ordered = first_stands.ordered halts;
      rising = first_stands.rising halts;
      coded = first_stands.coded halts;
    }

    first_done : first_end.outcome ≡ Halted →
        InRestore e (record (closed (with_machine Making w first_end.machine)) { place = at Restore 0 }) (Some first_end.machine.words) (suc steps) (asked + (weighed first_step + 1))
    first_done halts = record {
      is = record { sealed = is.sealed; gate = ap risen is.gate };
      time = first_comes.time;
      made = suc runs.made;
      end = first_end.machine;
      whole = first_whole halts;
      first = record { first = pass_known w.first e.space first_end.machine runs.space; first_log = refl; notes = refl };
      second = record { second = second.second; second_log = second.second_log };
      index = omega arith;
      words = refl;
      number = omega (arith, runs.number);
      questions = omega (arith, first_comes.asked first_comes.time first_comes.agrees);
    }

    first_halts : first_end.outcome ≡ Halted → GoesOn e (given_in e) now First w words Some steps asked
    first_halts halts = record {
      act = first_site.0;
      site = first_site.1;
      workspace = closed (with_machine Making w first_end.machine);
      left = first_end.machine.words;
      to = at Restore 0;
      next = tt;
      acts =
          first_acts is.sealed
          ∙ ap (λ (o : Outcome). honest (pass_from Making (with_machine Making w first_end.machine) first_end.machine.words o)) halts
          ∙ closes_in_step First (with_machine Making w first_end.machine) first_end.machine.words (at Restore 0) is.gate;
      want = refl;
      more = weighed first_step + 1;
      asks = first_asks_closing is.sealed halts;
      clean = first_done halts;
    }

    first_ends : EndsIn first_end.outcome → GoesOn e (given_in e) now First w words Some steps asked
    first_ends (Goes index next) = first_goes index next
    first_ends (Halts halts) = first_halts halts
    first_ends (Aborting cause bad) = absurd (first_stands.never_bad cause bad)

-- a statement of the first pass leads to the next one, or to the start of Restore
pub first_on : (e : CallContext) (now : ℕ) (w : Workspace) (words : List ℕ) (steps asked : ℕ) → IsFitContext e → now < 2 ^ 64 → Follows e.clock now → w.want ≡ Nothing →
    InFirst e w (Some words) steps asked → GoesOn e (given_in e) now First w words Some steps asked
first_on e now w words steps asked call_context small told nothing h =
    first_ends e now w words call_context small told nothing steps asked h.is h.second h.at (ends_in (first_end e now w words).outcome)

-- The second pass.

-- behind the end of a run nothing is asked
asked_stays : (g : Setting) (start m : Machine) (n d : ℕ) → after g start n ≡ record { machine = m; outcome = Halted } → weighed_after g start (d + n) ≡ weighed_after g start n
asked_stays g start m n zero e = let here : zero + n ≡ n = omega arith in ap (weighed_after g start) here
asked_stays g start m n (suc d) e =
    let one : suc d + n ≡ suc (d + n) = omega arith in
    let ended : after g start (d + n) ≡ record { machine = m; outcome = Halted } = still_halted g start m n (d + n) (omega arith) e in
    let none : weighed_in g (after g start (d + n)).machine (after g start (d + n)).outcome ≡ 0 = ap (λ (x : After). weighed_in g x.machine x.outcome) ended in
    let more : weighed_after g start (suc d + n) ≡ weighed_after g start (suc (d + n)) = ap (weighed_after g start) one in
    omega (arith, none, more, asked_stays g start m n d e)

asked_still : (g : Setting) (start m : Machine) (n k : ℕ) → n ≤ k → after g start n ≡ record { machine = m; outcome = Halted } → weighed_after g start k ≡ weighed_after g start n
asked_still g start m n k le e = let there : k - n + n ≡ k = omega (arith, le) in ap (weighed_after g start) (sym there) ∙ asked_stays g start m n (k - n) e

-- a place of a run by its outcome
outcome_at : (x : After) (o : Outcome) → x.outcome ≡ o → x ≡ record { machine = x.machine; outcome = o }
outcome_at x o e = ap (λ (o : Outcome). let y : After = record { machine = x.machine; outcome = o } in y) e

-- a second pass that has come here, by the notes of a whole first one
module _ (e : CallContext) (w : Workspace) (words : List ℕ) (steps asked : ℕ) (h : InSecond e w (Some words) steps asked) where
  -- both passes behind so many statements
  abbrev first_at : ℕ → After
  first_at k = after (at_time (first_setting e) h.time) (first_start e) k

  abbrev second_at : ℕ → After
  second_at k = after (again (first_setting e)) (renoted h.end.notes (first_start e)) k

  -- the step of the second pass
  abbrev second_step : Tree After
  second_step = step_tree (again (first_setting e)) w.place.index (machine_in Reading w words)

  abbrev second_end : After
  second_end = honest second_step

  second_here : second_at h.n ≡ record { machine = machine_in Reading w words; outcome = Next w.place.index }
  second_here =
      h.comes
      ∙ ap (λ (ws : List ℕ). let x : After = record { machine = machine_in Reading w ws; outcome = Next w.place.index } in x) (sym (same_Some words h.words h.lent_are))

  second_follows : (k : ℕ) → k ≤ h.made → second_at k ≡ renoted_end h.end.notes (first_at k)
  second_follows k le =
      sym (after_again (first_setting e) h.time (renoted h.end.notes (first_start e)) k)
      ∙ repeats (at_time (first_setting e) h.time) (first_start e) refl refl h.end h.made h.whole.run h.whole.ordered k le

  -- it has not come to its end
  second_early : h.n < h.made
  second_early = by_order (cases_lt h.n h.made)
    where
      next : (first_at h.n).outcome ≡ Next w.place.index
      next = ap (λ (x : After). x.outcome) (sym (second_follows h.n h.within) ∙ second_here)

      by_order : (h.n < h.made) ⊎ (h.made ≤ h.n) → h.n < h.made
      by_order (inl lt) = lt
      by_order (inr le) =
          let here : first_at h.n ≡ record { machine = (first_at h.n).machine; outcome = Next w.place.index } = outcome_at (first_at h.n) (Next w.place.index) next in
          absurd (halts_or_goes_on (at_time (first_setting e) h.time) (first_start e) (first_at h.n).machine h.end w.place.index h.n h.made le here h.whole.run.halts)

  second_one : second_at (suc h.n) ≡ second_end
  second_one = after_one (again (first_setting e)) (renoted h.end.notes (first_start e)) (machine_in Reading w words) w.place.index h.n second_end second_here refl

  -- one statement more follows the first pass
  second_same : second_end ≡ renoted_end h.end.notes (first_at (suc h.n))
  second_same = sym second_one ∙ second_follows (suc h.n) second_early

  second_notes : second_end.machine.notes ≡ h.end.notes
  second_notes = ap (λ (x : After). x.machine.notes) second_same

  first_like : (o : Outcome) → second_end.outcome ≡ o → first_at (suc h.n) ≡ record { machine = (first_at (suc h.n)).machine; outcome = o }
  first_like o is = outcome_at (first_at (suc h.n)) o (ap (λ (x : After). x.outcome) (sym second_same) ∙ is)

  second_never_bad : (cause : AbortCause) → second_end.outcome ≡ Bad cause → ⊥
  second_never_bad cause is =
      halts_or_aborts (at_time (first_setting e) h.time) (first_start e) (first_at (suc h.n)).machine h.end cause (suc h.n) h.made (first_like (Bad cause) is) h.whole.run.halts

  -- where it halts, it has come to the end of the first pass
  second_ended : second_end.outcome ≡ Halted → second_end.machine ≡ h.end
  second_ended halts =
      let ended = still_halted (at_time (first_setting e) h.time) (first_start e) (first_at (suc h.n)).machine (suc h.n) h.made second_early (first_like Halted halts) in
      let one : (first_at (suc h.n)).machine ≡ h.end = ap (λ (x : After). x.machine) (sym ended ∙ h.whole.run.halts) in
      ap (λ (x : After). x.machine) second_same ∙ ap (renoted h.end.notes) one

  abbrev second_asked : ℕ → ℕ
  second_asked k = weighed_after (again (first_setting e)) (renoted h.end.notes (first_start e)) k

  second_asked_one : second_asked (suc h.n) ≡ second_asked h.n + weighed second_step
  second_asked_one = ap (λ (x : After). second_asked h.n + weighed_in (again (first_setting e)) x.machine x.outcome) second_here

  -- and has asked no fewer questions
  second_asked_all : second_end.outcome ≡ Halted → weighed_after (at_time (first_setting e) h.time) (first_start e) h.made ≤ second_asked (suc h.n)
  second_asked_all halts =
      let still = asked_still (at_time (first_setting e) h.time) (first_start e) (first_at (suc h.n)).machine (suc h.n) h.made second_early (first_like Halted halts) in
      let fewer = repeats_asked (at_time (first_setting e) h.time) (first_start e) refl refl h.end h.made h.whole.run h.whole.ordered (suc h.n) second_early in
      let timeless = weighed_after_again (first_setting e) h.time (renoted h.end.notes (first_start e)) (suc h.n) in
      omega (arith, still, fewer, timeless)

  second_site : (act : Act) × (site_in e.behavior w Second w.place.index ≡ Some act)
  second_site = found_site (again (first_setting e)) w.place.index (machine_in Reading w words) w.second.registers second_never_bad

  -- the next statement
  second_next : (index : ℕ) → second_end.outcome ≡ Next index →
      InSecond e (record (with_machine Reading w second_end.machine) { place = at Second index }) (Some second_end.machine.words) (suc steps) (asked + weighed second_step)
  second_next index next = record {
    is = record { sealed = h.is.sealed; gate = h.is.gate };
    time = h.time;
    made = h.made;
    end = h.end;
    whole = h.whole;
    first = record { first = h.first.first; first_log = h.first.first_log; notes = second_notes };
    space = h.space;
    words = second_end.machine.words;
    lent_are = refl;
    n = suc h.n;
    within = second_early;
    comes = second_one ∙ outcome_at second_end (Next index) next;
    number = omega (arith, h.number);
    questions = omega (arith, h.questions, second_asked_one);
  }

  -- both passes have come to the same end
  both_done : second_end.outcome ≡ Halted →
      InBoth e (record (closed (with_machine Reading w second_end.machine)) { place = at Compare 0 }) (Some second_end.machine.words) h.time h.made h.end (asked + (weighed second_step + 1))
  both_done halts = record {
    whole = h.whole;
    first = record { first = h.first.first; first_log = h.first.first_log; notes = second_notes };
    second = record {
      second = pass_known w.second e.space second_end.machine h.space ∙ ap (pass_of (new_pass e.space)) (second_ended halts);
      second_log = ap (λ (m : Machine). m.log) (second_ended halts);
    };
    words = ap (λ (m : Machine). let o : Option (List ℕ) = Some m.words in o) (second_ended halts);
    questions = omega (arith, h.questions, second_asked_one, second_asked_all halts);
  }

  second_done : second_end.outcome ≡ Halted →
      InCompare e (record (closed (with_machine Reading w second_end.machine)) { place = at Compare 0 }) (Some second_end.machine.words) (suc steps) (asked + (weighed second_step + 1))
  second_done halts = record {
    is = record { sealed = h.is.sealed; gate = ap risen h.is.gate };
    time = h.time;
    made = h.made;
    end = h.end;
    both = both_done halts;
    index = omega arith;
    number = omega (arith, h.number, second_early);
  }

  module _ (now : ℕ) (nothing : w.want ≡ Nothing) where
    -- whatever the clock answers
    second_is : step_tree (setting_in (given_in e) Reading w.sealed now) w.place.index (machine_in Reading w words) ≡ second_step
    second_is =
        ap (λ (s : Sealed). step_tree (setting_in (given_in e) Reading s now) w.place.index (machine_in Reading w words)) h.is.sealed
        ∙ timeless_again (first_setting e) now w.place.index (machine_in Reading w words)

    second_acts : honest (act_in (given_in e) now Second w.place.index w words) ≡ honest (pass_to Reading w second_end)
    second_acts =
        honest_bound (step_tree (setting_in (given_in e) Reading w.sealed now) w.place.index (machine_in Reading w words)) (pass_to Reading w)
        ∙ ap (λ (tree : Tree After). honest (pass_to Reading w (honest tree))) second_is

    second_asks : weighed second_step + asked_behind second_end.outcome ≤ weighed (act_in (given_in e) now Second w.place.index w words)
    second_asks =
        let all = weighed_bound second_step (pass_to Reading w) in
        let behind = pass_behind Reading (with_machine Reading w second_end.machine) second_end.machine.words second_end.outcome in
        let here : weighed second_step + asked_behind second_end.outcome ≤ weighed (bound second_step (pass_to Reading w)) = omega (arith, all, behind) in
        subst (λ (tree : Tree After). weighed second_step + asked_behind second_end.outcome ≤ weighed (bound tree (pass_to Reading w))) (sym second_is) here

    second_asks_closing : second_end.outcome ≡ Halted → weighed second_step + 1 ≤ weighed (act_in (given_in e) now Second w.place.index w words)
    second_asks_closing halts = let one : asked_behind second_end.outcome ≡ 1 = ap asked_behind halts in omega (arith, second_asks, one)

    second_goes : (index : ℕ) → second_end.outcome ≡ Next index → GoesOn e (given_in e) now Second w words Some steps asked
    second_goes index next = record {
      act = second_site.0;
      site = second_site.1;
      workspace = with_machine Reading w second_end.machine;
      left = second_end.machine.words;
      to = at Second index;
      next = tt;
      acts = second_acts ∙ ap (λ (o : Outcome). honest (pass_from Reading (with_machine Reading w second_end.machine) second_end.machine.words o)) next;
      want = nothing;
      more = weighed second_step;
      asks = omega (arith, second_asks);
      clean = second_next index next;
    }

    second_halts : second_end.outcome ≡ Halted → GoesOn e (given_in e) now Second w words Some steps asked
    second_halts halts = record {
      act = second_site.0;
      site = second_site.1;
      workspace = closed (with_machine Reading w second_end.machine);
      left = second_end.machine.words;
      to = at Compare 0;
      next = tt;
      acts =
          second_acts
          ∙ ap (λ (o : Outcome). honest (pass_from Reading (with_machine Reading w second_end.machine) second_end.machine.words o)) halts
          ∙ closes_in_step Second (with_machine Reading w second_end.machine) second_end.machine.words (at Compare 0) h.is.gate;
      want = refl;
      more = weighed second_step + 1;
      asks = second_asks_closing halts;
      clean = second_done halts;
    }

    second_ends : EndsIn second_end.outcome → GoesOn e (given_in e) now Second w words Some steps asked
    second_ends (Goes index next) = second_goes index next
    second_ends (Halts halts) = second_halts halts
    second_ends (Aborting cause bad) = absurd (second_never_bad cause bad)

-- a statement of the second pass leads to the next one, or to the start of Compare
pub second_on : (e : CallContext) (now : ℕ) (w : Workspace) (words : List ℕ) (steps asked : ℕ) → w.want ≡ Nothing →
    InSecond e w (Some words) steps asked → GoesOn e (given_in e) now Second w words Some steps asked
second_on e now w words steps asked nothing h = second_ends e w words steps asked h now nothing (ends_in (second_end e w words steps asked h).outcome)
