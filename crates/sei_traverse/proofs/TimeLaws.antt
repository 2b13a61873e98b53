-- A first pass until the clock is asked is the same whatever the time will be.
use Rattle.std.proofs.Common.{◌≡◌, ℕ, zero, suc, ◌+◌, ◌-◌, ◌^◌, ◌<◌, ◌≤◌, ◌⊎◌, inl, inr, Bool, true, false, List, [], ◌∷◌, ◌++◌, Option, Some, None, ap, sym, ◌∙◌, arith, refl, subst}
use Rattle.std.specs.Prelude.{nat_lt, slice_get}
use Rattle.std.proofs.Math.Path.{fun_ext}
use Rattle.std.proofs.lemmas.Bool.{cases_lt}
use Rattle.sei_code.specs.Codes.{message_code}
use Rattle.sei_code.specs.Coded.{sealed}
use Rattle.sei_code.specs.declared.coded.Coded.{Coded}
use Rattle.sei_log.specs.declared.notes.Notes.{Notes}
use Rattle.sei_fault.specs.declared.cause.AbortCause.{AbortCause}
use Rattle.sei_fault.specs.Tree.{Tree, honest}
use Rattle.sei_fault.specs.Weights.{weighed}
use Rattle.sei_fault.specs.Tree.Tree.{Ask}
use Rattle.sei_fault.specs.Question.Question.{Value}
use Rattle.sei_stmt.specs.declared.stmt.Stmt.{Stmt}
use Rattle.sei_stmt.specs.declared.stmt.Stmt.TheVariants.{Now, Render}
use Rattle.sei_stmt.specs.Machine.{Machine, Setting, Outcome, After, one_made}
use Rattle.sei_stmt.specs.Machine.Outcome.{Next, Halted, Bad}
use Rattle.sei_stmt.specs.Weights.{making, weighed_in, weighed_after}
use Rattle.sei_stmt.specs.Statements.{now_tree, render_bytes, render_words, statement_tree, count_if, found_tree, step_tree}
use Rattle.sei_stmt.proofs.PublicStatementRuns.{by_statements}
use Rattle.sei_stmt.specs.Honest.{after, onward, onward_from, HonestRun}
use Rattle.sei_stmt.specs.Order.{finished, stage_onward, stage_after}
use Rattle.sei_stmt.specs.Sound.{RisesFrom}
use Rattle.sei_stmt.proofs.PublicTimes.Asks.{Timed, Untimed}
use Rattle.sei_stmt.proofs.Public.{Asks, asks, timing, timed_step, timeless, timeless_again, after_one, still_halted, halts_or_aborts, halts_or_goes_on}
use Rattle.sei_traverse.specs.Comes.{at_time, again, Agrees, Comes, EndsAt, EndsAlways}
use Rattle.sei_traverse.specs.CallContext.{no_notes}
use Rattle.sei_traverse.proofs.NoteLaws.{now_kept, stage_of, untimed_before}

-- the second pass at any time

onward_again : (g : Setting) (t : ℕ) (m : Machine) (o : Outcome) → onward_from (at_time (again g) t) m o ≡ onward_from (again g) m o
onward_again g t m (Next i) = ap (λ (tree : Tree After). honest tree) (timeless_again g t i m)
onward_again g t m Halted = refl
onward_again g t m (Bad cause) = refl

asked_again : (g : Setting) (t : ℕ) (m : Machine) (o : Outcome) → weighed_in (at_time (again g) t) m o ≡ weighed_in (again g) m o
asked_again g t m (Next i) = ap (λ (tree : Tree After). weighed tree) (timeless_again g t i m)
asked_again g t m Halted = refl
asked_again g t m (Bad cause) = refl

-- so its honest runs are the same whatever the time is
pub after_again : (g : Setting) (t : ℕ) (start : Machine) (n : ℕ) → after (at_time (again g) t) start n ≡ after (again g) start n
after_again g t start zero = refl
after_again g t start (suc n) =
    ap (onward (at_time (again g) t)) (after_again g t start n) ∙ onward_again g t (after (again g) start n).machine (after (again g) start n).outcome

pub weighed_after_again : (g : Setting) (t : ℕ) (start : Machine) (n : ℕ) → weighed_after (at_time (again g) t) start n ≡ weighed_after (again g) start n
weighed_after_again g t start zero = refl
weighed_after_again g t start (suc n) =
    let here : weighed_in (at_time (again g) t) (after (at_time (again g) t) start n).machine (after (at_time (again g) t) start n).outcome
    ≡ weighed_in (again g) (after (again g) start n).machine (after (again g) start n).outcome =
    ap (λ (x : After). weighed_in (at_time (again g) t) x.machine x.outcome) (after_again g t start n) ∙ asked_again g t (after (again g) start n).machine (after (again g) start n).outcome in
    omega (arith, here, weighed_after_again g t start n)

-- one honest step more of a first pass

-- a time that the notes don't speak against is one of the clock
pub within_clock : (o : Option Coded) (t : ℕ) → Agrees o t → t < 2 ^ 64
within_clock None t a = a
within_clock (Some c) t a = a.1

-- a first pass has come to its beginning
pub comes_start : (g : Setting) (start : Machine) → start.notes ≡ no_notes → Comes g start 0 (record { machine = start; outcome = Next 0 }) 0
comes_start g start blank =
    let none : start.notes.now ≡ None = ap (λ (n : Notes). n.now) blank in
    record { time = 0; agrees = subst (λ o. Agrees o 0) (sym none) (omega arith); run = λ now a. refl; asked = λ now a. refl }

asked_one : (g : Setting) (start m : Machine) (i n q : ℕ) (tree : Tree After) → after g start n ≡ record { machine = m; outcome = Next i } → weighed_after g start n ≡ q → step_tree g i m ≡ tree →
    weighed_after g start (suc n) ≡ q + weighed tree
asked_one g start m i n q tree e f h =
    ap (λ (x : After). weighed_after g start n + weighed_in g x.machine x.outcome) e ∙ ap (λ k. k + weighed (step_tree g i m)) f ∙ ap (λ (x : Tree After). q + weighed x) h

module _ (g : Setting) (start : Machine) (first : g.reading ≡ false) (blank : start.notes ≡ no_notes) (always : EndsAlways g start) where
  -- where the run goes on it has not ended
  pub goes_on : (n i t : ℕ) (m : Machine) (lt : t < 2 ^ 64) → after (at_time g t) start n ≡ record { machine = m; outcome = Next i } → n < (always t lt).steps
  goes_on n i t m lt e = by_order (cases_lt n (always t lt).steps)
    where
      by_order : (n < (always t lt).steps) ⊎ ((always t lt).steps ≤ n) → n < (always t lt).steps
      by_order (inl h) = h
      by_order (inr h) = absurd (halts_or_goes_on (at_time g t) start m (always t lt).end i n (always t lt).steps h e (always t lt).halts.halts)

  -- where the time is asked for nothing was noted
  none_noted : (n i to q : ℕ) (m : Machine) → Comes g start n (record { machine = m; outcome = Next i }) q → slice_get g.statements i ≡ Some (Now to) → m.notes.now ≡ None
  none_noted n i to q m c is =
      let lt = within_clock m.notes.now c.time c.agrees in
      let e = always c.time lt in
      let here = c.run c.time c.agrees in
      let s = stage_of (at_time g c.time) start (suc n) e.steps finished (goes_on n i c.time m lt here) e.ordered in
      untimed_before (at_time g c.time) start first blank n i to s.0 m here is s.1

  comes_untimed : (n i q t : ℕ) (m : Machine) → Comes g start n (record { machine = m; outcome = Next i }) q → ((to : ℕ) → slice_get g.statements i ≡ Some (Now to) → ⊥) →
      Comes g start (suc n) (honest (step_tree (at_time g t) i m)) (q + weighed (step_tree (at_time g t) i m))
  comes_untimed n i q t m c other =
      let kept : (honest (step_tree (at_time g t) i m)).machine.notes.now ≡ m.notes.now = now_kept (at_time g t) i m other in
      let same : (now : ℕ) → step_tree (at_time g now) i m ≡ step_tree (at_time g t) i m = λ now. timeless g now i m other ∙ sym (timeless g t i m other) in
      record {
        time = c.time;
        agrees = subst (λ o. Agrees o c.time) (sym kept) c.agrees;
        run = λ now a. after_one (at_time g now) start m i n _ (c.run now (subst (λ o. Agrees o now) kept a)) (ap (λ (x : Tree After). honest x) (sym (same now)));
        asked = λ now a. let b = subst (λ o. Agrees o now) kept a in asked_one (at_time g now) start m i n q _ (c.run now b) (c.asked now b) (same now);
      }

  comes_timed : (n i to q t : ℕ) (m : Machine) (enough : Bool) → t < 2 ^ 64 → Comes g start n (record { machine = m; outcome = Next i }) q → slice_get g.statements i ≡ Some (Now to) →
      ((now : ℕ) → step_tree (at_time g now) i m ≡ timing g m i to enough now) → Comes g start (suc n) (honest (timing g m i to enough t)) (q + weighed (timing g m i to enough t))
  comes_timed n i to q t m true lt c is each =
      let none = none_noted n i to q m c is in
      let before : (now : ℕ) → now < 2 ^ 64 → Agrees m.notes.now now = λ now h. subst (λ o. Agrees o now) (sym none) h in
      let same : (now : ℕ) → sealed t ≡ sealed now → step_tree (at_time g now) i m ≡ timing g m i to true t =
      λ now e. each now ∙ ap (timing g m i to true) (sym (ap (λ (c : Coded). c.value) e)) in
      record {
        time = t;
        agrees = (refl, lt);
        run = λ now a. after_one (at_time g now) start m i n _ (c.run now (before now a.1)) (ap (λ (x : Tree After). honest x) (sym (same now a.0)));
        asked = λ now a. asked_one (at_time g now) start m i n q _ (c.run now (before now a.1)) (c.asked now (before now a.1)) (same now a.0);
      }
  comes_timed n i to q t m false lt c is each = record {
    time = c.time;
    agrees = c.agrees;
    run = λ now a. after_one (at_time g now) start m i n _ (c.run now a) (ap (λ (x : Tree After). honest x) (sym (each now)));
    asked = λ now a. asked_one (at_time g now) start m i n q _ (c.run now a) (c.asked now a) (each now);
  }

  -- one honest step more at any time of the clock
  pub comes_on : (n i q t : ℕ) (m : Machine) → Comes g start n (record { machine = m; outcome = Next i }) q → t < 2 ^ 64 →
      Comes g start (suc n) (honest (step_tree (at_time g t) i m)) (q + weighed (step_tree (at_time g t) i m))
  comes_on n i q t m c lt = by_statement (asks (slice_get g.statements i))
    where
      by_statement : Asks (slice_get g.statements i) → Comes g start (suc n) (honest (step_tree (at_time g t) i m)) (q + weighed (step_tree (at_time g t) i m))
      by_statement (Timed to is) =
          subst (λ (x : Tree After). Comes g start (suc n) (honest x) (q + weighed x)) (sym (timed_step g m i to t first is))
          (comes_timed n i to q t m (nat_lt m.made g.budget) lt c is (λ now. timed_step g m i to now first is))
      by_statement (Untimed other) = comes_untimed n i q t m c other

-- a time that the notes agree with before such a step, they agree with behind it
agrees_timed : (g : Setting) (m : Machine) (i to t : ℕ) (enough : Bool) → t < 2 ^ 64 → Agrees m.notes.now t → Agrees (honest (timing g m i to enough t)).machine.notes.now t
agrees_timed g m i to t true lt a = (refl, lt)
agrees_timed g m i to t false lt a = a

pub agrees_on : (g : Setting) → g.reading ≡ false → (t i : ℕ) (m : Machine) → t < 2 ^ 64 → Agrees m.notes.now t → Agrees (honest (step_tree (at_time g t) i m)).machine.notes.now t
agrees_on g first t i m lt a = by_statement (asks (slice_get g.statements i))
  where
    by_statement : Asks (slice_get g.statements i) → Agrees (honest (step_tree (at_time g t) i m)).machine.notes.now t
    by_statement (Timed to is) =
        subst (λ (x : Tree After). Agrees (honest x).machine.notes.now t) (sym (timed_step g m i to t first is)) (agrees_timed g m i to t (nat_lt m.made g.budget) lt a)
    by_statement (Untimed other) = subst (λ o. Agrees o t) (sym (now_kept (at_time g t) i m other)) a

agrees_from : (g : Setting) → g.reading ≡ false → (t : ℕ) (m : Machine) (o : Outcome) → t < 2 ^ 64 → Agrees m.notes.now t → Agrees (onward_from (at_time g t) m o).machine.notes.now t
agrees_from g first t m (Next i) lt a = agrees_on g first t i m lt a
agrees_from g first t m Halted lt a = a
agrees_from g first t m (Bad cause) lt a = a

-- and behind any number of such steps
pub agrees_behind : (g : Setting) → g.reading ≡ false → (start : Machine) (t n : ℕ) → t < 2 ^ 64 → Agrees start.notes.now t → Agrees (after (at_time g t) start n).machine.notes.now t
agrees_behind g first start t zero lt a = a
agrees_behind g first start t (suc n) lt a =
    let x = after (at_time g t) start n in
    agrees_from g first t x.machine x.outcome lt (agrees_behind g first start t n lt a)

-- how a first pass ends

-- behind the end of a run the stage stays
stage_halted : (g : Setting) (o : Option ℕ) → stage_onward g o Halted ≡ o
stage_halted g None = refl
stage_halted g (Some s) = refl

stage_stays : (g : Setting) (start m : Machine) (n d : ℕ) → after g start n ≡ record { machine = m; outcome = Halted } → stage_after g start (d + n) ≡ stage_after g start n
stage_stays g start m n zero e = let here : zero + n ≡ n = omega arith in ap (stage_after g start) here
stage_stays g start m n (suc d) e =
    let one : suc d + n ≡ suc (d + n) = omega arith in
    let ended : after g start (d + n) ≡ record { machine = m; outcome = Halted } = still_halted g start m n (d + n) (omega arith) e in
    ap (stage_after g start) one
    ∙ ap (λ (x : After). stage_onward g (stage_after g start (d + n)) x.outcome) ended
    ∙ stage_halted g (stage_after g start (d + n))
    ∙ stage_stays g start m n d e

stage_still : (g : Setting) (start m : Machine) (n k : ℕ) → n ≤ k → after g start n ≡ record { machine = m; outcome = Halted } → stage_after g start k ≡ stage_after g start n
stage_still g start m n k le e = let there : k - n + n ≡ k = omega (arith, le) in ap (stage_after g start) (sym there) ∙ stage_stays g start m n (k - n) e

-- two places where a run has ended are one
record OneEnd (g : Setting) (start m end : Machine) (n k : ℕ) : Type 0 where
  machine : m ≡ end
  stage : stage_after g start n ≡ stage_after g start k

one_end : (g : Setting) (start m end : Machine) (n k : ℕ) → after g start n ≡ record { machine = m; outcome = Halted } → after g start k ≡ record { machine = end; outcome = Halted } → OneEnd g start m end n k
one_end g start m end n k e f = by_order (cases_lt n k)
  where
    by_order : (n < k) ⊎ (k ≤ n) → OneEnd g start m end n k
    by_order (inl h) = record {
      machine = ap (λ (x : After). x.machine) (sym (still_halted g start m n k (omega (arith, h)) e) ∙ f);
      stage = sym (stage_still g start m n k (omega (arith, h)) e);
    }
    by_order (inr h) = record {
      machine = ap (λ (x : After). x.machine) (sym e ∙ still_halted g start end k n h f);
      stage = stage_still g start end k n h f;
    }

-- where a first pass that always ends well has come to
pub record Stands (g : Setting) (start : Machine) (n t : ℕ) (x : After) : Type 0 where
  pub never_bad : (cause : AbortCause) → x.outcome ≡ Bad cause → ⊥
  pub run : x.outcome ≡ Halted → HonestRun (at_time g t) start x.machine n
  pub ordered : x.outcome ≡ Halted → stage_after (at_time g t) start n ≡ Some finished
  pub rising : x.outcome ≡ Halted → RisesFrom 0 x.machine.log.items
  pub coded : x.outcome ≡ Halted → x.machine.code ≡ Some (message_code g.answer x.machine.bytes.items)
  pub within : (i : ℕ) → x.outcome ≡ Next i → n < g.budget

module _ (g : Setting) (start : Machine) (always : EndsAlways g start) where
  stands : (n t : ℕ) (m : Machine) (o : Outcome) → EndsAt g start t → after (at_time g t) start n ≡ record { machine = m; outcome = o } → Stands g start n t (record { machine = m; outcome = o })
  stands n t m o e here = record {
    never_bad = λ cause is. halts_or_aborts (at_time g t) start m e.end cause n e.steps (at o (Bad cause) is here) e.halts.halts;
    run = λ is. record { halts = at o Halted is here };
    ordered = λ is. (ends is).stage ∙ e.ordered;
    rising = λ is. subst (λ (x : Machine). RisesFrom 0 x.log.items) (sym (ends is).machine) e.rising;
    coded = λ is. subst (λ (x : Machine). x.code ≡ Some (message_code g.answer x.bytes.items)) (sym (ends is).machine) e.coded;
    within = λ i is. by_order i is (cases_lt n e.steps);
  }
    where
      at : (o p : Outcome) → o ≡ p → after (at_time g t) start n ≡ record { machine = m; outcome = o } → after (at_time g t) start n ≡ record { machine = m; outcome = p }
      at o p is f = subst (λ p. after (at_time g t) start n ≡ record { machine = m; outcome = p }) is f

      ends : o ≡ Halted → OneEnd (at_time g t) start m e.end n e.steps
      ends is = one_end (at_time g t) start m e.end n e.steps (at o Halted is here) e.halts.halts

      by_order : (i : ℕ) → o ≡ Next i → (n < e.steps) ⊎ (e.steps ≤ n) → n < g.budget
      by_order i is (inl h) = omega (arith, h, e.within)
      by_order i is (inr h) = absurd (halts_or_goes_on (at_time g t) start m e.end i n e.steps h (at o (Next i) is here) e.halts.halts)

  -- it never aborts, ends in order with changes that rise and the code of its bytes, and goes on within its budget only
  pub ends_so : (n q : ℕ) (x : After) (c : Comes g start n x q) → Stands g start n c.time x
  ends_so n q x c = stands n c.time x.machine x.outcome (always c.time (within_clock x.machine.notes.now c.time c.agrees)) (c.run c.time c.agrees)
