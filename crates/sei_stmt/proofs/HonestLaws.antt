-- A pass is on its way to the end of an honest run as long as nothing strikes.
use Rattle.std.proofs.Common.{◌≡◌, ℕ, zero, suc, ◌+◌, ◌-◌, ◌^◌, ◌<◌, ◌≤◌, ap, sym, ◌∙◌, arith, refl, subst}
use Rattle.sei_fault.specs.Counts.{Counts}
use Rattle.sei_fault.specs.declared.cause.AbortCause.{AbortCause}
use Rattle.sei_fault.specs.Tree.{Runs, any_core, honest, questions}
use Rattle.sei_fault.specs.Strikes.{Split}
use Rattle.sei_fault.specs.Strikes.Split.{Clean, Once, More}
use Rattle.sei_fault.proofs.Public.{split, grows}
use Rattle.sei_stmt.specs.Machine.{Machine, Setting, After}
use Rattle.sei_stmt.specs.Machine.Outcome.{Next, Halted, Bad}
use Rattle.sei_stmt.specs.Statements.{step_tree}
use Rattle.sei_stmt.specs.Honest.{after, onward, asked_in, asked_after, IsOnWay, HonestRun}

-- a pass is on its way where it begins
pub begins : (g : Setting) (start : Machine) (c : Counts) → IsOnWay g start 0 (record { machine = start; outcome = Next 0 }) c c
begins g start c = record { later = omega arith; honest = λ e. refl; counted = λ e l. omega arith }

-- one honest step more
pub after_one : (g : Setting) (start m : Machine) (i n : ℕ) (x : After) →
    after g start n ≡ record { machine = m; outcome = Next i } → x ≡ honest (step_tree g i m) → after g start (suc n) ≡ x
after_one g start m i n x e f = ap (onward g) e ∙ sym f

asked_one : (g : Setting) (start m : Machine) (i n : ℕ) →
    after g start n ≡ record { machine = m; outcome = Next i } → asked_after g start (suc n) ≡ asked_after g start n + questions (step_tree g i m)
asked_one g start m i n e = ap (λ x. asked_after g start n + asked_in g x.machine x.outcome) e

-- one step more, split by what struck in it
pub step_split : (g : Setting) (start m : Machine) (i n : ℕ) (x : After) (b c d : Counts) (once : Type 0) →
    IsOnWay g start n (record { machine = m; outcome = Next i }) b c → (d.asked < 2 ^ 128 - 1 → c.asked ≤ d.asked) →
    Split x (honest (step_tree g i m)) once (questions (step_tree g i m)) c d → IsOnWay g start (suc n) x b d
step_split g start m i n x b c d once w le (Clean p r q) = record {
  later = omega (arith, w.later);
  honest = λ e. after_one g start m i n x (w.honest (sym r ∙ e)) p;
  counted = λ e l.
      let one = asked_one g start m i n (w.honest (sym r ∙ e)) in
      let lower = le l in
      let before = w.counted (sym r ∙ e) (omega (arith, lower)) in
      let now = q l in
      omega (arith, one, before, now);
}
step_split g start m i n x b c d once w le (Once p r) =
    record { later = omega (arith, w.later); honest = λ e. absurd (omega (arith, w.later)); counted = λ e l. absurd (omega (arith, w.later)) }
step_split g start m i n x b c d once w le (More r) =
    record { later = omega (arith, w.later); honest = λ e. absurd (omega (arith, w.later)); counted = λ e l. absurd (omega (arith, w.later)) }

-- one step more, under any core
pub on_way : (g : Setting) (start m : Machine) (i n : ℕ) (x : After) (b c d : Counts) →
    IsOnWay g start n (record { machine = m; outcome = Next i }) b c → Runs any_core (step_tree g i m) c d x → IsOnWay g start (suc n) x b d
on_way g start m i n x b c d w r = step_split g start m i n x b c d _ w (grows (step_tree g i m) c d x r) (split (step_tree g i m) c d x r)

-- where nothing struck, the pass that has halted was an honest run
pub run_ends : (g : Setting) (start m : Machine) (n : ℕ) (b d : Counts) →
    IsOnWay g start n (record { machine = m; outcome = Halted }) b d → d.struck ≡ b.struck → HonestRun g start m n
run_ends g start m n b d w e = record { halts = w.honest e }

-- a run that has ended stays there

halted_stays : (g : Setting) (start m : Machine) (n k : ℕ) → after g start n ≡ record { machine = m; outcome = Halted } → after g start (k + n) ≡ record { machine = m; outcome = Halted }
halted_stays g start m n zero e = let here : zero + n ≡ n = omega arith in ap (after g start) here ∙ e
halted_stays g start m n (suc k) e = let one : suc k + n ≡ suc (k + n) = omega arith in ap (after g start) one ∙ ap (onward g) (halted_stays g start m n k e)

pub still_halted : (g : Setting) (start m : Machine) (n k : ℕ) → n ≤ k → after g start n ≡ record { machine = m; outcome = Halted } → after g start k ≡ record { machine = m; outcome = Halted }
still_halted g start m n k le e = let there : k - n + n ≡ k = omega (arith, le) in subst (λ j. after g start j ≡ record { machine = m; outcome = Halted }) there (halted_stays g start m n (k - n) e)

bad_stays : (g : Setting) (start m : Machine) (cause : AbortCause) (n k : ℕ) → after g start n ≡ record { machine = m; outcome = Bad cause } → after g start (k + n) ≡ record { machine = m; outcome = Bad cause }
bad_stays g start m cause n zero e = let here : zero + n ≡ n = omega arith in ap (after g start) here ∙ e
bad_stays g start m cause n (suc k) e = let one : suc k + n ≡ suc (k + n) = omega arith in ap (after g start) one ∙ ap (onward g) (bad_stays g start m cause n k e)

-- so a run that halts aborts nowhere
pub halts_or_aborts : (g : Setting) (start m end : Machine) (cause : AbortCause) (n k : ℕ) → after g start n ≡ record { machine = m; outcome = Bad cause } → after g start k ≡ record { machine = end; outcome = Halted } → ⊥
halts_or_aborts g start m end cause n k bad halted =
    let here = bad_stays g start m cause n k bad in
    let there : k + n ≡ n + k = omega arith in
    let same : after g start (k + n) ≡ record { machine = end; outcome = Halted } = ap (after g start) there ∙ halted_stays g start end k n halted in
    apart (sym (ap (λ (x : After). x.outcome) here) ∙ ap (λ (x : After). x.outcome) same)
  where
    apart : Bad cause ≡ Halted → ⊥
    apart e = cc

-- and goes on nowhere behind its end
pub halts_or_goes_on : (g : Setting) (start m end : Machine) (i n k : ℕ) → k ≤ n → after g start n ≡ record { machine = m; outcome = Next i } → after g start k ≡ record { machine = end; outcome = Halted } → ⊥
halts_or_goes_on g start m end i n k le going halted =
    apart (sym (ap (λ (x : After). x.outcome) going) ∙ ap (λ (x : After). x.outcome) (still_halted g start end k n le halted))
  where
    apart : Next i ≡ Halted → ⊥
    apart e = cc
