-- A whole pass, whatever the clock tells.
use Rattle.std.proofs.Common.{◌≡◌, ℕ, zero, suc, Option, subst, sym, ap}
use Rattle.sei_fault.specs.Chain.{Chain}
use Rattle.sei_fault.specs.Counts.{Counts}
use Rattle.sei_fault.specs.Question.{Question, Answer}
use Rattle.sei_stmt.specs.Comes.{at_time}
use Rattle.sei_stmt.specs.Honest.{IsOnWay, HonestRun}
use Rattle.sei_stmt.specs.Machine.{Machine, Setting, Outcome, After}
use Rattle.sei_stmt.proofs.Public.{begins, run_ends}
use Rattle.sei_pass.specs.Steps.{PassPoint, StepsAt, begun_pass, halted_pass}

module _ {S : Type 0} (gives : S → (q : Question) → Answer q → S → Type 0) (counts : S → Counts) (told : Option ℕ) (g : Setting) (time : ℕ) (start : Machine) (c : S) where
  -- a chain of steps is on its way at that time
  chain_on_way : (n : ℕ) (z : PassPoint S) → Chain (StepsAt gives counts told g time) n (begun_pass start c) z → IsOnWay (at_time g time) start n z.after (counts c) (counts z.core)
  chain_on_way zero z is = subst (λ (x : PassPoint S). IsOnWay (at_time g time) start 0 x.after (counts c) (counts x.core)) (sym is) (begins (at_time g time) start (counts c))
  chain_on_way (suc n) z (y, chain, s) =
      let before = subst (λ (o : Outcome). IsOnWay (at_time g time) start n (record { machine = y.after.machine; outcome = o }) (counts c) (counts y.core)) s.goes (chain_on_way n y chain) in
      s.step.on_way time s.agrees start n (counts c) before

  pub whole_pass : (n : ℕ) (end : Machine) (d : S) → Chain (StepsAt gives counts told g time) n (begun_pass start c) (halted_pass end d) → (counts d).struck ≡ (counts c).struck → HonestRun (at_time g time) start end n
  whole_pass n end d chain none = run_ends (at_time g time) start end n (counts c) (counts d) (chain_on_way n (halted_pass end d) chain) none
