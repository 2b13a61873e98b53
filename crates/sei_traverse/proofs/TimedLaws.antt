-- An honest first pass that made its statements in their order has noted its time.
use Rattle.std.proofs.Common.{◌≡◌, ℕ, zero, suc, ◌≤◌, Bool, true, false, Option, Some, None, ap, sym, ◌∙◌, arith, refl, subst}
use Rattle.std.specs.Prelude.{⊤, nat_lt, slice_get}
use Rattle.std.proofs.lemmas.Bool.{eqb-true, ltb-true, and_parts}
use Rattle.sei_code.specs.Coded.{sealed}
use Rattle.sei_fault.specs.Tree.{Tree, honest}
use Rattle.sei_stmt.specs.declared.stmt.Stmt.{Stmt}
use Rattle.sei_stmt.specs.declared.stmt.Stmt.TheVariants.{Input, Emit, Now, Alloc, Parse, Render, Halt}
use Rattle.sei_stmt.specs.Machine.{Machine, Setting, Outcome, After}
use Rattle.sei_stmt.specs.Machine.Outcome.{Next, Halted, Bad}
use Rattle.sei_stmt.specs.Statements.{step_tree}
use Rattle.sei_stmt.specs.Honest.{after, onward_from, HonestRun}
use Rattle.sei_stmt.specs.Order.{timed, finished, stage_behind, stage_behind_found, stage_onward, stage_after}
use Rattle.sei_stmt.proofs.PublicTimes.Asks.{Timed, Untimed}
use Rattle.sei_stmt.proofs.Public.{Asks, asks, timing, timed_step}
use Rattle.sei_traverse.specs.Comes.{at_time}
use Rattle.sei_traverse.proofs.NoteLaws.{now_kept, only_so}

abbrev IsNoAbort : Outcome → Type 0
IsNoAbort (Bad cause) = ⊥
IsNoAbort o = ⊤

-- only the statement that asks for the time leads to the stage of the time
timed_before : (stage next : ℕ) (s : Stmt) → ((to : ℕ) → s ≡ Now to → ⊥) → stage_behind stage s ≡ Some next → timed ≤ next → timed ≤ stage
timed_before stage next (Input to index) other e le = omega (arith, le, (only_so _ _ _ e).1)
timed_before stage next (Emit from) other e le = omega (arith, le, (only_so _ _ _ e).1)
timed_before stage next (Now to) other e le = absurd (other to refl)
timed_before stage next (Alloc to moment) other e le = omega (arith, eqb-true stage 2 (only_so _ _ _ e).0)
timed_before stage next Parse other e le = absurd (omega (arith, le, (only_so _ _ _ e).1))
timed_before stage next Render other e le = omega (arith, ltb-true 1 stage (and_parts _ _ (only_so _ _ _ e).0).0)
timed_before stage next Halt other e le = omega (arith, eqb-true stage 4 (only_so _ _ _ e).0)
timed_before stage next s other e le = let same : stage ≡ next = cc in omega (arith, same, le)

timed_found : (stage next : ℕ) (o : Option Stmt) → ((to : ℕ) → o ≡ Some (Now to) → ⊥) → stage_behind_found stage o ≡ Some next → timed ≤ next → timed ≤ stage
timed_found stage next None other e le = absurd cc
timed_found stage next (Some s) other e le = timed_before stage next s (λ to is. other to (ap Some is)) e le

module _ (g : Setting) (first : g.reading ≡ false) (t : ℕ) where
  abbrev HasTime : After → Type 0
  HasTime x = IsNoAbort x.outcome → x.machine.notes.now ≡ Some (sealed t)

  timing_notes : (m : Machine) (i to : ℕ) (enough : Bool) → HasTime (honest (timing g m i to enough t))
  timing_notes m i to true fine = refl
  timing_notes m i to false fine = absurd fine

  step_notes : (m : Machine) (i stage next : ℕ) → (timed ≤ stage → m.notes.now ≡ Some (sealed t)) → stage_behind_found stage (slice_get g.statements i) ≡ Some next → timed ≤ next →
      HasTime (honest (step_tree (at_time g t) i m))
  step_notes m i stage next noted e le = by_statement (asks (slice_get g.statements i))
    where
      by_statement : Asks (slice_get g.statements i) → HasTime (honest (step_tree (at_time g t) i m))
      by_statement (Timed to is) = subst (λ (x : Tree After). HasTime (honest x)) (sym (timed_step g m i to t first is)) (timing_notes m i to (nat_lt m.made g.budget))
      by_statement (Untimed other) = λ fine. now_kept (at_time g t) i m other ∙ noted (timed_found stage next (slice_get g.statements i) other e le)

  onward_notes : (m : Machine) (o : Outcome) (stage : Option ℕ) (next : ℕ) → ((s : ℕ) → stage ≡ Some s → timed ≤ s → IsNoAbort o → m.notes.now ≡ Some (sealed t)) →
      stage_onward (at_time g t) stage o ≡ Some next → timed ≤ next → HasTime (onward_from (at_time g t) m o)
  onward_notes m o None next noted e le = absurd cc
  onward_notes m (Next i) (Some s) next noted e le = step_notes m i s next (λ at. noted s refl at tt) e le
  onward_notes m Halted (Some s) next noted e le = let same : s ≡ next = cc in λ fine. noted s refl (omega (arith, same, le)) fine
  onward_notes m (Bad cause) (Some s) next noted e le = absurd cc

  module _ (start : Machine) where
    after_notes : (n stage : ℕ) → stage_after (at_time g t) start n ≡ Some stage → timed ≤ stage → HasTime (after (at_time g t) start n)
    after_notes zero stage e le = let same : 0 ≡ stage = cc in absurd (omega (arith, same, le))
    after_notes (suc n) stage e le =
        let x = after (at_time g t) start n in
        onward_notes x.machine x.outcome (stage_after (at_time g t) start n) stage (λ s is at fine. after_notes n s is at fine) e le

    pub time_is_noted : (n : ℕ) (end : Machine) → HonestRun (at_time g t) start end n → stage_after (at_time g t) start n ≡ Some finished → end.notes.now ≡ Some (sealed t)
    time_is_noted n end run ordered = subst HasTime run.halts (after_notes n finished ordered (omega arith)) tt
