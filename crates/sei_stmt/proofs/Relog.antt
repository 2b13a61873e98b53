-- An honest statement does the same with another log that is no longer.
use Rattle.std.proofs.Common.{◌≡◌, ◌∙◌, ℕ, ◌≤◌, Bool, true, false, [], ◌∷◌, length, length-append, Option, Some, None, slice_get, refl, sym, ap, subst, arith}
use Rattle.std.proofs.lemmas.Bool.{ltb-true, lt-ltb}
use Rattle.std.specs.Prelude.{⊤, ◌==◌}
use Rattle.sei_code.specs.Coded.{read_of}
use Rattle.sei_code.specs.Kept.{Kept, has_room, pushed}
use Rattle.sei_code.specs.declared.coded.Coded.{Coded}
use Rattle.sei_fault.proofs.Public.{always_honest}
use Rattle.sei_fault.specs.Tree.{Tree, honest}
use Rattle.sei_fault.specs.Weights.{weighed}
use Rattle.sei_log.specs.Changes.{change_of}
use Rattle.sei_log.specs.declared.log.Change.{Change}
use Rattle.sei_stmt.specs.declared.stmt.Stmt.{Stmt}
use Rattle.sei_stmt.specs.Machine.{Machine, Setting, Outcome, After, register, one_made, with_log, at_outcome}
use Rattle.sei_stmt.specs.Machine.Outcome.{Next, Halted, Bad}
use Rattle.sei_stmt.specs.Slots.{is_admissible}
use Rattle.sei_stmt.specs.Statements.{store_if, same_if, store_word, noted_value, noted_now, now_by, fit_if, noted_slot_value, noted_slot, alloc_by, statement_tree, step_tree}
use Rattle.sei_stmt.proofs.PublicEffects.{Quiet, quiet}
use Rattle.sei_stmt.proofs.PublicStatementRuns.{IsPlain, looks, plain_is_no_store, plain_repeats, by_statements}
use Rattle.sei_stmt.proofs.PublicStatementRuns.Looks.{Stores, Times, Slots, Neither}

-- the pass goes on, or has halted
abbrev pub IsGoing : Outcome → Type 0
IsGoing (Next i) = ⊤
IsGoing Halted = ⊤
IsGoing (Bad cause) = ⊥

-- one end is another but for its log, which is no longer
pub record Relogs (x y : After) : Type 0 where
  pub log : Kept Change
  pub same : x ≡ at_outcome (with_log y.machine log) y.outcome
  pub room : log.room ≡ y.machine.log.room
  pub fewer : length log.items ≤ length y.machine.log.items

-- one piece of work ends as another but for its log, and asks no more
record Alike (t u : Tree After) : Type 0 where
  end : Relogs (honest t) (honest u)
  asks : weighed t ≤ weighed u

-- where the real log has room, so has the other
room_less : (log real : Kept Change) → log.room ≡ real.room → length log.items ≤ length real.items → has_room real ≡ true → has_room log ≡ true
room_less log real r f e = lt-ltb (length log.items) log.room (omega (arith, r, f, ltb-true (length real.items) real.room e))

-- Each statement with another log.

module _ (i : ℕ) (m : Machine) (log : Kept Change) (r : log.room ≡ m.log.room) (f : length log.items ≤ length m.log.items) where
  alike_noted : (to : ℕ) (n : Option ℕ) → Alike (noted_value i (with_log m log) to n) (noted_value i m to n)
  alike_noted to None = record { end = record { log = log; same = refl; room = r; fewer = f }; asks = omega arith }
  alike_noted to (Some n) = record { end = record { log = log; same = refl; room = r; fewer = f }; asks = omega arith }

  alike_note : (to : ℕ) (note : Option Coded) → Alike (noted_now i (with_log m log) to note) (noted_now i m to note)
  alike_note to None = record { end = record { log = log; same = refl; room = r; fewer = f }; asks = omega arith }
  alike_note to (Some note) = alike_noted to (read_of note)

  alike_now : (g : Setting) (to : ℕ) (reading : Bool) → Alike (now_by reading g i (with_log m log) to) (now_by reading g i m to)
  alike_now g to true = alike_note to m.notes.now
  alike_now g to false = record { end = record { log = log; same = refl; room = r; fewer = f }; asks = omega arith }

  alike_fit : (to slot : ℕ) (fit : Bool) → Alike
      (fit_if fit i (with_log m log) to slot)
      (fit_if fit i m to slot)
  alike_fit to slot true = record { end = record { log = log; same = refl; room = r; fewer = f }; asks = omega arith }
  alike_fit to slot false = record { end = record { log = log; same = refl; room = r; fewer = f }; asks = omega arith }

  alike_slot : (g : Setting) (to moment : ℕ) (slot : Option ℕ) → Alike (noted_slot_value g i (with_log m log) to moment slot) (noted_slot_value g i m to moment slot)
  alike_slot g to moment None = record { end = record { log = log; same = refl; room = r; fewer = f }; asks = omega arith }
  alike_slot g to moment (Some slot) =
      let a = alike_fit to slot (is_admissible g m.words moment slot) in record { end = a.end; asks = omega (arith, a.asks) }

  alike_noted_slot : (g : Setting) (to moment : ℕ) (note : Option Coded) → Alike (noted_slot g i (with_log m log) to moment note) (noted_slot g i m to moment note)
  alike_noted_slot g to moment None = record { end = record { log = log; same = refl; room = r; fewer = f }; asks = omega arith }
  alike_noted_slot g to moment (Some note) = alike_slot g to moment (read_of note)

  alike_alloc : (g : Setting) (to t : ℕ) (reading : Bool) → Alike
      (alloc_by reading g i (with_log m log) to t)
      (alloc_by reading g i m to t)
  alike_alloc g to t true = alike_noted_slot g to t m.notes.slot
  alike_alloc g to t false = record { end = record { log = log; same = refl; room = r; fewer = f }; asks = omega arith }

  -- a store logs one change more in either log, where the real one has room
  alike_changed : (a was v : ℕ) (real other : Bool) → (real ≡ true → other ≡ true) →
      IsGoing (honest (store_if real i m a was v)).outcome → Alike
      (store_if other i (with_log m log) a was v)
      (store_if real i m a was v)
  alike_changed a was v true true h go = record {
    end = record {
      log = pushed log (change_of a was v);
      same = refl;
      room = r;
      fewer = omega (arith, f, length-append log.items (change_of a was v ∷ []), length-append m.log.items (change_of a was v ∷ []));
    };
    asks = omega arith;
  }
  alike_changed a was v true false h go = let e : false ≡ true = h refl in absurd (let z : ⊥ = cc in z)
  alike_changed a was v false other h go = absurd go

  alike_tested : (a was v : ℕ) (same : Bool) → IsGoing (honest (same_if same i m a was v)).outcome → Alike
      (same_if same i (with_log m log) a was v)
      (same_if same i m a was v)
  alike_tested a was v true go = record { end = record { log = log; same = refl; room = r; fewer = f }; asks = omega arith }
  alike_tested a was v false go = alike_changed a was v (has_room m.log) (has_room log) (room_less log m.log r f) go

  alike_store : (from a : ℕ) (word : Option ℕ) → IsGoing (honest (store_word i m from a word)).outcome → Alike (store_word i (with_log m log) from a word) (store_word i m from a word)
  alike_store from a None go = absurd go
  alike_store from a (Some word) go =
      let b = alike_tested a word (register m from) (word == register m from) go in record { end = b.end; asks = omega (arith, b.asks) }

  -- the others do not look at it
  alike_plain : (g : Setting) (s : Stmt) → IsPlain s → Alike (statement_tree g i (with_log m log) s) (statement_tree g i m s)
  alike_plain g s plain =
      let e = plain_repeats g.reading g.now (λ old. log) (λ notes. notes) g i m s plain in
      let q = always_honest (λ x. Quiet m x.machine) (statement_tree g i m s) (quiet g i m s (plain_is_no_store s plain)) in
      record {
        end = record {
          log = log;
          same = e.ended;
          room = r ∙ ap (λ k. k.room) (sym q.1);
          fewer = subst (λ (k : Kept Change). length log.items ≤ length k.items) (sym q.1) f;
        };
        asks = omega (arith, e.asked);
      }

  alike_statement : (g : Setting) (s : Stmt) → IsGoing (honest (statement_tree g i m s)).outcome → Alike (statement_tree g i (with_log m log) s) (statement_tree g i m s)
  alike_statement g s = elim (looks s) [
    | Stores address from e ↦
        subst (λ (x : Stmt). IsGoing (honest (statement_tree g i m x)).outcome → Alike (statement_tree g i (with_log m log) x) (statement_tree g i m x)) (sym e) (λ go.
        let a = alike_store from (register m address) (slice_get m.words (register m address)) go in record { end = a.end; asks = omega (arith, a.asks) })
    | Times to e ↦
        subst (λ (x : Stmt). IsGoing (honest (statement_tree g i m x)).outcome → Alike (statement_tree g i (with_log m log) x) (statement_tree g i m x)) (sym e) (λ go. alike_now g to g.reading)
    | Slots to moment e ↦
        subst (λ (x : Stmt). IsGoing (honest (statement_tree g i m x)).outcome → Alike (statement_tree g i (with_log m log) x) (statement_tree g i m x)) (sym e) (λ go.
        let a = alike_alloc g to (register m moment) g.reading in record { end = a.end; asks = omega (arith, a.asks) })
    | Neither plain ↦ λ go. alike_plain g s plain
  ]

-- A step with another log.

alike_step : (g : Setting) (i : ℕ) (m : Machine) (log : Kept Change) → log.room ≡ m.log.room → length log.items ≤ length m.log.items →
    IsGoing (honest (step_tree g i m)).outcome → Alike (step_tree g i (with_log m log)) (step_tree g i m)
alike_step g i m log r f =
    by_statements g.reading g.now (λ old. log) (λ notes. notes) g i m (λ t u. IsGoing (honest t).outcome → Alike u t) (λ cause go. absurd go)
    (λ s e go. alike_statement i (one_made m) log r f g s go)

pub relog : (g : Setting) (i : ℕ) (m : Machine) (log : Kept Change) → log.room ≡ m.log.room → length log.items ≤ length m.log.items →
    IsGoing (honest (step_tree g i m)).outcome → Relogs (honest (step_tree g i (with_log m log))) (honest (step_tree g i m))
relog g i m log r f go = (alike_step g i m log r f go).end

pub relog_asks : (g : Setting) (i : ℕ) (m : Machine) (log : Kept Change) → log.room ≡ m.log.room → length log.items ≤ length m.log.items →
    IsGoing (honest (step_tree g i m)).outcome → weighed (step_tree g i (with_log m log)) ≤ weighed (step_tree g i m)
relog_asks g i m log r f go = (alike_step g i m log r f go).asks
