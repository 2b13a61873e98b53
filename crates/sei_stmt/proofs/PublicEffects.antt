-- What a statement does to the words and the log, without a strike and with one.
use Rattle.std.proofs.Common.{◌≡◌, ◌≢◌, ℕ, ◌+◌, ◌≤◌, ◌⊎◌, inl, inr, Bool, true, false, Option, Some, None, slice_get, slice_set, refl, sym, subst, arith, eq-eqb}
use Rattle.std.proofs.lemmas.Bool.{eqb-true}
use Rattle.std.specs.Prelude.{◌==◌, if◌then◌else◌}
use Rattle.sei_code.specs.Kept.{has_room, pushed}
use Rattle.sei_fault.proofs.Public.{always_honest, always_struck}
use Rattle.sei_fault.specs.StruckRuns.{StruckRun}
use Rattle.sei_fault.specs.Tree.{Tree, Always, honest}
use Rattle.sei_fault.specs.Weights.{weighed}
use Rattle.sei_log.specs.Changes.{change_of}
use Rattle.sei_stmt.specs.declared.stmt.Stmt.{Stmt}
use Rattle.sei_stmt.specs.Machine.{Machine, Setting, After, register, one_made, stored, at_outcome, ends}
use Rattle.sei_stmt.specs.Machine.Outcome.{Next}
use Rattle.sei_stmt.specs.Statements.{store_if, same_if, store_word, store_tree, statement_tree, step_tree}
use Rattle.sei_stmt.proofs.PublicStatementEnds.{IsStore, store_or_not, statement_keeps, by_statement}

-- whatever is answered, it leaves words and log; or it logs the word that stood at an address, and writes some word there
pub data Effect (m y : Machine) : Type 0 where
  Untouched : y.words ≡ m.words → y.log ≡ m.log → Effect m y
  Wrote : (a was v w : ℕ) → slice_get m.words a ≡ Some was → y.words ≡ slice_set m.words a w → y.log ≡ pushed m.log (change_of a was v) → Effect m y

-- without a strike what is logged is what is written, and another word than before
pub data HonestEffect (m y : Machine) : Type 0 where
  Left : y.words ≡ m.words → y.log ≡ m.log → HonestEffect m y
  Changed : (a was v : ℕ) → slice_get m.words a ≡ Some was → was ≢ v → y.words ≡ slice_set m.words a v → y.log ≡ pushed m.log (change_of a was v) → HonestEffect m y

-- with one strike it has an effect like any other; or it is a store that misread the old word, and logged that
pub data StruckEffect (g : Setting) (i : ℕ) (m : Machine) (y : After) (n : ℕ) : Type 0 where
  Plain : Effect m y.machine → StruckEffect g i m y n
  Wrong : (a word was v : ℕ) → slice_get m.words a ≡ Some word → has_room m.log ≡ true → y ≡ at_outcome (stored (one_made m) a (change_of a was v) v) (Next (i + 1)) →
      ((word ≡ v) × (honest (step_tree g i m) ≡ at_outcome (one_made m) (Next (i + 1)))) ⊎ (honest (step_tree g i m) ≡ at_outcome (stored (one_made m) a (change_of a word v) v) (Next (i + 1))) →
      weighed (step_tree g i m) ≤ n → StruckEffect g i m y n

-- A statement that is no store leaves words and log, whatever is answered.

abbrev pub Quiet : Machine → Machine → Type 0
Quiet m y = (y.words ≡ m.words) × (y.log ≡ m.log)

pub quiet : (g : Setting) (i : ℕ) (m : Machine) (s : Stmt) → (IsStore s → ⊥) → Always (λ x. Quiet m x.machine) (statement_tree g i m s)
quiet g i m s other = statement_keeps g s (Quiet m) (record {
  assigned = λ y to w h. h;
  logged = λ is. absurd (other is);
  emits = λ y w r h. h;
  timed = λ is r y note h. h;
  slotted = λ is r y note h. h;
  filled = λ y h. h;
  first = λ y word w words e h. h;
  coded = λ is y code h. h;
  emptied = λ is y h. h;
  rendered = λ is y byte bytes b f h. h;
}) i m (refl, refl)

-- What is kept without a strike.

-- the words that a store logs are other words than it writes
stored_keeps : (i : ℕ) (m : Machine) (a was v : ℕ) (room : Bool) → slice_get m.words a ≡ Some was → was ≢ v → HonestEffect m (honest (store_if room i m a was v)).machine
stored_keeps i m a was v true e n = Changed a was v e n refl refl
stored_keeps i m a was v false e n = Left refl refl

tested_keeps : (i : ℕ) (m : Machine) (a was v : ℕ) (same : Bool) → slice_get m.words a ≡ Some was → (was ≡ v → same ≡ true) → HonestEffect m (honest (same_if same i m a was v)).machine
tested_keeps i m a was v true e n = Left refl refl
tested_keeps i m a was v false e n = stored_keeps i m a was v (has_room m.log) e (λ h. let f : false ≡ true = n h in absurd (let z : ⊥ = cc in z))

word_keeps : (i : ℕ) (m : Machine) (from a : ℕ) (o : Option ℕ) → slice_get m.words a ≡ o → HonestEffect m (honest (store_word i m from a o)).machine
word_keeps i m from a None e = Left refl refl
word_keeps i m from a (Some word) e = tested_keeps i m a word (register m from) (word == register m from) e (eq-eqb word (register m from))

statement_effect : (g : Setting) (i : ℕ) (m : Machine) (s : Stmt) → HonestEffect m (honest (statement_tree g i m s)).machine
statement_effect g i m s = elim (store_or_not s) [
  | inl (address, from, e) ↦
      subst (λ (x : Stmt). HonestEffect m (honest (statement_tree g i m x)).machine) (sym e)
      (word_keeps i m from (register m address) (slice_get m.words (register m address)) refl)
  | inr other ↦ let q = always_honest (λ x. Quiet m x.machine) (statement_tree g i m s) (quiet g i m s other) in Left q.0 q.1
]

-- the statement that is counted does not touch more
made_keeps : (m y : Machine) → HonestEffect (one_made m) y → HonestEffect m y
made_keeps m y (Left p q) = Left p q
made_keeps m y (Changed a was v e n p q) = Changed a was v e n p q

pub keeps_honest : (g : Setting) (i : ℕ) (m : Machine) → HonestEffect m (honest (step_tree g i m)).machine
keeps_honest g i m = by_statement g i m (λ t. HonestEffect m (honest t).machine) (λ cause. Left refl refl)
    (λ s e b. made_keeps m (honest (statement_tree g i (one_made m) s)).machine (statement_effect g i (one_made m) s))

-- such an effect is one
honest_one : (m y : Machine) → HonestEffect m y → Effect m y
honest_one m y (Left p q) = Untouched p q
honest_one m y (Changed a was v e n p q) = Wrote a was v v e p q

pub honest_effect : (g : Setting) (i : ℕ) (m : Machine) → Effect m (honest (step_tree g i m)).machine
honest_effect g i m = honest_one m (honest (step_tree g i m)).machine (keeps_honest g i m)

-- What one strike may do.

-- of a statement that ends honestly at z and whose questions weigh q then, from the machine that counts it
data Struck (i : ℕ) (m : Machine) (z : After) (q : ℕ) (y : After) (n : ℕ) : Type 0 where
  Mild : Effect m y.machine → Struck i m z q y n
  Misread : (a word was v : ℕ) → slice_get m.words a ≡ Some word → has_room m.log ≡ true → y ≡ at_outcome (stored m a (change_of a was v) v) (Next (i + 1)) →
      ((word ≡ v) × (z ≡ at_outcome m (Next (i + 1)))) ⊎ (z ≡ at_outcome (stored m a (change_of a word v) v) (Next (i + 1))) → q ≤ n → Struck i m z q y n

mild : (i : ℕ) (m : Machine) (z : After) (q : ℕ) (y x : After) (n : ℕ) → y ≡ x → Effect m x.machine → Struck i m z q y n
mild i m z q y x n e f = Mild (subst (λ (u : After). Effect m u.machine) (sym e) f)

written_effect : (i : ℕ) (m : Machine) (a was v : ℕ) (room : Bool) → slice_get m.words a ≡ Some was →
    Effect m (honest (store_if room i m a was v)).machine
written_effect i m a was v true e = Wrote a was v v e refl refl
written_effect i m a was v false e = Untouched refl refl

-- the effect of the honest rest of a store, whatever its test was answered
tested_effect : (i : ℕ) (m : Machine) (a was v : ℕ) (same : Bool) → slice_get m.words a ≡ Some was →
    Effect m (honest (same_if same i m a was v)).machine
tested_effect i m a was v true e = Untouched refl refl
tested_effect i m a was v false e = written_effect i m a was v (has_room m.log) e

-- a question more before
one_more : (i : ℕ) (m : Machine) (z : After) (q : ℕ) (y : After) (k n : ℕ) → n ≡ 1 + k → Struck i m z q y k → Struck i m z (1 + q) y n
one_more i m z q y k n e (Mild f) = Mild f
one_more i m z q y k n e (Misread a word was v f r p h l) = Misread a word was v f r p h (omega (arith, e, l))

-- what follows both tests of a store
abbrev tested : Bool → Bool → ℕ → Machine → ℕ → ℕ → ℕ → Tree After
tested same room i m a was v = if same then ends m (Next (i + 1)) else store_if room i m a was v

-- the old word is misread: same is what was tested of the word that stands there, skip of the misread one
misread_at : (i : ℕ) (m : Machine) (a word was v : ℕ) (same skip room : Bool) (y : After) (q n : ℕ) → (same ≡ true → word ≡ v) → slice_get m.words a ≡ Some word → has_room m.log ≡ room →
    y ≡ honest (tested skip room i m a was v) →
    q ≡ 1 + (1 + weighed (tested same room i m a word v)) →
    n ≡ 1 + (1 + weighed (tested skip room i m a was v)) →
    Struck i m (honest (tested same room i m a word v)) q y n
misread_at i m a word was v same true room y q n h e r p eq en = mild i m _ q y _ n p (Untouched refl refl)
misread_at i m a word was v same false false y q n h e r p eq en = mild i m _ q y _ n p (Untouched refl refl)
misread_at i m a word was v true false true y q n h e r p eq en = Misread a word was v e r p (inl (h refl, refl)) (omega (arith, eq, en))
misread_at i m a word was v false false true y q n h e r p eq en = Misread a word was v e r p (inr refl) (omega (arith, eq, en))

-- the written word is struck
room_struck : (i : ℕ) (m : Machine) (a was v : ℕ) (room : Bool) (y : After) (n : ℕ) → slice_get m.words a ≡ Some was →
    StruckRun (store_if room i m a was v) y n → Effect m y.machine
room_struck i m a was v true y n e (inl h) = subst (λ (u : After). Effect m u.machine) (sym h.end) (Wrote a was v h.answer e refl refl)
room_struck i m a was v true y n e (inr (k, f, s)) = absurd s
room_struck i m a was v false y n e s = absurd s

test_struck : (i : ℕ) (m : Machine) (a was v : ℕ) (same : Bool) (y : After) (n : ℕ) → slice_get m.words a ≡ Some was →
    StruckRun (same_if same i m a was v) y n → Effect m y.machine
test_struck i m a was v true y n e s = absurd s
test_struck i m a was v false y n e s = room_struck i m a was v (has_room m.log) y n e s

word_struck : (i : ℕ) (m : Machine) (from a : ℕ) (o : Option ℕ) (y : After) (n : ℕ) → slice_get m.words a ≡ o →
    StruckRun (store_word i m from a o) y n → Struck i m (honest (store_word i m from a o)) (weighed (store_word i m from a o)) y n
word_struck i m from a None y n e s = absurd s
word_struck i m from a (Some word) y n e (inl h) = mild i m _ _ y _ n h.end (tested_effect i m a word h.answer (word == h.answer) e)
word_struck i m from a (Some word) y n e (inr (k, f, inl h)) =
    one_more i m _ _ y k n f
    (misread_at i m a word h.answer (register m from) (word == register m from) (h.answer == register m from) (has_room m.log) y _ k (eqb-true word (register m from)) e refl h.end refl h.asked)
word_struck i m from a (Some word) y n e (inr (k, f, inr (j, p, inl h))) = mild i m _ _ y _ n h.end (tested_effect i m a word (register m from) h.answer e)
word_struck i m from a (Some word) y n e (inr (k, f, inr (j, p, inr (l, q, s)))) = Mild (test_struck i m a word (register m from) (word == register m from) y l e s)

store_struck : (i : ℕ) (m : Machine) (address from : ℕ) (y : After) (n : ℕ) →
    StruckRun (store_tree i m address from) y n → Struck i m (honest (store_tree i m address from)) (weighed (store_tree i m address from)) y n
store_struck i m address from y n (inl h) =
    mild i m _ _ y _ n h.end (honest_one m (honest (store_word i m from h.answer (slice_get m.words h.answer))).machine (word_keeps i m from h.answer (slice_get m.words h.answer) refl))
store_struck i m address from y n (inr (k, e, s)) = one_more i m _ _ y k n e (word_struck i m from (register m address) (slice_get m.words (register m address)) y k refl s)

statement_struck : (g : Setting) (i : ℕ) (m : Machine) (s : Stmt) (y : After) (n : ℕ) →
    StruckRun (statement_tree g i m s) y n → Struck i m (honest (statement_tree g i m s)) (weighed (statement_tree g i m s)) y n
statement_struck g i m s y n = elim (store_or_not s) [
  | inl (address, from, e) ↦
      subst (λ (x : Stmt). StruckRun (statement_tree g i m x) y n → Struck i m (honest (statement_tree g i m x)) (weighed (statement_tree g i m x)) y n) (sym e)
      (store_struck i m address from y n)
  | inr other ↦ λ r. let q = always_struck (λ x. Quiet m x.machine) (statement_tree g i m s) y n (quiet g i m s other) r in Mild (Untouched q.0 q.1)
]

made_effect : (m y : Machine) → Effect (one_made m) y → Effect m y
made_effect m y (Untouched p q) = Untouched p q
made_effect m y (Wrote a was v w e p q) = Wrote a was v w e p q

made_struck : (g : Setting) (i : ℕ) (m : Machine) (y : After) (n : ℕ) → Struck i (one_made m) (honest (step_tree g i m)) (weighed (step_tree g i m)) y n → StruckEffect g i m y n
made_struck g i m y n (Mild f) = Plain (made_effect m y.machine f)
made_struck g i m y n (Misread a word was v e r p h l) = Wrong a word was v e r p h l

pub struck_effect : (g : Setting) (i : ℕ) (m : Machine) (y : After) (n : ℕ) → StruckRun (step_tree g i m) y n → StruckEffect g i m y n
struck_effect g i m y n s =
    made_struck g i m y n
    (by_statement g i m (λ t. StruckRun t y n → Struck i (one_made m) (honest t) (weighed t) y n) (λ cause r. absurd r) (λ st e b r. statement_struck g i (one_made m) st y n r) s)
