-- A step, from what its statement does.
use Rattle.std.proofs.Common.{◌≡◌, ℕ, ◌+◌, ◌<◌, ◌≤◌, true, false, List, Option, Some, None, refl, sym, subst, arith}
use Rattle.std.specs.Prelude.{nat_lt, slice_get}
use Rattle.std.proofs.lemmas.Bool.Decides.{nat_tests}
use Rattle.sei_fault.specs.Counts.{Counts, Answered}
use Rattle.sei_fault.specs.declared.cause.AbortCause.TheVariants.{Table, Budget}
use Rattle.sei_fault.specs.Question.{Question, Answer, honestly_to}
use Rattle.sei_fault.specs.Tree.{Runs}
use Rattle.sei_fault.proofs.Public.{counted_runs}
use Rattle.sei_stmt.specs.declared.stmt.Stmt.{Stmt}
use Rattle.sei_stmt.specs.declared.stmt.Stmt.TheVariants.{Now}
use Rattle.sei_stmt.specs.Handling.{Behavior}
use Rattle.sei_stmt.specs.Machine.{Machine, Setting, Outcome, After, one_made}
use Rattle.sei_stmt.specs.Machine.Outcome.{Bad}
use Rattle.sei_stmt.specs.Statements.{statement_tree, count_if, found_tree, step_tree}
use Rattle.sei_stmt.proofs.Public.{on_way_at}
use Rattle.sei_pass.specs.declared.given.Sealed.{Sealed}
use Rattle.sei_pass.specs.declared.given.Which.{Which}
use Rattle.sei_pass.specs.declared.given.Which.TheVariants.{Making}
use Rattle.sei_pass.specs.declared.spaces.PassSpace.{PassSpace}
use Rattle.sei_pass.specs.Setting.{setting_of}
use Rattle.sei_pass.specs.Steps.{IsAnswer, IsAsked, Stepped}

pub stepped : {S : Type 0} (gives : S → (q : Question) → Answer q → S → Type 0) (counts : S → Counts) →
    ((s : S) (q : Question) (a : Answer q) (t : S) → gives s q a t → Answered (a ≡ honestly_to q) (counts s) (counts t)) →
    (told : Option ℕ) (setting : ℕ → Setting) (index : ℕ) (old new : Machine) (o : Outcome) (s t : S) (now : ℕ) → IsAnswer told now →
    Runs gives (step_tree (setting now) index old) s t (record { machine = new; outcome = o }) →
    Stepped gives counts told setting index old new o s t
stepped gives counts lawful told setting index old new o s t now answer runs = record {
  now = now;
  answer = answer;
  runs = runs;
  on_way = λ time agrees start n begin w.
      on_way_at (setting now) start old index n time (record { machine = new; outcome = o }) begin (counts s) (counts t) agrees w
      (counted_runs gives counts lawful (step_tree (setting now) index old) s t (record { machine = new; outcome = o }) runs);
}

-- a clock may answer something
pub some_answer : (told : Option ℕ) → (now : ℕ) × IsAnswer told now
some_answer None = (0, omega arith)
some_answer (Some t) = (t, refl)

-- there is no such statement
pub missing : {S : Type 0} (gives : S → (q : Question) → Answer q → S → Type 0) (g : Setting) (i : ℕ) (m : Machine) (s : S) →
    None ≡ slice_get g.statements i → Runs gives (step_tree g i m) s s (record { machine = m; outcome = Bad (Table i) })
missing gives g i m s e = subst (λ o. Runs gives (found_tree g i m o) s s (record { machine = m; outcome = Bad (Table i) })) e (refl, refl)

-- the budget is spent
pub spent : {S : Type 0} (gives : S → (q : Question) → Answer q → S → Type 0) (g : Setting) (i : ℕ) (m : Machine) (s : S) (st : Stmt) →
    Some st ≡ slice_get g.statements i → nat_lt m.made g.budget ≡ false → Runs gives (step_tree g i m) s s (record { machine = m; outcome = Bad Budget })
spent gives g i m s st e b =
    let x : After = record { machine = m; outcome = Bad Budget } in
    subst (λ o. Runs gives (found_tree g i m o) s s x) e
    (subst (λ c. Runs gives (count_if c g i m st) s s x) (sym b) (refl, refl))

-- the statement is counted and made
pub made_one : {S : Type 0} (gives : S → (q : Question) → Answer q → S → Type 0) (g : Setting) (i : ℕ) (m : Machine) (s t : S) (st : Stmt) (x : After) →
    Some st ≡ slice_get g.statements i → nat_lt m.made g.budget ≡ true →
    Runs gives (statement_tree g i (one_made m) st) s t x → Runs gives (step_tree g i m) s t x
made_one gives g i m s t st x e b r =
    subst (λ o. Runs gives (found_tree g i m o) s t x) e
    (subst (λ c. Runs gives (count_if c g i m st) s t x) (sym b) r)

-- a statement that does not ask the clock does the same whatever it would answer
pub any_time : {S : Type 0} (gives : S → (q : Question) → Answer q → S → Type 0) (which : Which) (h : Behavior) (input : List ℕ) (sealed : Sealed) (lent : Option ℕ) (space : PassSpace)
    (st : Stmt) (told : Option ℕ) (time i : ℕ) (m : Machine) (s t : S) (x : After) → IsAsked which st told time →
    Runs gives (statement_tree (setting_of which h input sealed lent space time) i m st) s t x →
    (now : ℕ) × IsAnswer told now × Runs gives (statement_tree (setting_of which h input sealed lent space now) i m st) s t x
any_time gives Making h input sealed lent space (Now to) told time i m s t x a r = (time, a, r)
any_time gives which h input sealed lent space st told time i m s t x a r =
    let n = some_answer told in (n.0, n.1, r)

-- the test of the budget

pub is_below : (made budget : ℕ) → made < budget → nat_lt made budget ≡ true
is_below made budget h = grind (arith, nat_tests)

pub not_below : (made budget : ℕ) → budget ≤ made → nat_lt made budget ≡ false
not_below made budget h = grind (arith, nat_tests)

pub made_within : (made new budget : ℕ) → new ≡ made + 1 → made < budget → new ≤ budget
made_within made new budget n h = omega arith
