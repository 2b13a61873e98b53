-- The time of the clock, and one step of a pass.
use Rattle.std.proofs.Common.{◌≡◌, ℕ, suc, ◌+◌, Bool, true, false, List, [], ◌∷◌, ◌++◌, Option, Some, None, ap, sym, ◌∙◌, refl, subst}
use Rattle.std.specs.Prelude.{nat_lt, slice_get}
use Rattle.std.proofs.Math.Path.{fun_ext}
use Rattle.sei_code.specs.declared.coded.Coded.{Coded}
use Rattle.sei_fault.specs.Counts.{Counts}
use Rattle.sei_fault.specs.Tree.{Tree, Runs, any_core, honest, questions}
use Rattle.sei_fault.specs.Tree.Tree.{Ask}
use Rattle.sei_fault.specs.Question.Question.{Value}
use Rattle.sei_fault.specs.Strikes.{Split}
use Rattle.sei_fault.specs.Strikes.Split.{Clean, Once, More}
use Rattle.sei_fault.proofs.Public.{split, grows}
use Rattle.sei_stmt.specs.declared.stmt.Stmt.{Stmt}
use Rattle.sei_stmt.specs.declared.stmt.Stmt.TheVariants.{Now, Render}
use Rattle.sei_stmt.specs.Comes.{at_time, again, Agrees}
use Rattle.sei_stmt.specs.Honest.{IsOnWay}
use Rattle.sei_stmt.specs.Machine.{Machine, Setting, After, one_made}
use Rattle.sei_stmt.specs.Machine.Outcome.{Next}
use Rattle.sei_stmt.specs.Statements.{now_by, now_tree, render_bytes, render_words, statement_tree, count_if, found_tree, step_tree}
use Rattle.sei_stmt.specs.Weights.{making}
use Rattle.sei_stmt.proofs.HonestLaws.{step_split}
use Rattle.sei_stmt.proofs.PublicStatementRuns.{by_statements}

timeless_render : (g : Setting) (t i : ℕ) (m : Machine) (read words : List ℕ) → render_words (at_time g t) i m read words ≡ render_words g i m read words
timeless_render g t i m read [] = timeless_bytes (g.rendered read)
  where
    timeless_bytes : (made : Option (List ℕ)) → render_bytes (at_time g t) i m made ≡ render_bytes g i m made
    timeless_bytes None = refl
    timeless_bytes (Some bytes) = refl
timeless_render g t i m read (word ∷ words) = ap (Ask (Value word)) (fun_ext (λ v. timeless_render g t i m (read ++ v ∷ []) words))

timeless_statement : (g : Setting) (t i : ℕ) (m : Machine) (s : Stmt) → ((to : ℕ) → s ≡ Now to → now_tree (at_time g t) i m to ≡ now_tree g i m to) →
    statement_tree (at_time g t) i m s ≡ statement_tree g i m s
timeless_statement g t i m (Now to) h = h to refl
timeless_statement g t i m Render h = timeless_render g t i m [] m.output.items
timeless_statement g t i m s h = refl

timeless_step : (g : Setting) (t i : ℕ) (m : Machine) → ((to : ℕ) → slice_get g.statements i ≡ Some (Now to) → (c : Machine) → now_tree (at_time g t) i c to ≡ now_tree g i c to) →
    step_tree (at_time g t) i m ≡ step_tree g i m
timeless_step g t i m h =
    by_statements g.reading t (λ log. log) (λ notes. notes) g i m (λ a b. b ≡ a) (λ cause. refl)
    (λ s is. timeless_statement g t i (one_made m) s (λ to e. h to (is ∙ ap Some e) (one_made m)))

-- a step that doesn't ask for the time is the same whatever the time is
pub timeless : (g : Setting) (t i : ℕ) (m : Machine) → ((to : ℕ) → slice_get g.statements i ≡ Some (Now to) → ⊥) → step_tree (at_time g t) i m ≡ step_tree g i m
timeless g t i m other = timeless_step g t i m (λ to e. absurd (other to e))

-- the second pass never asks the clock
pub timeless_again : (g : Setting) (t i : ℕ) (m : Machine) → step_tree (at_time (again g) t) i m ≡ step_tree (again g) i m
timeless_again g t i m = timeless_step (again g) t i m (λ to e c. refl)

-- a statement asks for the time or doesn't
pub data Asks (o : Option Stmt) : Type 0 where
  Timed : (to : ℕ) → o ≡ Some (Now to) → Asks o
  Untimed : ((to : ℕ) → o ≡ Some (Now to) → ⊥) → Asks o

asks_time : (s : Stmt) → Asks (Some s)
asks_time (Now to) = Timed to refl
asks_time s = Untimed (λ t e. cc)

pub asks : (o : Option Stmt) → Asks o
asks None = Untimed (λ t e. cc)
asks (Some s) = asks_time s

-- the tree of a statement of a first pass that asks for the time, where the budget allows it
abbrev pub timing : Setting → Machine → ℕ → ℕ → Bool → ℕ → Tree After
timing g m i to enough t = count_if enough (making (at_time g t)) i m (Now to)

pub timed_step : (g : Setting) (m : Machine) (i to t : ℕ) → g.reading ≡ false → slice_get g.statements i ≡ Some (Now to) → step_tree (at_time g t) i m ≡ timing g m i to (nat_lt m.made g.budget) t
timed_step g m i to t first is =
    ap (λ (b : Bool). step_tree (record (at_time g t) { reading = b }) i m) first ∙ ap (found_tree (making (at_time g t)) i m) is

-- a pass on its way at any time that the notes don't speak against

same_reading : (g : Setting) (t i to : ℕ) (m : Machine) → g.reading ≡ true → now_tree (at_time g t) i m to ≡ now_tree g i m to
same_reading g t i to m reads = ap (λ b. now_by b (at_time g t) i m to) reads ∙ sym (ap (λ b. now_by b g i m to) reads)

same_timing : (g : Setting) (t i to : ℕ) (m : Machine) (enough : Bool) → Agrees (honest (timing g m i to enough g.now)).machine.notes.now t → timing g m i to enough t ≡ timing g m i to enough g.now
same_timing g t i to m true a = sym (ap (timing g m i to true) (ap (λ (c : Coded). c.value) a.0))
same_timing g t i to m false a = refl

-- a step of a first pass does the same at a time that the one noted by it doesn't speak against
same_first : (g : Setting) (t i : ℕ) (m : Machine) → g.reading ≡ false → Agrees (honest (step_tree g i m)).machine.notes.now t → step_tree (at_time g t) i m ≡ step_tree g i m
same_first g t i m first a = by_statement (asks (slice_get g.statements i))
  where
    by_statement : Asks (slice_get g.statements i) → step_tree (at_time g t) i m ≡ step_tree g i m
    by_statement (Timed to is) =
        let now = timed_step g m i to g.now first is in
        timed_step g m i to t first is
        ∙ same_timing g t i to m (nat_lt m.made g.budget) (subst (λ (x : Tree After). Agrees (honest x).machine.notes.now t) now a)
        ∙ sym now
    by_statement (Untimed other) = timeless g t i m other

-- and so does a step of either pass
same_step : (g : Setting) (t i : ℕ) (m : Machine) → Agrees (honest (step_tree g i m)).machine.notes.now t → step_tree (at_time g t) i m ≡ step_tree g i m
same_step g t i m a = by_reading g.reading refl
  where
    by_reading : (b : Bool) → g.reading ≡ b → step_tree (at_time g t) i m ≡ step_tree g i m
    by_reading true is = timeless_step g t i m (λ to e c. same_reading g t i to c is)
    by_reading false is = same_first g t i m is a

-- one step more, under any core
pub on_way_at : (g : Setting) (start m : Machine) (i n t : ℕ) (x : After) (b c d : Counts) → Agrees x.machine.notes.now t →
    IsOnWay (at_time g t) start n (record { machine = m; outcome = Next i }) b c → Runs any_core (step_tree g i m) c d x → IsOnWay (at_time g t) start (suc n) x b d
on_way_at g start m i n t x b c d agrees w r =
    step_split (at_time g t) start m i n x b c d _ w (grows (step_tree g i m) c d x r) (at_that_time (split (step_tree g i m) c d x r))
  where
    at_that_time : {once : Type 0} → Split x (honest (step_tree g i m)) once (questions (step_tree g i m)) c d →
        Split x (honest (step_tree (at_time g t) i m)) once (questions (step_tree (at_time g t) i m)) c d
    at_that_time (Clean is same asked) =
        let tree = same_step g t i m (subst (λ (y : After). Agrees y.machine.notes.now t) is agrees) in
        Clean (is ∙ sym (ap (λ (y : Tree After). honest y) tree)) same (λ few. asked few ∙ sym (ap (λ (y : Tree After). c.asked + questions y) tree))
    at_that_time (Once is one) = Once is one
    at_that_time (More two) = More two
