-- The loop over the steps of a pass: its arms, and the chain of the steps that it made.
use Rattle.std.proofs.Common.{◌≡◌, ◌∙◌, ℕ, suc, ◌+◌, ◌-◌, ◌<◌, Bool, true, false, List, Some, slice_get, refl, sym, ap, subst, arith}
use Rattle.std.specs.Prelude.{if◌then◌else◌}
use Rattle.sei_fault.specs.Chain.{Chain}
use Rattle.sei_fault.specs.Question.{Question, Answer}
use Rattle.sei_fault.specs.Question.Question.{Often, Goes}
use Rattle.sei_fault.specs.Tree.{Tree, Runs, bound}
use Rattle.sei_fault.specs.Tree.Tree.{Done, Ask}
use Rattle.sei_fault.specs.declared.place.Act.{Act}
use Rattle.sei_fault.specs.declared.place.Phase.{Phase}
use Rattle.sei_fault.specs.declared.place.Place.{Place}
use Rattle.sei_fault.specs.declared.place.Times.{Times}
use Rattle.sei_fault.specs.declared.place.Times.TheVariants.{Once, Skip, Twice}
use Rattle.sei_fault.proofs.Public.{runs_bound}
use Rattle.sei_stmt.specs.declared.stmt.Stmt.{Stmt}
use Rattle.sei_stmt.specs.Machine.{Machine, Setting, Outcome, After, one_made}
use Rattle.sei_stmt.specs.Machine.Outcome.{Next, Halted, Bad}
use Rattle.sei_stmt.specs.Statements.{statement_tree}
use Rattle.sei_pass.specs.declared.loops.Asked.{Asked}
use Rattle.sei_pass.specs.declared.loops.Asked.TheVariants as asked
use Rattle.sei_pass.specs.declared.loops.Exit.{Exit}
use Rattle.sei_pass.specs.declared.loops.Exit.TheVariants.{Alone}
use Rattle.sei_pass.specs.Acts.{act_of}
use Rattle.sei_pass.specs.Arms.{Arm, is_looped, site, asked_of, arm_of, arm_as, arm_at, arm_tree}
use Rattle.sei_pass.specs.Loop.{Here, in_pass, Asks, Leads, Leaves, RunsLoop}
use Rattle.sei_pass.specs.Turns.{once_tree}

-- the statement was to be made once, and was made
pub once : {S : Type 0} (gives : S → (q : Question) → Answer q → S → Type 0) (phase : Phase) (index : ℕ) (act : Act) (tree : Machine → Tree After) (m : Machine) (c t d : S) (x : After) (asked : Asked) →
    gives c (Often (site phase index act)) Once t → Runs gives (tree (one_made m)) t d x → asked ≡ asked_of x.outcome →
    Runs gives (once_tree phase index act tree m) c d (record { machine = x.machine; asked = asked })
once gives phase index act tree m c t d x asked h r e =
    let y : Arm = record { machine = x.machine; asked = asked_of x.outcome } in
    let made : Runs gives (arm_as (tree (one_made m)) m act Once) t d y = runs_bound gives (tree (one_made m)) arm_of t d d x y r (refl, refl) in
    (Once, t, h, subst (λ (a : Asked). Runs gives (arm_as (tree (one_made m)) m act Once) t d (record { machine = x.machine; asked = a })) (sym e) made)

-- the same jump, with its target as the code has it and as the table says
pub targeted : {S : Type 0} (gives : S → (q : Question) → Answer q → S → Type 0) (phase : Phase) (index : ℕ) (act : Act) (tree : ℕ → Machine → Tree After) (m : Machine) (c d : S) (x : Arm) (a b : ℕ) → a ≡ b →
    Runs gives (once_tree phase index act (tree a) m) c d x → Runs gives (once_tree phase index act (tree b) m) c d x
targeted gives phase index act tree m c d x a b e r = subst (λ (to : ℕ). Runs gives (once_tree phase index act (tree to) m) c d x) e r

-- what stands here was asked for
pub asks_at : {S : Type 0} (gives : S → (q : Question) → Answer q → S → Type 0) (g : Setting) (phase : Phase) (table : List Stmt) (x : Here S) (s : Stmt) (end : Asked) (m : Machine) (core : S) →
    g.statements ≡ table → Some s ≡ slice_get table x.index → x.machine.made < g.budget →
    Runs gives (arm_tree g phase x.index x.machine s) x.core core (record { machine = m; asked = end }) → Asks gives g phase x end m core
asks_at gives g phase table x s end m core t f b r = record {
  statement = s;
  stands = subst (λ (l : List Stmt). slice_get l x.index ≡ Some s) (sym t) (sym f);
  room = b;
  runs = r;
}

-- it led on in its phase
pub leads_at : {S : Type 0} (gives : S → (q : Question) → Answer q → S → Type 0) (g : Setting) (phase : Phase) (to : ℕ) (x : Here S) (m : Machine) (made core : S) (p : Place) →
    Asks gives g phase x (asked.Next to) m made → gives made (Goes (in_pass phase to)) p core → p.phase ≡ phase →
    Leads gives g phase x (record { machine = m; index = p.index; core = core })
leads_at gives g phase to x m made core p a h e =
    record { to = to; then = made; asks = a; goes = subst (λ (k : Phase). gives made (Goes (in_pass phase to)) (in_pass k p.index) core) e h }

-- A statement that is made is not left to be made by itself, and of one that is left so nothing was done.

not_alone : (o : Outcome) → asked_of o ≡ asked.Alone → ⊥
not_alone (Next index) e = cc
not_alone Halted e = cc
not_alone (Bad cause) e = cc

bound_not_alone : {S : Type 0} (gives : S → (q : Question) → Answer q → S → Type 0) (t : Tree After) (c d : S) (x : Arm) → Runs gives (bound t arm_of) c d x → x.asked ≡ asked.Alone → ⊥
bound_not_alone gives (Done r) c d x (e, f) a = not_alone r.outcome (sym (ap (λ (y : Arm). y.asked) e) ∙ a)
bound_not_alone gives (Ask q k) c d x (answer, u, h, r) a = bound_not_alone gives (k answer) u d x r a

arm_not_alone : {S : Type 0} (gives : S → (q : Question) → Answer q → S → Type 0) (t : Tree After) (m : Machine) (act : Act) (times : Times) (c d : S) (x : Arm) → Runs gives (arm_as t m act times) c d x → x.asked ≡ asked.Alone → ⊥
arm_not_alone gives t m act Once c d x r a = bound_not_alone gives t c d x r a
arm_not_alone gives t m act Skip c d x (e, f) a = let z : asked.Struck act Skip ≡ asked.Alone = sym (ap (λ (y : Arm). y.asked) e) ∙ a in cc
arm_not_alone gives t m act Twice c d x (e, f) a = let z : asked.Struck act Twice ≡ asked.Alone = sym (ap (λ (y : Arm). y.asked) e) ∙ a in cc

alone_if : {S : Type 0} (gives : S → (q : Question) → Answer q → S → Type 0) (looped : Bool) (g : Setting) (phase : Phase) (index : ℕ) (m : Machine) (s : Stmt) (act : Act) (c d : S) (x : Arm) →
    Runs gives (if looped then arm_at g phase index m s act else Done (record { machine = m; asked = asked.Alone })) c d x → x.asked ≡ asked.Alone → (x.machine ≡ m) × (d ≡ c)
alone_if gives true g phase index m s act c d x (times, u, h, r) a = absurd (arm_not_alone gives (statement_tree g index (one_made m) s) m act times u d x r a)
alone_if gives false g phase index m s act c d x (e, f) a = (ap (λ (y : Arm). y.machine) e, f)

pub alone_at : {S : Type 0} (gives : S → (q : Question) → Answer q → S → Type 0) (g : Setting) (phase : Phase) (index : ℕ) (m : Machine) (s : Stmt) (c d : S) (y : Machine) →
    Runs gives (arm_tree g phase index m s) c d (record { machine = y; asked = asked.Alone }) → (y ≡ m) × (d ≡ c)
alone_at gives g phase index m s c d y r = alone_if gives (is_looped s) g phase index m s (act_of m.registers s) c d (record { machine = y; asked = asked.Alone }) r refl

-- The loop.

-- so many steps as were counted since lead from x to y
pub record OnChain {S : Type 0} (gives : S → (q : Question) → Answer q → S → Type 0) (g : Setting) (phase : Phase) (first made : ℕ) (x y : Here S) : Type 0 where
  pub before : ℕ
  pub count : made ≡ first + before
  pub chain : Chain (Leads gives g phase) before x y

pub begins : {S : Type 0} (gives : S → (q : Question) → Answer q → S → Type 0) (g : Setting) (phase : Phase) (made : ℕ) (x : Here S) → OnChain gives g phase made made x x
begins gives g phase made x = record { before = 0; count = omega arith; chain = refl }

pub goes_on : {S : Type 0} (gives : S → (q : Question) → Answer q → S → Type 0) (g : Setting) (phase : Phase) (first made : ℕ) (x y z : Here S) →
    OnChain gives g phase first made x y → Leads gives g phase y z → OnChain gives g phase first (made + 1) x z
goes_on gives g phase first made x y z c l = record { before = suc c.before; count = omega (arith, c.count); chain = (y, c.chain, l) }

pub leaves : {S : Type 0} (gives : S → (q : Question) → Answer q → S → Type 0) (g : Setting) (phase : Phase) (first made : ℕ) (x y : Here S) (exit : Exit) (m : Machine) (core : S) →
    OnChain gives g phase first made x y → Leaves gives g phase y exit m core → RunsLoop gives g phase (made - first) y.index x exit m core
leaves gives g phase first made x y exit m core c l =
    record { machine = y.machine; then = y.core; chain = subst (λ (n : ℕ). Chain (Leads gives g phase) n x y) (omega (arith, c.count)) c.chain; leaves = l }

-- no step is left to be made
pub ends : {S : Type 0} (gives : S → (q : Question) → Answer q → S → Type 0) (g : Setting) (phase : Phase) (first made : ℕ) (x y : Here S) →
    OnChain gives g phase first made x y → y.machine.made ≡ made → RunsLoop gives g phase (y.machine.made - first) y.index x Alone y.machine y.core
ends gives g phase first made x y c e =
    subst (λ (n : ℕ). RunsLoop gives g phase (n - first) y.index x Alone y.machine y.core) (sym e) (leaves gives g phase first made x y Alone y.machine y.core c (refl, refl))

-- what the loop tested is what a step asks
pub within : (made counted budget room : ℕ) → made ≡ counted → counted < budget → room ≡ budget → made < room
within made counted budget room e h f = omega (arith, e, h, f)
