-- Which traversals have a planned fault, line by line.
use Rattle.std.proofs.Common.{◌≡◌, ℕ, Bool, true, false, List, [], ◌∷◌, ◌++◌, refl, ap, sym, ◌∙◌, arith, cond}
use Rattle.std.specs.Prelude.{◌||◌, ◌&&◌, ◌==◌, nat_lt, if◌then◌else◌}
use Rattle.std.specs.Ordering.{nat_cmp, ordering_then, is_eq}
use Rattle.std.specs.declared.cmp.Ordering.TheVariants.{Less, Equal, Greater}
use Rattle.std.proofs.lemmas.Bool.Decides.{nat_tests}
use Rattle.sei_script.specs.Effects.{Effect, PlansFault, effect_of}
use Rattle.sei_script.specs.Faults.{plans, is_planned, is_second_by, is_second, once_by, once, traversal_cmp, holds}
use Rattle.sei_script.specs.declared.traversals.Traversal.{Traversal}
use Rattle.sei_script.specs.declared.traversals.Traversals.{Traversals}
use Rattle.sei_script.specs.declared.line.ScriptLine.{ScriptLine}
use Rattle.sei_script.specs.declared.line.Why.TheVariants.{SecondFault}
use Rattle.sei_script.specs.declared.line.Said.{Said}
use Rattle.sei_script.specs.declared.line.Said.TheVariants.{Nothing, Line, Wrong}

or_more : (a b c : Bool) → (a || (b || c)) ≡ ((a || b) || c)
or_more true b c = refl
or_more false b c = refl

one_line : (b : Bool) → (b || false) ≡ (false || b)
one_line true = refl
one_line false = refl

-- one more line
pub planned_more : (script : List ScriptLine) (line : ScriptLine) (c t : ℕ) → is_planned (script ++ line ∷ []) c t ≡ (is_planned script c t || plans c t line)
planned_more [] line c t = one_line (plans c t line)
planned_more (first ∷ script) line c t =
    ap (λ (b : Bool). plans c t first || b) (planned_more script line c t) ∙ or_more (plans c t first) (is_planned script c t) (plans c t line)

second_by_same : (f g : ℕ → ℕ → Bool) (e : Effect) → ((c t : ℕ) → f c t ≡ g c t) → is_second_by f e ≡ is_second_by g e
second_by_same f g (PlansFault c t plan) h = h c t
second_by_same f g other h = refl

second_same : (f g : ℕ → ℕ → Bool) (said : Said) → ((c t : ℕ) → f c t ≡ g c t) → is_second f said ≡ is_second g said
second_same f g Nothing h = refl
second_same f g (Line line) h = second_by_same f g (effect_of line) h
second_same f g (Wrong why) h = refl

-- what is known of the lines before decides
once_same : (f g : ℕ → ℕ → Bool) (said : Said) → ((c t : ℕ) → f c t ≡ g c t) → once_by f said ≡ once_by g said
once_same f g said h = ap (λ (b : Bool). if b then Wrong SecondFault else said) (second_same f g said h)

-- what is said behind these lines, where the reader knows of their faults
pub said_once : (f : ℕ → ℕ → Bool) (script : List ScriptLine) (said from result : Said) → result ≡ once_by f said → said ≡ from → ((c t : ℕ) → f c t ≡ is_planned script c t)
    → result ≡ once script from
said_once f script said from result p q h = p ∙ once_same f (is_planned script) said h ∙ ap (λ (s : Said). once script s) q

tied_by : (c d : ℕ) (less same : Bool) → nat_lt c d ≡ less → (c == d) ≡ same → is_eq (cond less Less (cond same Equal Greater)) ≡ same
tied_by c d true true p q = absurd (grind (arith, nat_tests))
tied_by c d true false p q = refl
tied_by c d false true p q = refl
tied_by c d false false p q = refl

at_by : (a b c d : ℕ) (less same : Bool) → nat_lt a b ≡ less → (a == b) ≡ same
    → is_eq (ordering_then (cond less Less (cond same Equal Greater)) (nat_cmp c d)) ≡ (same && (c == d))
at_by a b c d true true p q = absurd (grind (arith, nat_tests))
at_by a b c d true false p q = refl
at_by a b c d false true p q = tied_by c d (nat_lt c d) (c == d) refl refl
at_by a b c d false false p q = refl

-- in the order of the reader a traversal is found exactly as itself
pub found_as : (k q : Traversal) → is_eq (traversal_cmp k q) ≡ (k.c == q.c && k.t == q.t)
found_as k q = at_by k.c q.c k.t q.t (nat_lt k.c q.c) (k.c == q.c) refl refl

either_way : (test old : Bool) → cond test true old ≡ (old || test)
either_way true true = refl
either_way true false = refl
either_way false true = refl
either_way false false = refl

-- a traversal is added to those that the reader knows
pub added : (x y : Traversals) (c t d u : ℕ) → holds y d u ≡ cond (is_eq (traversal_cmp (record { c = c; t = t }) (record { c = d; t = u }))) true (holds x d u)
    → holds y d u ≡ (holds x d u || (c == d && t == u))
added x y c t d u e =
    e ∙ ap (λ (b : Bool). cond b true (holds x d u)) (found_as (record { c = c; t = t }) (record { c = d; t = u })) ∙ either_way (c == d && t == u) (holds x d u)

-- and where the line that is read is added
pub planned_now : (x y : Traversals) (script : List ScriptLine) (line : ScriptLine) → ((c t : ℕ) → holds y c t ≡ (holds x c t || plans c t line)) → ((c t : ℕ) → holds x c t ≡ is_planned script c t)
    → (c t : ℕ) → holds y c t ≡ is_planned (script ++ line ∷ []) c t
planned_now x y script line a h c t = a c t ∙ ap (λ (b : Bool). b || plans c t line) (h c t) ∙ sym (planned_more script line c t)
