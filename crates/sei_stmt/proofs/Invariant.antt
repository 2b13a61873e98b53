-- What an honest run from some words keeps of its log and its words.
use Rattle.std.proofs.Common.{◌≡◌, ◌≢◌, ◌⊎◌, inl, inr, ℕ, zero, suc, ◌+◌, ◌<◌, List, [], ◌∷◌, ◌++◌, length, Some, slice_get, slice_set, refl, ap, sym, ◌∙◌, arith, subst}
use Rattle.sei_code.specs.Kept.{Kept}
use Rattle.sei_fault.specs.Tree.{honest}
use Rattle.sei_log.proofs.Public.{get_set_same, get_set_other, set_same, set_set, undone_push, applied_push, stands_push, stands_last, stands_cases, same_push}
use Rattle.sei_log.specs.Changes.{change_of, undone, applied, Stands, SameOff}
use Rattle.sei_log.specs.declared.log.Change.{Change}
use Rattle.sei_stmt.specs.Honest.{after, HonestRun}
use Rattle.sei_stmt.specs.Machine.{Machine, Setting, After}
use Rattle.sei_stmt.specs.Machine.Outcome.{Halted}
use Rattle.sei_stmt.specs.Statements.{step_tree}
use Rattle.sei_stmt.proofs.PublicEffects.{HonestEffect, keeps_honest}
use Rattle.sei_stmt.proofs.PublicStatementEnds.{all_along}
use Rattle.sei_stmt.proofs.PublicEffects.HonestEffect.{Left, Changed}
use Rattle.sei_stmt.proofs.HonestLaws.{still_halted}

-- the log leads from these words to those, and back; each change is one; the first one of an address has the word that
-- stood there, and the last one the word that stands there now
pub record Keeps (before : List ℕ) (log : List Change) (words : List ℕ) : Type 0 where
  pub undo : undone log words ≡ before
  pub apply : applied log before ≡ words
  pub off : SameOff log words before
  pub real : (p : ℕ) (c : Change) → Stands log p c → c.was ≢ c.becomes
  pub firsts : (p : ℕ) (c : Change) → Stands log p c → ((q : ℕ) (d : Change) → q < p → Stands log q d → c.address ≢ d.address) → slice_get before c.address ≡ Some c.was
  pub lasts : (p : ℕ) (c : Change) → Stands log p c → ((q : ℕ) (d : Change) → p < q → Stands log q d → c.address ≢ d.address) → slice_get words c.address ≡ Some c.becomes

-- a store, with whatever word is written, is undone by the word that stood there
pub undone_store : (log : List Change) (words : List ℕ) (a was v w : ℕ) → slice_get words a ≡ Some was →
    undone (log ++ change_of a was v ∷ []) (slice_set words a w) ≡ undone log words
undone_store log words a was v w e =
    undone_push log (change_of a was v) (slice_set words a w) ∙ ap (undone log) (set_set words a w was ∙ set_same words a was e)

pub stands_below : (log : List Change) (q : ℕ) (d : Change) → Stands log q d → q < length log
stands_below [] q d h = absurd (let z : ⊥ = cc in z)
stands_below (x ∷ xs) zero d h = omega arith
stands_below (x ∷ xs) (suc q) d h = omega (arith, stands_below xs q d h)

-- the change that a store logs has the word that stood there at first, where it is the first one of its address
last_first : (before words : List ℕ) (log : List Change) (a was v : ℕ) → Keeps before log words → slice_get words a ≡ Some was → (p : ℕ) (d : Change) →
    p ≡ length log → change_of a was v ≡ d →
    ((q : ℕ) (x : Change) → q < p → Stands (log ++ change_of a was v ∷ []) q x → d.address ≢ x.address) → slice_get before d.address ≡ Some d.was
last_first before words log a was v k e p d l g h =
    subst (λ (x : Change). slice_get before x.address ≡ Some x.was) g
    (sym (k.off.same a (λ q x s t. h q x (let b : q < length log = stands_below log q x s in omega (arith, b, l))
    (stands_push log (change_of a was v) q x s) (sym (ap (λ (y : Change). y.address) g) ∙ t))) ∙ e)

-- what it writes stands at its address, and at no other
push_lasts : (before words : List ℕ) (log : List Change) (a was v : ℕ) → Keeps before log words → slice_get words a ≡ Some was → (p : ℕ) (d : Change) →
    Stands log p d ⊎ ((p ≡ length log) × (change_of a was v ≡ d)) →
    ((q : ℕ) (x : Change) → p < q → Stands (log ++ change_of a was v ∷ []) q x → d.address ≢ x.address) → slice_get (slice_set words a v) d.address ≡ Some d.becomes
push_lasts before words log a was v k e p d (inl s) h =
    get_set_other words a d.address v (h (length log) (change_of a was v) (stands_below log p d s) (stands_last log (change_of a was v)))
    ∙ k.lasts p d s (λ q x l y. h q x l (stands_push log (change_of a was v) q x y))
push_lasts before words log a was v k e p d (inr s) h =
    subst (λ (x : Change). slice_get (slice_set words a v) x.address ≡ Some x.becomes) s.1 (get_set_same words a v was e)

-- a store of another word
keeps_push : (before words : List ℕ) (log : List Change) (a was v : ℕ) → Keeps before log words → slice_get words a ≡ Some was → was ≢ v →
    Keeps before (log ++ change_of a was v ∷ []) (slice_set words a v)
keeps_push before words log a was v k e n = record {
  undo = undone_store log words a was v v e ∙ k.undo;
  apply = applied_push log (change_of a was v) before ∙ ap (λ u. slice_set u a v) k.apply;
  off = same_push log (change_of a was v) words before v k.off;
  real = λ p d s. elim (stands_cases log (change_of a was v) p d s) [
    | inl t ↦ k.real p d t
    | inr t ↦ subst (λ (x : Change). x.was ≢ x.becomes) t.1 n
  ];
  firsts = λ p d s h. elim (stands_cases log (change_of a was v) p d s) [
    | inl t ↦ k.firsts p d t (λ q x l y. h q x l (stands_push log (change_of a was v) q x y))
    | inr t ↦ last_first before words log a was v k e p d t.0 t.1 h
  ];
  lasts = λ p d s h. push_lasts before words log a was v k e p d (stands_cases log (change_of a was v) p d s) h;
}

pub effect_keeps : (before : List ℕ) (m y : Machine) → Keeps before m.log.items m.words → HonestEffect m y → Keeps before y.log.items y.words
effect_keeps before m y k (Left p q) =
    subst (λ (l : Kept Change). Keeps before l.items y.words) (sym q) (subst (λ u. Keeps before m.log.items u) (sym p) k)
effect_keeps before m y k (Changed a was v e n p q) =
    subst (λ (l : Kept Change). Keeps before l.items y.words) (sym q)
    (subst (λ u. Keeps before (m.log.items ++ change_of a was v ∷ []) u) (sym p) (keeps_push before m.words m.log.items a was v k e n))

-- words with no log
keeps_none : (words : List ℕ) → Keeps words [] words
keeps_none words = record {
  undo = refl;
  apply = refl;
  off = record { long = refl; same = λ x h. refl };
  real = λ p d s. absurd (let z : ⊥ = cc in z);
  firsts = λ p d s h. absurd (let z : ⊥ = cc in z);
  lasts = λ p d s h. absurd (let z : ⊥ = cc in z);
}

pub keeps : (g : Setting) (start : Machine) → start.log.items ≡ [] → (n : ℕ) → Keeps start.words (after g start n).machine.log.items (after g start n).machine.words
keeps g start e n =
    all_along g (λ m. Keeps start.words m.log.items m.words) (λ i m k. effect_keeps start.words m (honest (step_tree g i m)).machine k (keeps_honest g i m)) start
    (subst (λ (log : List Change). Keeps start.words log start.words) (sym e) (keeps_none start.words)) n

same_end : (a b : Machine) (x : After) → x ≡ record { machine = a; outcome = Halted } → x ≡ record { machine = b; outcome = Halted } → a ≡ b
same_end a b x h i = ap (λ (y : After). y.machine) (sym h ∙ i)

-- two honest runs from one machine end alike
pub one_end : (g : Setting) (start a b : Machine) (n k : ℕ) → HonestRun g start a n → HonestRun g start b k → a ≡ b
one_end g start a b n k x y =
    same_end a b (after g start (k + n)) (still_halted g start a n (k + n) (omega arith) x.halts) (still_halted g start b k (k + n) (omega arith) y.halts)
