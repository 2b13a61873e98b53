-- What logs undo and make.
use Rattle.std.proofs.Common.{◌≡◌, ℕ, zero, suc, ◌<◌, ◌≤◌, ◌≢◌, List, [], ◌∷◌, ◌++◌, length, length-set, take, slice_set, Some, None, slice_get, refl, ap, sym, ◌∙◌, arith, ◌⊎◌, inl, inr, Bool, true}
use Rattle.sei_log.specs.declared.log.Change.{Change}
use Rattle.sei_log.specs.Changes.{undone, applied, Stands, IsFree, SameOff}

pub get_set_same : (xs : List ℕ) (i v w : ℕ) → slice_get xs i ≡ Some w → slice_get (slice_set xs i v) i ≡ Some v
get_set_same [] i v w h = absurd (let f : ⊥ = cc in f)
get_set_same (x ∷ xs) zero v w h = refl
get_set_same (x ∷ xs) (suc i) v w h = get_set_same xs i v w h

pub get_set_other : (xs : List ℕ) (i j v : ℕ) → j ≢ i → slice_get (slice_set xs i v) j ≡ slice_get xs j
get_set_other [] i j v h = refl
get_set_other (x ∷ xs) zero zero v h = absurd (h refl)
get_set_other (x ∷ xs) zero (suc j) v h = refl
get_set_other (x ∷ xs) (suc i) zero v h = refl
get_set_other (x ∷ xs) (suc i) (suc j) v h = get_set_other xs i j v (λ e. h (ap suc e))

pub set_same : (xs : List ℕ) (i v : ℕ) → slice_get xs i ≡ Some v → slice_set xs i v ≡ xs
set_same [] i v h = refl
set_same (x ∷ xs) zero v h = let e : v ≡ x = cc in ap (λ y. y ∷ xs) e
set_same (x ∷ xs) (suc i) v h = ap (λ ys. x ∷ ys) (set_same xs i v h)

pub set_set : (xs : List ℕ) (i v w : ℕ) → slice_set (slice_set xs i v) i w ≡ slice_set xs i w
set_set [] i v w = refl
set_set (x ∷ xs) zero v w = refl
set_set (x ∷ xs) (suc i) v w = ap (λ ys. x ∷ ys) (set_set xs i v w)

pub list_ext : (xs ys : List ℕ) → ((i : ℕ) → slice_get xs i ≡ slice_get ys i) → xs ≡ ys
list_ext [] [] h = refl
list_ext [] (y ∷ ys) h = let e : None ≡ Some y = h 0 in absurd (let f : ⊥ = cc in f)
list_ext (x ∷ xs) [] h = let e : Some x ≡ None = h 0 in absurd (let f : ⊥ = cc in f)
list_ext (x ∷ xs) (y ∷ ys) h =
    let e : Some x ≡ Some y = h 0 in
    let f : x ≡ y = cc in
    let r : xs ≡ ys = list_ext xs ys (λ i. h (suc i)) in
    cc

pub undone_push : (log : List Change) (e : Change) (w : List ℕ) → undone (log ++ e ∷ []) w ≡ undone log (slice_set w e.address e.was)
undone_push [] e w = refl
undone_push (f ∷ fs) e w = ap (λ u. slice_set u f.address f.was) (undone_push fs e w)

pub applied_push : (log : List Change) (e : Change) (w : List ℕ) → applied (log ++ e ∷ []) w ≡ slice_set (applied log w) e.address e.becomes
applied_push [] e w = refl
applied_push (f ∷ fs) e w = applied_push fs e (slice_set w f.address f.becomes)

-- the entries of a log with one more
pub stands_push : (log : List Change) (e : Change) (p : ℕ) (f : Change) → Stands log p f → Stands (log ++ e ∷ []) p f
stands_push [] e p f h = absurd (let z : ⊥ = cc in z)
stands_push (x ∷ xs) e zero f h = h
stands_push (x ∷ xs) e (suc p) f h = stands_push xs e p f h

pub stands_last : (log : List Change) (e : Change) → Stands (log ++ e ∷ []) (length log) e
stands_last [] e = refl
stands_last (x ∷ xs) e = stands_last xs e

pub stands_cases : (log : List Change) (e : Change) (p : ℕ) (f : Change) → Stands (log ++ e ∷ []) p f →
    Stands log p f ⊎ ((p ≡ length log) × (e ≡ f))
stands_cases [] e zero f h = let g : e ≡ f = cc in inr (refl, g)
stands_cases [] e (suc p) f h = absurd (let z : ⊥ = cc in z)
stands_cases (x ∷ xs) e zero f h = inl h
stands_cases (x ∷ xs) e (suc p) f h = elim (stands_cases xs e p f h) [ inl s ↦ inl s | inr s ↦ inr (ap suc s.0, s.1) ]

pub same_push : (log : List Change) (e : Change) (u v : List ℕ) (w : ℕ) → SameOff log u v → SameOff (log ++ e ∷ []) (slice_set u e.address w) v
same_push log e u v w s = record {
  long = length-set u e.address w ∙ s.long;
  same = λ x h.
      get_set_other u e.address x w (h (length log) e (stands_last log e))
      ∙ s.same x (λ p f k. h p f (stands_push log e p f k));
}

pub same_within : (log : List Change) (p : ℕ) (e : Change) (u v : List ℕ) (w : ℕ) → Stands log p e → SameOff log u v → SameOff log (slice_set u e.address w) v
same_within log p e u v w h s = record {
  long = length-set u e.address w ∙ s.long;
  same = λ x f. get_set_other u e.address x w (f p e h) ∙ s.same x f;
}

pub get_set_both : (u v : List ℕ) (i w : ℕ) → length u ≡ length v → slice_get (slice_set u i w) i ≡ slice_get (slice_set v i w) i
get_set_both [] [] i w h = refl
get_set_both [] (y ∷ ys) i w h = absurd (omega (arith, h))
get_set_both (x ∷ xs) [] i w h = absurd (omega (arith, h))
get_set_both (x ∷ xs) (y ∷ ys) zero w h = refl
get_set_both (x ∷ xs) (y ∷ ys) (suc i) w h = get_set_both xs ys i w (omega (arith, h))

free_push : (e : Change) (es : List Change) (x : ℕ) → x ≢ e.address → IsFree es x → IsFree (e ∷ es) x
free_push e es x n f zero g h = let k : e ≡ g = cc in λ i. n (i ∙ ap (λ (y : Change). y.address) (sym k))
free_push e es x n f (suc p) g h = f p g h

same_both : (e : Change) (es : List Change) (u v : List ℕ) (x : ℕ) (b : Bool) → (x ≡ e.address) ⊎ (x ≢ e.address) → SameOff (e ∷ es) u v → IsFree es x →
    slice_get (slice_set u e.address e.becomes) x ≡ slice_get (slice_set v e.address e.becomes) x
same_both e es u v x b (inl h) s f =
    ap (slice_get (slice_set u e.address e.becomes)) h ∙ get_set_both u v e.address e.becomes s.long ∙ ap (slice_get (slice_set v e.address e.becomes)) (sym h)
same_both e es u v x b (inr h) s f =
    get_set_other u e.address x e.becomes h ∙ s.same x (free_push e es x h f) ∙ sym (get_set_other v e.address x e.becomes h)

pub equal_or : (a b : ℕ) → (a ≡ b) ⊎ (a ≢ b)
equal_or zero zero = inl refl
equal_or zero (suc b) = inr (λ e. omega (arith, e))
equal_or (suc a) zero = inr (λ e. omega (arith, e))
equal_or (suc a) (suc b) = elim (equal_or a b) [ inl e ↦ inl (ap suc e) | inr n ↦ inr (λ e. n (omega (arith, e))) ]

same_tail : (e : Change) (es : List Change) (u v : List ℕ) → SameOff (e ∷ es) u v → SameOff es (slice_set u e.address e.becomes) (slice_set v e.address e.becomes)
same_tail e es u v s = record {
  long = length-set u e.address e.becomes ∙ s.long ∙ sym (length-set v e.address e.becomes);
  same = λ x f. same_both e es u v x true (equal_or x e.address) s f;
}

-- words that differ only where the log has entries come to the same when it is applied
pub applied_off : (log : List Change) (u v : List ℕ) → SameOff log u v → applied log u ≡ applied log v
applied_off [] u v s = list_ext u v (λ i. s.same i (λ p e h. absurd (let z : ⊥ = cc in z)))
applied_off (e ∷ es) u v s = applied_off es _ _ (same_tail e es u v s)

pub applied_there : (log : List Change) (u : List ℕ) → ((p : ℕ) (e : Change) → Stands log p e → slice_get u e.address ≡ Some e.becomes) → applied log u ≡ u
applied_there [] u h = refl
applied_there (e ∷ es) u h = ap (applied es) (set_same u e.address e.becomes (h 0 e refl)) ∙ applied_there es u (λ p f s. h (suc p) f s)

pub take_stands : (log : List Change) (p : ℕ) (e : Change) → Stands log p e → take (suc p) log ≡ take p log ++ e ∷ []
take_stands [] p e h = absurd (let z : ⊥ = cc in z)
take_stands (x ∷ xs) zero e h = let k : x ≡ e = cc in ap (λ (y : Change). let r : List Change = y ∷ [] in r) k
take_stands (x ∷ xs) (suc p) e h = ap (λ ys. x ∷ ys) (take_stands xs p e h)

pub take_whole : (log : List Change) → take (length log) log ≡ log
take_whole [] = refl
take_whole (x ∷ xs) = ap (λ ys. x ∷ ys) (take_whole xs)

pub get_past : (xs : List Change) (i : ℕ) → length xs ≤ i → slice_get xs i ≡ None
get_past [] i h = refl
get_past (x ∷ xs) zero h = absurd (omega (arith, h))
get_past (x ∷ xs) (suc i) h = get_past xs i (omega (arith, h))

pub lt_or : (a b : ℕ) → (a < b) ⊎ (b ≤ a)
lt_or a zero = inr (omega arith)
lt_or zero (suc b) = inl (omega arith)
lt_or (suc a) (suc b) = elim (lt_or a b) [ inl l ↦ inl (omega (arith, l)) | inr l ↦ inr (omega (arith, l)) ]
