-- A change of a map at the place of its key.
use Rattle.std.proofs.Common.{◌≡◌, ℕ, zero, suc, ◌+◌, ◌<◌, Bool, true, false, cond, List, [], ◌∷◌, ◌++◌, length, get_or, refl, sym, ap, ◌∙◌, arith, Some, None}
use Rattle.std.specs.Prelude.{slice_set, remove}
use Rattle.std.specs.List.{position, position_from}
use Rattle.std.proofs.lemmas.List.Quantifiers.{position-Some}
use Rattle.std.proofs.lemmas.Iterator.Adapters.{position_from-zero}
use Rattle.std.specs.Str.{bytes_eq}
use Rattle.mc_model.specs.Bucket.{Item, Entries, put, without}

abbrev has_key : List ℕ → List ℕ × Item → Bool
has_key key e = bytes_eq key e.0

-- the entry at i is the first with this key
abbrev IsFirst : List ℕ → Entries → ℕ → List ℕ × Item → Type 0
IsFirst key es i d = (i < length es) × (has_key key (get_or es i d) ≡ true) × ((k : ℕ) → k < i → has_key key (get_or es k d) ≡ false)

put_at : (key : List ℕ) (x : Item) (es : Entries) (i : ℕ) → IsFirst key es i (key, x) → put key x es ≡ slice_set es i (key, x)
put_at key x [] i f = absurd (omega (arith, f.0))
put_at key x (e ∷ es) zero f = simp f.1
put_at key x (e ∷ es) (suc i) f = simp (f.2 0 (omega arith)) (ap (λ (zs : Entries). e ∷ zs) (put_at key x es i (omega (arith, f.0), f.1, λ k h. f.2 (suc k) (omega arith))))

without_at : (key : List ℕ) (es : Entries) (i : ℕ) (d : List ℕ × Item) → IsFirst key es i d → without key es ≡ remove es i
without_at key [] i d f = absurd (omega (arith, f.0))
without_at key (e ∷ es) zero d f = simp f.1
without_at key (e ∷ es) (suc i) d f = simp (f.2 0 (omega arith)) (ap (λ (zs : Entries). e ∷ zs) (without_at key es i d (omega (arith, f.0), f.1, λ k h. f.2 (suc k) (omega arith))))

put_nowhere : (n : ℕ) (key : List ℕ) (x : Item) (es : Entries) → position_from (has_key key) n es ≡ None → put key x es ≡ es ++ (key, x) ∷ []
put_nowhere n key x [] e = refl
put_nowhere n key x (y ∷ es) e = by_test (put_nowhere (n + 1) key x es) (bytes_eq key y.0) e
  where
    by_test : (position_from (has_key key) (n + 1) es ≡ None → put key x es ≡ es ++ (key, x) ∷ []) → (b : Bool) → cond b (Some n) (position_from (has_key key) (n + 1) es) ≡ None → cond b ((key, x) ∷ es) (y ∷ put key x es) ≡ y ∷ (es ++ (key, x) ∷ [])
    by_test more true h = cc
    by_test more false h = ap (λ (zs : Entries). y ∷ zs) (more h)

without_nowhere : (n : ℕ) (key : List ℕ) (es : Entries) → position_from (has_key key) n es ≡ None → without key es ≡ es
without_nowhere n key [] e = refl
without_nowhere n key (y ∷ es) e = by_test (without_nowhere (n + 1) key es) (bytes_eq key y.0) e
  where
    by_test : (position_from (has_key key) (n + 1) es ≡ None → without key es ≡ es) → (b : Bool) → cond b (Some n) (position_from (has_key key) (n + 1) es) ≡ None → cond b es (y ∷ without key es) ≡ y ∷ es
    by_test more true h = cc
    by_test more false h = ap (λ (zs : Entries). y ∷ zs) (more h)

pub put_found : (key : List ℕ) (x : Item) (es : Entries) (i : ℕ) → Some i ≡ position (has_key key) es → slice_set es i (key, x) ≡ put key x es
put_found key x es i h = sym (put_at key x es i (position-Some (has_key key) es i (key, x) (sym h)))

pub put_new : (key : List ℕ) (x : Item) (es : Entries) → None ≡ position (has_key key) es → es ++ (key, x) ∷ [] ≡ put key x es
put_new key x es h = sym (put_nowhere 0 key x es (sym (position_from-zero (has_key key) es) ∙ sym h))

pub without_found : (key : List ℕ) (es : Entries) (i : ℕ) (d : List ℕ × Item) → Some i ≡ position (has_key key) es → remove es i ≡ without key es
without_found key es i d h = sym (without_at key es i d (position-Some (has_key key) es i d (sym h)))

pub without_new : (key : List ℕ) (es : Entries) → None ≡ position (has_key key) es → es ≡ without key es
without_new key es h = sym (without_nowhere 0 key es (sym (position_from-zero (has_key key) es) ∙ sym h))
