-- A bucket has as many items as slots exactly where no slot is free.
use Rattle.std.proofs.Common.{◌≡◌, ◌≢◌, ℕ, zero, suc, ◌<◌, ◌≤◌, ◌⊎◌, inl, inr, List, [], ◌∷◌, length, Option, Some, None, refl, sym, ap, ◌∙◌, subst, arith}
use Rattle.std.specs.Prelude.{slice_get}
use Rattle.std.proofs.lemmas.Bool.{cases_eq}
use Rattle.mc_model.specs.declared.geometry.Geometry.{Geometry}
use Rattle.mc_model.specs.Bucket.{Item, Entries, Bucket, IsMap, lookup}
use Rattle.mc_model.proofs.PublicBuckets.{entry_lookup, lookup_entry}
use Rattle.sei_words.specs.Free.{IsTaken, IsFull}
use Rattle.sei_words.specs.Stands.{Reads, StandsFor}
use Rattle.sei_words.proofs.PublicSlots.{one_key}

-- n things with a place each below m, no two with the same, are at most m
pub pigeon : (n m : ℕ) (R : ℕ → ℕ → Type 0) → ((i : ℕ) → i < n → (v : ℕ) × (v < m) × R i v) → ((i j v : ℕ) → i < n → j < n → R i v → R j v → i ≡ j) → n ≤ m
pigeon zero m R some one = omega arith
pigeon (suc n) zero R some one = (let o = some n (omega arith) in absurd (omega (arith, o.1)))
pigeon (suc n) (suc m) R some one =
    let top = some n (omega arith) in
    let rest = pigeon n m (λ i v. (R i v × (v ≢ m)) ⊎ (R i m × (v ≡ top.0)))
    (λ i lt. let o = some i (omega (arith, lt)) in
    elim (cases_eq o.0 m) [
      | inl e ↦ (let at_m = subst (R i) e o.2 in
          let below : top.0 ≢ m = λ t. (let i_n = one i n m (omega (arith, lt)) (omega arith) at_m (subst (R n) t top.2) in omega (arith, i_n, lt)) in
          (top.0, omega (arith, top.1, below), inr (at_m, refl)))
      | inr ne ↦ (o.0, omega (arith, o.1, ne), inl (o.2, ne))
    ])
    (λ i j v li lj ri rj. elim ri [
      | inl a ↦ elim rj [
        | inl b ↦ one i j v (omega (arith, li)) (omega (arith, lj)) a.0 b.0
        | inr b ↦ (let i_n = one i n top.0 (omega (arith, li)) (omega arith) (subst (R i) b.1 a.0) top.2 in absurd (omega (arith, i_n, li)))
      ]
      | inr a ↦ elim rj [
        | inl b ↦ (let j_n = one j n top.0 (omega (arith, lj)) (omega arith) (subst (R j) a.1 b.0) top.2 in absurd (omega (arith, j_n, lj)))
        | inr b ↦ one i j m (omega (arith, li)) (omega (arith, lj)) a.0 b.0
      ]
    ])
    in omega (arith, rest)

entry_there : (es : Entries) (j : ℕ) → j < length es → (e : List ℕ × Item) × (slice_get es j ≡ Some e)
entry_there [] j lt = absurd (omega (arith, lt))
entry_there (e ∷ es) zero lt = (e, refl)
entry_there (e ∷ es) (suc j) lt = entry_there es j (omega (arith, lt))

entry_within : (es : Entries) (j : ℕ) (e : List ℕ × Item) → slice_get es j ≡ Some e → j < length es
entry_within [] j e h = absurd (cc)
entry_within (f ∷ es) zero e h = omega arith
entry_within (f ∷ es) (suc j) e h = omega (arith, entry_within es j e h)

clash : (o : Option Item) (x : Item) → o ≡ None → o ≡ Some x → ⊥
clash o x a b = absurd (cc)

-- a key stands at one place
one_entry : (es : Entries) (i j : ℕ) (k : List ℕ) (x y : Item) → IsMap es → slice_get es i ≡ Some (k, x) → slice_get es j ≡ Some (k, y) → i ≡ j
one_entry [] i j k x y m a b = absurd (cc)
one_entry (e ∷ es) zero zero k x y m a b = refl
one_entry (e ∷ es) zero (suc j) k x y m a b = (let same : e.0 ≡ k = head_key a in absurd (clash (lookup k es) y (ap (λ q. lookup q es) (sym same) ∙ m.0) (entry_lookup es j k y m.1 b)))
  where
    head_key : Some e ≡ Some (k, x) → e.0 ≡ k
    head_key h = let f : e ≡ (k, x) = cc in ap (λ (p : List ℕ × Item). p.0) f
one_entry (e ∷ es) (suc i) zero k x y m a b = (let same : e.0 ≡ k = head_key b in absurd (clash (lookup k es) x (ap (λ q. lookup q es) (sym same) ∙ m.0) (entry_lookup es i k x m.1 a)))
  where
    head_key : Some e ≡ Some (k, y) → e.0 ≡ k
    head_key h = let f : e ≡ (k, y) = cc in ap (λ (p : List ℕ × Item). p.0) f
one_entry (e ∷ es) (suc i) (suc j) k x y m a b = ap suc (one_entry es i j k x y m.1 a b)

module _ (g : Geometry) (ws : List ℕ) (b : Bucket) (h : StandsFor g ws b) where
  -- entry j stands in slot v
  abbrev Sits : ℕ → ℕ → Type 0
  Sits j v = IsTaken g ws b.moment v × ((k : List ℕ) × (x : Item) × (slice_get b.items j ≡ Some (k, x)) × Reads g ws v k x)

  sits : (j : ℕ) → j < length b.items → (v : ℕ) × (v < g.slots) × Sits j v
  sits j lt =
      let e = entry_there b.items j lt in
      let o = h.holds.every e.0.0 e.0.1 (entry_lookup b.items j e.0.0 e.0.1 h.model.map e.1) in
      (o.0, o.1, (o.2, (e.0.0, e.0.1, e.1, o.3)))

  sits_one : (i j v : ℕ) → i < length b.items → j < length b.items → Sits i v → Sits j v → i ≡ j
  sits_one i j v li lj p q =
      let same = one_key g ws v q.1.0 p.1.0 q.1.1 p.1.1 q.1.3 p.1.3 in
      one_entry b.items i j p.1.0 p.1.1 q.1.1 h.model.map p.1.2 (subst (λ k. slice_get b.items j ≡ Some (k, q.1.1)) same q.1.2)

  -- a free slot: fewer items than slots
  abbrev Shifted : ℕ → ℕ → ℕ → Type 0
  Shifted s zero v = v ≡ s
  Shifted s (suc j) v = Sits j v

  shifted : (s : ℕ) → s < g.slots → (i : ℕ) → i < suc (length b.items) → (v : ℕ) × (v < g.slots) × Shifted s i v
  shifted s lt zero li = (s, lt, refl)
  shifted s lt (suc j) li = sits j (omega (arith, li))

  shifted_one : (s : ℕ) → (IsTaken g ws b.moment s → ⊥) → (i j v : ℕ) → i < suc (length b.items) → j < suc (length b.items) → Shifted s i v → Shifted s j v → i ≡ j
  shifted_one s free zero zero v li lj p q = refl
  shifted_one s free zero (suc j) v li lj p q = absurd (free (subst (IsTaken g ws b.moment) p q.0))
  shifted_one s free (suc i) zero v li lj p q = absurd (free (subst (IsTaken g ws b.moment) q p.0))
  shifted_one s free (suc i) (suc j) v li lj p q = ap suc (sits_one i j v (omega (arith, li)) (omega (arith, lj)) p q)

  pub not_full : (s : ℕ) → s < g.slots → (IsTaken g ws b.moment s → ⊥) → length b.items < g.slots
  not_full s lt free = pigeon (suc (length b.items)) g.slots (Shifted s) (shifted s lt) (shifted_one s free)

  -- no free slot: as many items as slots
  pub full : IsFull g ws b.moment → length b.items ≡ g.slots
  full all =
      let up = pigeon (length b.items) g.slots Sits sits sits_one in
      let down = pigeon g.slots (length b.items) (λ v j. (k : List ℕ) × (x : Item) × (slice_get b.items j ≡ Some (k, x)) × Reads g ws v k x)
      (λ v lt. let o = h.holds.each v lt (all v lt) in let at = lookup_entry b.items o.0 o.1 o.3 in (at.0, entry_within b.items at.0 (o.0, o.1) at.1, (o.0, o.1, at.1, o.2)))
      (λ u v j lu lv p q.
      let same : q.0 ≡ p.0 = one_pair j q.0 p.0 q.1 p.1 q.2 p.2 in
      h.holds.one u v lu lv (all u lu) (all v lv) p.0 p.1 q.1 p.3 (subst (λ k. Reads g ws v k q.1) same q.3)) in
      omega (arith, up, down)
    where
      pair_same : (e f : List ℕ × Item) → Some e ≡ Some f → e ≡ f
      pair_same e f h = cc

      one_pair : (j : ℕ) (k l : List ℕ) (x y : Item) → slice_get b.items j ≡ Some (k, x) → slice_get b.items j ≡ Some (l, y) → k ≡ l
      one_pair j k l x y p q = let f : (k, x) ≡ (l, y) = pair_same (k, x) (l, y) (sym p ∙ q) in ap (λ (e : List ℕ × Item). e.0) f
