-- What a change of one slot does to the map that slots hold, whatever their layout and whatever an item is.
use Rattle.std.proofs.Common.{◌≡◌, ◌≢◌, ℕ, ◌<◌, ◌⊎◌, inl, inr, List, Option, Some, None, sym, ap, ◌∙◌, subst}
use Rattle.std.proofs.lemmas.Bool.{cases_eq}
use Rattle.sei_words.specs.Holds.{Holds}

abbrev pub Family : Type 0 → Type 1
Family Item = ℕ → List ℕ → Item → Type 0

-- slot j is as before; what a free slot reads as may change
pub record Stays {Item : Type 0} (Taken Taken' : ℕ → Type 0) (Has Has' : Family Item) (j : ℕ) : Type 0 where
  pub taken : Taken j → Taken' j
  pub was_taken : Taken' j → Taken j
  pub has : (q : List ℕ) (x : Item) → Taken j → Has j q x → Has' j q x
  pub had : (q : List ℕ) (x : Item) → Taken' j → Has' j q x → Has j q x

-- slot i alone changed, and the map at k alone. Before, i held k, or was free and k was absent; and so afterwards
pub record OneChange {Item : Type 0} (n : ℕ) (Taken Taken' : ℕ → Type 0) (Has Has' : Family Item) (f f' : List ℕ → Option Item) (i : ℕ) (k : List ℕ) : Type 0 where
  pub within : i < n
  pub before : (Taken i × ((x : Item) × Has i k x)) ⊎ ((Taken i → ⊥) × (f k ≡ None))
  pub after : (Taken' i × ((x : Item) × Has' i k x × (f' k ≡ Some x))) ⊎ ((Taken' i → ⊥) × (f' k ≡ None))
  pub off : (j : ℕ) → j < n → j ≢ i → Stays Taken Taken' Has Has' j
  pub same : (q : List ℕ) → q ≢ k → f' q ≡ f q
  -- a slot has one key
  pub key : (j : ℕ) (p q : List ℕ) (x y : Item) → Has j p x → Has j q y → p ≡ q
  pub key' : (p q : List ℕ) (x y : Item) → Has' i p x → Has' i q y → p ≡ q
  pub test : (q : List ℕ) → (q ≡ k) ⊎ (q ≢ k)

no_some : {X : Type 0} (o : Option X) (x : X) → o ≡ None → o ≡ Some x → ⊥
no_some o x a b = absurd (cc)

some_same : {X : Type 0} (a b : X) → Some a ≡ Some b → a ≡ b
some_same a b e = cc

module _ {Item : Type 0} (n : ℕ) (Taken Taken' : ℕ → Type 0) (Has Has' : Family Item) (f f' : List ℕ → Option Item) (i : ℕ) (k : List ℕ) where
  -- before the change, k is in no other slot
  nowhere_else : Holds n Taken Has f → OneChange n Taken Taken' Has Has' f f' i k → (j : ℕ) → j < n → j ≢ i → Taken j → (x : Item) → Has j k x → ⊥
  nowhere_else h c j lt ne taken x has = elim c.before [
    | inl b ↦ ne (h.one j i lt c.within taken b.0 k x b.1.0 has b.1.1)
    | inr b ↦ (let e = h.each j lt taken in no_some (f k) e.1 b.1 (subst (λ q. f q ≡ Some e.1) (c.key j e.0 k e.1 x e.2 has) e.3))
  ]

  pub one_change : Holds n Taken Has f → OneChange n Taken Taken' Has Has' f f' i k → Holds n Taken' Has' f'
  one_change h c = record {
    each = λ j lt taken. elim (cases_eq j i) [
      | inl e ↦ elim c.after [
        | inl a ↦ (k, a.1.0, subst (λ z. Has' z k a.1.0) (sym e) a.1.1, a.1.2)
        | inr a ↦ absurd (a.0 (subst Taken' e taken))
      ]
      | inr ne ↦ (let st = c.off j lt ne in let o = h.each j lt (st.was_taken taken) in
          let apart : o.0 ≢ k = λ e. nowhere_else h c j lt ne (st.was_taken taken) o.1 (subst (λ q. Has j q o.1) e o.2) in
          (o.0, o.1, st.has o.0 o.1 (st.was_taken taken) o.2, c.same o.0 apart ∙ o.3))
    ];
    every = λ q x e. elim (c.test q) [
      | inl same ↦ elim c.after [
        | inl a ↦ (let ex : a.1.0 ≡ x = some_same _ _ (sym a.1.2 ∙ ap f' (sym same) ∙ e) in
            (i, c.within, a.0, subst (λ p. Has' i p x) (sym same) (subst (λ y. Has' i k y) ex a.1.1)))
        | inr a ↦ absurd (no_some (f' k) x a.1 (ap f' (sym same) ∙ e))
      ]
      | inr apart ↦ (let o = h.every q x (sym (c.same q apart) ∙ e) in
          let ne : o.0 ≢ i = λ same. elim c.before [
            | inl b ↦ apart (c.key o.0 q k x b.1.0 o.3 (subst (λ z. Has z k b.1.0) (sym same) b.1.1))
            | inr b ↦ b.0 (subst Taken same o.2)
          ] in
          let st = c.off o.0 o.1 ne in
          (o.0, o.1, st.taken o.2, st.has q x o.2 o.3))
    ];
    one = λ a b la lb va vb q x y ha hb. elim (cases_eq a i) [
      | inl ea ↦ elim (cases_eq b i) [
        | inl eb ↦ ea ∙ sym eb
        | inr nb ↦ absurd (other b lb nb vb y (subst (λ p. Has' b p y) (is_k x va (subst (λ z. Has' z q x) ea ha) ea) hb))
      ]
      | inr na ↦ elim (cases_eq b i) [
        | inl eb ↦ absurd (other a la na va x (subst (λ p. Has' a p x) (is_k y vb (subst (λ z. Has' z q y) eb hb) eb) ha))
        | inr nb ↦ (let sa = c.off a la na in let sb = c.off b lb nb in h.one a b la lb (sa.was_taken va) (sb.was_taken vb) q x y (sa.had q x va ha) (sb.had q y vb hb))
      ]
    ];
  }
    where
      other : (j : ℕ) → j < n → j ≢ i → Taken' j → (x : Item) → Has' j k x → ⊥
      other j lt ne taken x has = let st = c.off j lt ne in nowhere_else h c j lt ne (st.was_taken taken) x (st.had k x taken has)

      is_k : {q : List ℕ} {j : ℕ} (x : Item) → Taken' j → Has' i q x → j ≡ i → q ≡ k
      is_k x taken has e = elim c.after [
        | inl a ↦ c.key' _ k x a.1.0 has a.1.1
        | inr a ↦ absurd (a.0 (subst Taken' e taken))
      ]
