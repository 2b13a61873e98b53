-- The first free slot, by what is known of the slots before it.
use Rattle.std.proofs.Common.{◌≡◌, ℕ, zero, suc, ◌+◌, ◌<◌, ◌≤◌, ◌⊎◌, inl, inr, Bool, true, false, List, refl, sym, ◌∙◌, subst, arith}
use Rattle.std.specs.Prelude.{if◌then◌else◌}
use Rattle.mc_model.specs.declared.geometry.Geometry.{Geometry}
use Rattle.sei_words.specs.Free.{is_free, IsFirstFree, IsFull}
use Rattle.sei_stmt.specs.Slots.{first_free}

-- where none is free, it is the place behind them
pub none_free : (i n : ℕ) → first_free (λ slot. false) i n ≡ i + n
none_free i zero = omega arith
none_free i (suc n) = none_free (i + 1) n ∙ omega arith

order : (i s : ℕ) → i ≤ s → (i ≡ s) ⊎ (i < s)
order i s h = grind arith

first_here : (f : ℕ → Bool) (i s : ℕ) → f i ≡ true → ((j : ℕ) → i ≤ j → j < s → f j ≡ false) → (i ≡ s) ⊎ (i < s) → i ≡ s
first_here f i s e d (inl h) = h
first_here f i s e d (inr h) = let no = d i (omega arith) h in absurd cc

first_later : (f : ℕ → Bool) (i s : ℕ) → f i ≡ false → f s ≡ true → (i ≡ s) ⊎ (i < s) → i + 1 ≤ s
first_later f i s e t (inl h) = absurd cc
first_later f i s e t (inr h) = omega arith

first_from : (f : ℕ → Bool) (i n s : ℕ) (b : Bool) → f i ≡ b → i ≤ s → s < i + suc n → f s ≡ true → ((j : ℕ) → i ≤ j → j < s → f j ≡ false) →
    (i + 1 ≤ s → s < (i + 1) + n → ((j : ℕ) → i + 1 ≤ j → j < s → f j ≡ false) → first_free f (i + 1) n ≡ s) →
    (if b then i else first_free f (i + 1) n) ≡ s
first_from f i n s true e a l t d rest = first_here f i s e d (order i s a)
first_from f i n s false e a l t d rest = rest (first_later f i s e t (order i s a)) (omega arith) (λ j u v. d j (omega arith) v)

-- a free slot before which none is free
pub first_is : (f : ℕ → Bool) (i n s : ℕ) → i ≤ s → s < i + n → f s ≡ true → ((j : ℕ) → i ≤ j → j < s → f j ≡ false) → first_free f i n ≡ s
first_is f i zero s a l t d = absurd (omega arith)
first_is f i (suc n) s a l t d = first_from f i n s (f i) refl a l t d (λ u v w. first_is f (i + 1) n s u v t w)

taken_from : (f : ℕ → Bool) (i n : ℕ) (b : Bool) → f i ≡ b → b ≡ false → first_free f (i + 1) n ≡ (i + 1) + n →
    (if b then i else first_free f (i + 1) n) ≡ i + suc n
taken_from f i n true e h rest = absurd cc
taken_from f i n false e h rest = rest ∙ omega arith

all_taken : (f : ℕ → Bool) (i n : ℕ) → ((j : ℕ) → i ≤ j → j < i + n → f j ≡ false) → first_free f i n ≡ i + n
all_taken f i zero d = omega arith
all_taken f i (suc n) d = taken_from f i n (f i) refl (d i (omega arith) (omega arith)) (all_taken f (i + 1) n (λ j u v. d j (omega arith) (omega arith)))

-- the slot that is found, and that none is, by the words of a bucket
pub found_is_lowest : (g h : Geometry) (words : List ℕ) (moment s : ℕ) → g ≡ h → IsFirstFree g words moment s →
    s ≡ first_free (λ slot. is_free h words moment slot) 0 h.slots
found_is_lowest g h words moment s e f =
    let first : IsFirstFree h words moment s = subst (λ k. IsFirstFree k words moment s) e f in
    sym (first_is (λ slot. is_free h words moment slot) 0 h.slots s (omega arith) (omega (arith, first.within)) first.free (λ j u v. first.lowest j v))

pub full_is_behind : (g h : Geometry) (words : List ℕ) (moment : ℕ) → g ≡ h → IsFull g words moment →
    h.slots ≡ first_free (λ slot. is_free h words moment slot) 0 h.slots
full_is_behind g h words moment e f =
    let full : IsFull h words moment = subst (λ k. IsFull k words moment) e f in
    sym (all_taken (λ slot. is_free h words moment slot) 0 h.slots (λ j u v. full j (omega arith)) ∙ omega arith)
