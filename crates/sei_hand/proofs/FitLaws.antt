-- The slots that may answer are free ones, or the number of slots where none is.
use Rattle.std.proofs.Common.{◌≡◌, ℕ, zero, suc, ◌+◌, ◌<◌, ◌⊎◌, inl, inr, Bool, true, false, List, refl, ap, ◌∙◌, subst, arith}
use Rattle.std.specs.Prelude.{◌&&◌, ◌||◌, ◌==◌, nat_lt, if◌then◌else◌}
use Rattle.std.proofs.lemmas.Bool.{and_parts, ltb-true, eqb-true}
use Rattle.mc_model.specs.declared.geometry.Geometry.{Geometry}
use Rattle.sei_words.specs.Free.{is_free}
use Rattle.sei_stmt.specs.Machine.{Setting}
use Rattle.sei_stmt.specs.Slots.{first_free, is_admissible}
use Rattle.tab_find.specs.Fit.{IsAnswer}

-- the walk came to its end: nothing is free
none_free : (free : ℕ → Bool) (i n : ℕ) → first_free free i n ≡ i + n → (j : ℕ) → j < n → free (i + j) ≡ false
none_free free i zero e j lt = absurd (omega (arith, lt))
none_free free i (suc n) e j lt = by_test (free i) refl e (λ end. none_free free (i + 1) n end)
  where
    here : (j : ℕ) → free i ≡ false → ((k : ℕ) → k < n → free (i + 1 + k) ≡ false) → j < suc n → free (i + j) ≡ false
    here zero f more lt = let at : i + 0 ≡ i = omega arith in ap free at ∙ f
    here (suc k) f more lt = let at : i + suc k ≡ i + 1 + k = omega arith in ap free at ∙ more k (omega (arith, lt))

    by_test : (t : Bool) → free i ≡ t → (if t then i else first_free free (i + 1) n) ≡ i + suc n → (first_free free (i + 1) n ≡ i + 1 + n → (k : ℕ) → k < n → free (i + 1 + k) ≡ false) → free (i + j) ≡ false
    by_test true f end more = absurd (omega (arith, end))
    by_test false f end more = here j f (more (omega (arith, end))) lt

-- the test of an answer, by which of so many slots are free
abbrev passes : (ℕ → Bool) → ℕ → ℕ → Bool
passes free n slot = (nat_lt slot n && free slot) || (slot == n && first_free free 0 n == n)

one_of : (x y : Bool) → (x || y) ≡ true → (x ≡ true) ⊎ (y ≡ true)
one_of true y h = inl refl
one_of false y h = inr h

answer_is : (free : ℕ → Bool) (n slot : ℕ) → passes free n slot ≡ true → ((slot < n) × (free slot ≡ true)) ⊎ ((slot ≡ n) × ((j : ℕ) → j < n → free j ≡ false))
answer_is free n slot h = elim (one_of (nat_lt slot n && free slot) (slot == n && first_free free 0 n == n) h) [
  | inl one ↦ (let y = and_parts (nat_lt slot n) (free slot) one in inl (ltb-true slot n y.0, y.1))
  | inr last ↦ (let y = and_parts (slot == n) (first_free free 0 n == n) last in inr (eqb-true slot n y.0, none (omega (arith, eqb-true (first_free free 0 n) n y.1))))
]
  where
    none : first_free free 0 n ≡ 0 + n → (j : ℕ) → j < n → free j ≡ false
    none end j lt = let at : 0 + j ≡ j = omega arith in subst (λ k. free k ≡ false) at (none_free free 0 n end j lt)

pub fit_is_answer : (g : Geometry) (setting : Setting) → setting.slots ≡ g.slots → setting.is_free ≡ is_free g → (words : List ℕ) (moment slot : ℕ) → is_admissible setting words moment slot ≡ true → IsAnswer g words moment slot
fit_is_answer g setting slots free words moment slot h =
    let h' : passes (setting.is_free words moment) g.slots slot ≡ true = subst (λ n. passes (setting.is_free words moment) n slot ≡ true) slots h in
    answer_is (is_free g words moment) g.slots slot (subst (λ f. passes (f words moment) g.slots slot ≡ true) free h')
