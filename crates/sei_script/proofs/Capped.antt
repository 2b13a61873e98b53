-- Numbers that stop at a greatest one.
use Rattle.std.proofs.Common.{◌≡◌, ℕ, ◌+◌, ◌-◌, ◌*◌, ◌<◌, ◌≤◌, min, List, [], ◌∷◌, length, drop, get_or, sym, ap, ◌∙◌, arith}
use Rattle.std.proofs.lemmas.List.{drop_more, drop_all}
use Rattle.sei_script.specs.Numbers.{digits_after}

same_cap : (n m d : ℕ) → min (min n m * 10 + d) m ≡ min (n * 10 + d) m
same_cap n m d = omega arith

pub capped_digits : (m n : ℕ) (bs : List ℕ) → min (digits_after (min n m) bs) m ≡ min (digits_after n bs) m
capped_digits m n [] = omega arith
capped_digits m n (b ∷ bs) =
    let x : ℕ = min n m * 10 + (b - 48) in
    let y : ℕ = n * 10 + (b - 48) in
    sym (capped_digits m x bs) ∙ ap (λ (v : ℕ). min (digits_after v bs) m) (same_cap n m (b - 48)) ∙ capped_digits m y bs

-- one more digit
pub capped_turn : (m v w x i : ℕ) (word : List ℕ) → i < length word → x ≡ get_or word i 0 → w ≡ min (v * 10 + (x - 48)) m
    → min (digits_after w (drop (i + 1) word)) m ≡ min (digits_after v (drop i word)) m
capped_turn m v w x i word l e h =
    ap (λ (u : ℕ). min (digits_after u (drop (i + 1) word)) m) (h ∙ ap (λ (u : ℕ). min (v * 10 + (u - 48)) m) e)
    ∙ capped_digits m (v * 10 + (get_or word i 0 - 48)) (drop (i + 1) word)
    ∙ sym (ap (λ (r : List ℕ). min (digits_after v r) m) (drop_more word i 0 l))

pub capped_end : (m v i : ℕ) (word : List ℕ) → length word ≤ i → v ≤ m → min (digits_after v (drop i word)) m ≡ v
capped_end m v i word l h = ap (λ (r : List ℕ). min (digits_after v r) m) (drop_all i word l) ∙ omega arith
