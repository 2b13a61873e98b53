-- Sums that do not wrap, and words that are there.
use Rattle.std.proofs.Common.{◌≡◌, ℕ, ◌+◌, ◌%◌, ◌^◌, ◌<◌, List, length, sym, subst, arith}
use Rattle.std.specs.Prelude.{slice_index}
use Rattle.std.proofs.lemmas.Option.{slice_get-get_or}
use Rattle.sei_stmt.specs.Programs.{HasWord}

-- a sum that does not wrap
pub sum_is : (x y v : ℕ) → x + y ≡ v → v < 2 ^ 64 → (x + y) % 2 ^ 64 ≡ v
sum_is x y v e lt = omega arith

-- the word that is read
pub word_is : (words : List ℕ) (a b : ℕ) → a ≡ b → b < length words → HasWord words a (slice_index words b)
word_is words a b e lt = subst (λ n. HasWord words n (slice_index words b)) (sym e) (slice_get-get_or words b 0 lt)
