use Rattle.std.proofs.Common.{◌≡◌, ℕ, ◌+◌, ◌-◌, ◌≤◌, Bool, List, ◌++◌, length, refl, ap, ◌∙◌, arith}
use Rattle.std.specs.Prelude.{nat_le, replicate}
use Rattle.std.specs.Bool.{OnTrue}
use Rattle.std.proofs.lemmas.List.{length-replicate, replicate-append-replicate, take-replicate}
use Rattle.sei_code.specs.Kept.{Kept, extended}
use Rattle.sei_hand.proofs.FillLaws.{goes_in, length_extended, room_extended, extended_twice}
use Rattle.sei_hand.proofs.fill.push_zeros.Goals as goal

-- n zeros more
more : (into k new : Kept ℕ) (a n : ℕ) (xs : List ℕ) (b : Bool) → k ≡ extended into (replicate a 0) → xs ≡ replicate n 0 → length into.items + (a + n) ≤ into.room →
    b ≡ nat_le (length k.items + length xs) k.room → OnTrue b (new ≡ extended k xs) → new ≡ extended into (replicate (a + n) 0)
more into k new a n xs b there zeros room answer done =
    let zero_word : ℕ = 0 in
    let many : length xs ≡ n = ap length zeros ∙ length-replicate n zero_word in
    let fits : length k.items + length xs ≤ k.room =
    omega (arith, many, length_extended into k (replicate a 0) there, length-replicate a zero_word, room_extended into k (replicate a 0) there) in
    extended_twice into k new (replicate a 0) xs there (goes_in k new xs b (length xs) fits answer done)
    ∙ ap (extended into) (ap (λ ys. replicate a 0 ++ ys) zeros ∙ replicate-append-replicate a n zero_word)

pub loop-left-preserved : goal.loop-left-preserved
loop-left-preserved c =
    let before = c.args.count - c.loop-left.left in
    let sum : before + 32 ≡ c.args.count - (c.loop-left.left - 32) = omega arith in
    record {
      filled = more c.args.into.now c.loop-left.into c.extend_from_slice.new.self before 32 _ c.extend_from_slice.result c.loop-left.invariant.filled refl (omega arith) c.extend_from_slice.ensures.answer c.extend_from_slice.ensures.done
          ∙ ap (λ n. extended c.args.into.now (replicate n 0)) sum;
      within = omega arith;
    }

pub returns : goal.returns
returns c =
    let zero_word : ℕ = 0 in
    let before = c.args.count - c.loop-left.left in
    let sum : before + c.loop-left.left ≡ c.args.count = omega arith in
    more c.args.into.now c.loop-left.into c.extend_from_slice-2.new.self before c.loop-left.left _ c.extend_from_slice-2.result c.loop-left.invariant.filled (take-replicate c.loop-left.left 32 zero_word (omega arith)) (omega arith) c.extend_from_slice-2.ensures.answer c.extend_from_slice-2.ensures.done
    ∙ ap (λ n. extended c.args.into.now (replicate n 0)) sum
