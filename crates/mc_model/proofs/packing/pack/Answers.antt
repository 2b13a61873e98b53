use Rattle.std.proofs.Common.{◌≡◌, ℕ, ◌+◌, ◌<◌, length, ap, ◌∙◌, arith}
use Rattle.std.specs.Prelude.{map}
use Rattle.std.specs.List.{range_with_len}
use Rattle.std.proofs.lemmas.List.{length-append}
use Rattle.std.proofs.lemmas.List.FromFn.{length-map-range_with_len, map-range_with_len_more}
use Rattle.std.proofs.lemmas.Grind.{common_steps}
use Rattle.sei_code.specs.Kept.{Kept, offered, extended}
use Rattle.mc_model.proofs.packing.pack.Goals as goal

-- one word more
more : (k into : Kept ℕ) (f : ℕ → ℕ) (j w : ℕ) → k ≡ extended into (map f (range_with_len 0 j)) → w ≡ f j → length into.items + j < into.room →
    offered k w ≡ extended into (map f (range_with_len 0 (j + 1)))
more k into f j w there word room =
    let size : length k.items ≡ length into.items + j = ap (λ (h : Kept ℕ). length h.items) there ∙ omega (arith, length-append into.items (map f (range_with_len 0 j)), length-map-range_with_len f 0 j) in
    grind (arith, common_steps, size, map-range_with_len_more f 0 j j (omega arith))

pub loop-j-preserved : goal.loop-j-preserved
loop-j-preserved c = record {
  there = c.push.ensures.list ∙ more _ _ _ c.loop-j.j _ c.loop-j.invariant.there c.word_at.ensures (omega arith);
  count = c.loop-j.invariant.count;
  room = c.loop-j.invariant.room;
}
