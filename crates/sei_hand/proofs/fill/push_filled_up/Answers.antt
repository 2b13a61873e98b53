use Rattle.std.proofs.Common.{◌≡◌, ℕ, ◌+◌, ◌-◌, ◌≤◌, List, Bool, length, ap, ◌∙◌, arith}
use Rattle.std.specs.Prelude.{nat_le, replicate}
use Rattle.std.specs.Bool.{OnTrue}
use Rattle.sei_code.specs.Kept.{Kept, extended}
use Rattle.mc_model.specs.Packed.{words_for, pack}
use Rattle.mc_model.proofs.Public.{length_pack}
use Rattle.sei_hand.proofs.FillLaws.{goes_in, length_extended, room_extended, extended_twice}
use Rattle.sei_hand.proofs.fill.push_filled_up.Goals as goal

packed : (before after : Kept ℕ) (bytes : List ℕ) (count : ℕ) (b : Bool) → words_for (length bytes) ≤ count → length before.items + count ≤ before.room →
    b ≡ nat_le (length before.items + words_for (length bytes)) before.room → OnTrue b (after ≡ extended before (pack bytes)) → after ≡ extended before (pack bytes)
packed before after bytes count b fit room answer done = goes_in before after (pack bytes) b (words_for (length bytes)) (omega arith) answer done

pub push_zeros-requires : goal.push_zeros-requires
push_zeros-requires c =
    let before = c.args.into.now in
    let after = c.pack.new.into in
    let xs = pack c.args.bytes.now in
    let there = packed before after c.args.bytes.now c.args.count c.pack.result c.requires.fit c.requires.room c.pack.ensures.answer c.pack.ensures.done in
    omega (arith, length_extended before after xs there, room_extended before after xs there, length_pack c.args.bytes.now)

pub returns : goal.returns
returns c =
    let before = c.args.into.now in
    let after = c.pack.new.into in
    let xs = pack c.args.bytes.now in
    let zero_word : ℕ = 0 in
    let there = packed before after c.args.bytes.now c.args.count c.pack.result c.requires.fit c.requires.room c.pack.ensures.answer c.pack.ensures.done in
    let zeros : c.args.count - c.div_ceil.result ≡ c.args.count - length xs = omega (arith, length_pack c.args.bytes.now) in
    extended_twice before after c.push_zeros.new.into xs (replicate (c.args.count - length xs) zero_word) there
    (c.push_zeros.ensures ∙ ap (λ n. extended after (replicate n zero_word)) zeros)
