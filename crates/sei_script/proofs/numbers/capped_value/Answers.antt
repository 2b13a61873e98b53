use Rattle.std.proofs.Common.{◌≡◌, ℕ, ◌+◌, ◌-◌, ◌*◌, min, get_or, refl, sym, ◌∙◌, arith}
use Rattle.sei_script.proofs.Capped.{capped_turn, capped_end}
use Rattle.sei_script.proofs.numbers.capped_value.Goals as goal

pub loop-b-preserved : goal.loop-b-preserved
loop-b-preserved c =
    let m : ℕ = 340282366920938463463374607431768211455 in
    let w : c.saturating_add-value.result ≡ min (c.loop-b.value * 10 + (get_or c.args.word.now c.loop-b.b-index 0 - 48)) m = omega arith in
    record {
      whole = capped_turn m c.loop-b.value _ _ c.loop-b.b-index c.args.word.now (omega arith) refl w ∙ c.loop-b.invariant.whole;
      fits = omega arith;
    }

pub returns : goal.returns
returns c = sym (capped_end 340282366920938463463374607431768211455 _ _ c.args.word.now (omega arith) (omega arith)) ∙ c.loop-b.invariant.whole
