use Rattle.std.proofs.Common.{◌≡◌, ℕ, ◌+◌, sym, subst}
use Rattle.yardstick.specs.Calls.{MadeFor}
use Rattle.yardstick.specs.Calls.MadeFor.{NoCall, OneMore}
use Rattle.yardstick.proofs.calls.repeat.Goals as goal

pub loop-init : goal.loop-init
loop-init g c = record { made = NoCall; space = c.requires.space; words = c.requires.words }

pub loop-preserved : goal.loop-preserved
loop-preserved g c = record {
  made = subst (λ (n : ℕ). MadeFor g.K.Core.gives g.K.Core.counts c.args.hands.now c.args.text.now (c.loop.counter + 1) n) (sym c.saturating_add-steps.ensures)
      (OneMore c.loop.counter c.loop.steps c.in_ok-made.made c.loop.invariant.made c.in_ok-made.ensures.finishes);
  space = c.call.ensures.space;
  words = c.call.ensures.words;
}
