use Rattle.std.proofs.Common.{◌≡◌}
use Rattle.sei_hand.proofs.tests.counts.costs.Given as goal

abbrev pub invariant-loop-text : goal.invariant-loop-text
invariant-loop-text l = l.words.geometry ≡ l.geometry
