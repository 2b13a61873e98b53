use Rattle.std.proofs.Common.{◌≡◌, ◌-◌, ◌≤◌}
use Rattle.std.specs.Prelude.{replicate}
use Rattle.sei_code.specs.Kept.{extended}
use Rattle.sei_hand.proofs.fill.push_zeros.Given as goal

-- the zeros that are not left are there
abbrev pub invariant-loop-left : goal.invariant-loop-left
invariant-loop-left l = record {
  filled : l.into ≡ extended l.fn.into (replicate (l.fn.count - l.left) 0);
  within : l.left ≤ l.fn.count;
}

abbrev pub decreases-loop-left : goal.decreases-loop-left
decreases-loop-left l = l.left
