use Rattle.std.proofs.Common.{◌≡◌, ◌≤◌, ◌-◌, length, drop}
use Rattle.mc_text.specs.Words.{words}
use Rattle.mc_text.proofs.words.skip_spaces.Given as goal

abbrev pub invariant-loop-at : goal.invariant-loop-at
invariant-loop-at l = record {
  words : words (drop l.at l.line) ≡ words (drop l.from l.line);
  from : l.from ≤ l.at;
  within : l.at ≤ length l.line;
}

abbrev pub decreases-loop-at : goal.decreases-loop-at
decreases-loop-at l = length l.line - l.at
