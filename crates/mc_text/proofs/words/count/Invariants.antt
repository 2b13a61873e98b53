use Rattle.std.proofs.Common.{◌≡◌, ◌≤◌, ◌+◌, ◌-◌, length, drop}
use Rattle.mc_text.specs.Words.{words}
use Rattle.mc_text.proofs.words.count.Given as goal

abbrev pub invariant-loop-word : goal.invariant-loop-word
invariant-loop-word l = record {
  left : l.seen + length (words (drop l.at l.line)) ≡ length (words l.line);
  within : l.at ≤ length l.line;
  few : l.seen ≤ l.at;
}

abbrev pub decreases-loop-word : goal.decreases-loop-word
decreases-loop-word l = length l.line - l.at
