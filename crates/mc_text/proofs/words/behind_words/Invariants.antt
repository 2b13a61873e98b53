use Rattle.std.proofs.Common.{◌≡◌, ◌≤◌, ◌-◌, length, drop}
use Rattle.mc_text.specs.Words.{words}
use Rattle.mc_text.proofs.words.behind_words.Given as goal

abbrev pub invariant-loop-seen : goal.invariant-loop-seen
invariant-loop-seen l = record {
  words : words (drop l.at l.line) ≡ drop l.seen (words l.line);
  within : l.at ≤ length l.line;
  few : l.seen ≤ l.n;
}

abbrev pub decreases-loop-seen : goal.decreases-loop-seen
decreases-loop-seen l = l.n - l.seen
