use Rattle.std.proofs.Common.{◌≡◌, ◌<◌, ◌≤◌, ◌-◌, length, drop}
use Rattle.std.specs.Prelude.{slice_range}
use Rattle.mc_text.specs.Words.{words, words_from}
use Rattle.mc_text.proofs.words.word_end.Given as goal

abbrev pub invariant-loop-at : goal.invariant-loop-at
invariant-loop-at l = record {
  word : words_from (slice_range l.line l.from l.at) (drop l.at l.line) ≡ words (drop l.from l.line);
  some : l.from < l.at;
  within : l.at ≤ length l.line;
}

abbrev pub decreases-loop-at : goal.decreases-loop-at
decreases-loop-at l = length l.line - l.at
