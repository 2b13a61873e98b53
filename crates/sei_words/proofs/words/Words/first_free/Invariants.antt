use Rattle.std.proofs.Common.{ℕ, ◌<◌}
use Rattle.sei_words.specs.Free.{IsTaken}
use Rattle.sei_words.proofs.words.Words.first_free.Given as goal

abbrev pub invariant-loop-slot : goal.invariant-loop-slot
invariant-loop-slot l = (j : ℕ) → j < l.slot → IsTaken l.self.geometry l.self.words l.moment j
