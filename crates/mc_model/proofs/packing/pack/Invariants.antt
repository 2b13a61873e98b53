use Rattle.std.proofs.Common.{◌≡◌, ◌+◌, ◌≤◌, length}
use Rattle.std.specs.Prelude.{map}
use Rattle.std.specs.List.{range_with_len}
use Rattle.sei_code.specs.Kept.{extended}
use Rattle.mc_model.specs.Packed.{words_for, word_of}
use Rattle.mc_model.proofs.packing.pack.Given as goal

-- the words so far are there, and there is room for the rest
abbrev pub invariant-loop-j : goal.invariant-loop-j
invariant-loop-j l = record {
  there : l.into ≡ extended l.fn.into (map (word_of l.bytes) (range_with_len 0 l.j));
  count : l.words ≡ words_for (length l.bytes);
  room : length l.fn.into.items + l.words ≤ l.fn.into.room;
}
