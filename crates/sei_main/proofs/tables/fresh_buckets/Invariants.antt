use Rattle.std.proofs.Common.{◌≡◌, map}
use Rattle.std.specs.List.{range_with_len}
use Rattle.sei_words.specs.Words.{fresh_words}
use Rattle.sei_main.proofs.tables.fresh_buckets.Given as goal

abbrev pub invariant-loop-bucket : goal.invariant-loop-bucket
invariant-loop-bucket l = l.buckets.items ≡ map (fresh_words l.g) (range_with_len 0 l.bucket)
