use Rattle.std.proofs.Common.{◌≡◌, ◌-◌, ◌^◌, ◌<◌, min, drop}
use Rattle.sei_script.specs.Numbers.{digits_after}
use Rattle.sei_script.proofs.numbers.capped_value.Given as goal

abbrev pub invariant-loop-b : goal.invariant-loop-b
invariant-loop-b l = record {
  whole : min (digits_after l.value (drop l.b-index l.word)) (2 ^ 128 - 1) ≡ min (digits_after 0 l.word) (2 ^ 128 - 1);
  fits : l.value < 2 ^ 128;
}
