use Rattle.std.proofs.Common.{◌≡◌, ◌≤◌, drop}
use Rattle.std.specs.List.{list_all}
use Rattle.mc_model.specs.Numbers.{is_digit, value_after, decimal_value}
use Rattle.mc_model.proofs.number.number_upto.Given as goal

abbrev pub invariant-loop-b : goal.invariant-loop-b
invariant-loop-b l = record {
  value : value_after l.number (drop l.b-index l.bytes) ≡ decimal_value l.bytes;
  digits : list_all is_digit (drop l.b-index l.bytes) ≡ list_all is_digit l.bytes;
  within : l.number ≤ l.max;
}
