use Rattle.sei_script.proofs.Numerals.{numeral-decimal}
use Rattle.sei_script.proofs.laws.numbers_are_decimal.Goals as goal

pub returns : goal.returns
returns c = numeral-decimal
