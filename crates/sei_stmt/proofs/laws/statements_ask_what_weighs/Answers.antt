use Rattle.sei_stmt.proofs.WeightLaws.{weighs_all}
use Rattle.sei_stmt.proofs.laws.statements_ask_what_weighs.Goals as goal

pub returns : goal.returns
returns c = weighs_all
