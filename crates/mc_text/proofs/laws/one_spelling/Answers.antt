use Rattle.mc_text.proofs.FrontLaws.{one_spelling}
use Rattle.mc_text.proofs.laws.one_spelling.Goals as goal

pub returns : goal.returns
returns c = one_spelling
