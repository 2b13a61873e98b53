use Rattle.mc_text.proofs.FrontLaws.{begins_or_completed}
use Rattle.mc_text.proofs.laws.no_dead_end.Goals as goal

pub returns : goal.returns
returns c = begins_or_completed
