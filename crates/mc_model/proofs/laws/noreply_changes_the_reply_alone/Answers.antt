use Rattle.mc_model.proofs.FoundLaws.{noreply_is_quiet}
use Rattle.mc_model.proofs.laws.noreply_changes_the_reply_alone.Goals as goal

pub returns : goal.returns
returns c = noreply_is_quiet
