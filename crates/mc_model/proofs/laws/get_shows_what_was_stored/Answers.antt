use Rattle.mc_model.proofs.FoundLaws.{stored_item, later_get_shows}
use Rattle.mc_model.proofs.laws.get_shows_what_was_stored.Goals as goal

pub returns : goal.returns
returns c = record { item = stored_item; shown = later_get_shows }
