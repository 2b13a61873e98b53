use Rattle.std.proofs.Common.{◌∙◌}
use Rattle.mc_model.proofs.PlaceLaws.{put_found, put_new}
use Rattle.mc_model.proofs.entries.put.Goals as goal

pub returns-in-Some : goal.returns-in-Some
returns-in-Some c = put_found _ _ _ _ (rw (← c.as_slice.ensures.value, ← c.as_slice-2.ensures.value) c.in-Some.ensures)

pub returns-in-None : goal.returns-in-None
returns-in-None c = c.push_reserved.ensures.items ∙ put_new _ _ _ (rw (← c.as_slice.ensures.value, ← c.as_slice-2.ensures.value) c.in-None.ensures)
