use Rattle.std.proofs.Common.{◌∙◌}
use Rattle.mc_model.proofs.PlaceLaws.{without_found, without_new}
use Rattle.mc_model.proofs.entries.take_out.Goals as goal

pub returns-in-Some : goal.returns-in-Some
returns-in-Some c = c.remove.ensures.items ∙ without_found c.args.key.now c.args.entries.now.items c.in-Some.i c.remove.result (rw (← c.as_slice.ensures.value) c.in-Some.ensures)

pub returns-in-None : goal.returns-in-None
returns-in-None c = without_new _ _ (rw (← c.as_slice.ensures.value) c.in-None.ensures)
