use Rattle.mc_render.proofs.RenderedLaws.{rendered_nil}
use Rattle.mc_render.proofs.OutputLaws.{rendered_text, rendered_number, rendered_shown}
use Rattle.mc_render.proofs.laws.words_render_in_order.Goals as goal

pub returns : goal.returns
returns c = record { none = rendered_nil; text = rendered_text; number = rendered_number; value = rendered_shown }
