use Rattle.std.proofs.Common.{◌∙◌, sym}
use Rattle.mc_render.proofs.RenderedLaws.{same_some, none_left}
use Rattle.mc_render.proofs.reply.are_outputs.Goals as goal

pub loop-rest-preserved : goal.loop-rest-preserved
loop-rest-preserved c = c.loop-rest.invariant ∙ same_some c.args.value_bytes c.loop-rest.rest.now c.in-Some.behind.now c.in-Some.field-0-0 c.in-Some.ensures.value

pub returns : goal.returns
returns c = sym (c.loop-rest.invariant ∙ none_left c.args.value_bytes c.loop-rest.rest.now c.loop-rest-test.ensures)
