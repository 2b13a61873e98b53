use Rattle.std.proofs.Common.{◌≡◌, length}
use Rattle.std.specs.Option.{is_some}
use Rattle.mc_render.specs.Rendering.{rendered}
use Rattle.mc_render.proofs.reply.are_outputs.Given as goal

abbrev pub invariant-loop-rest : goal.invariant-loop-rest
invariant-loop-rest l = is_some (rendered l.value_bytes l.words) ≡ is_some (rendered l.value_bytes l.rest)

abbrev pub decreases-loop-rest : goal.decreases-loop-rest
decreases-loop-rest l = length l.rest
