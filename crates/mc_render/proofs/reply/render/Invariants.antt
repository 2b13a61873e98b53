use Rattle.std.proofs.Common.{◌≡◌, ◌++◌, ◌≤◌, length}
use Rattle.std.specs.Option.{option_map}
use Rattle.mc_render.specs.Rendering.{rendered}
use Rattle.mc_render.proofs.reply.render.Given as goal

-- the bytes so far, followed by those of the words that are left, are all
abbrev pub invariant-loop-rest : goal.invariant-loop-rest
invariant-loop-rest l = record {
  all : rendered l.value_bytes l.words ≡ option_map (λ bs. l.into.items ++ bs) (rendered l.value_bytes l.rest);
  room : l.into.room ≡ l.fn.into.room;
  within : length l.into.items ≤ l.fn.into.room;
}

abbrev pub decreases-loop-rest : goal.decreases-loop-rest
decreases-loop-rest l = length l.rest
