use Rattle.std.proofs.Common.{◌≡◌, ◌++◌, ◌≤◌, length, take, drop}
use Rattle.std.specs.List.{flat_map}
use Rattle.std.specs.Int.{w64, to_be_bytes}
use Rattle.mc_render.proofs.packed.put_packed.Given as goal

abbrev pub invariant-loop-word : goal.invariant-loop-word
invariant-loop-word l = record {
  items : l.into.items ++ take l.left (flat_map (to_be_bytes w64) (drop l.word-index l.word-items)) ≡ l.fn.into.items ++ l.fn.packed;
  room : l.into.room ≡ l.fn.into.room;
  within : length l.fn.into.items ≤ l.fn.into.room → length l.into.items ≤ l.fn.into.room;
}
