use Rattle.std.proofs.Common.{◌≡◌, ◌++◌, ◌≤◌, length, take}
use Rattle.mc_render.proofs.put.put.Given as goal

abbrev pub invariant-loop-b : goal.invariant-loop-b
invariant-loop-b l = record {
  items : l.into.items ≡ l.fn.into.items ++ take l.b-index l.bytes;
  room : l.into.room ≡ l.fn.into.room;
  within : length l.fn.into.items ≤ l.fn.into.room → length l.into.items ≤ l.fn.into.room;
}
