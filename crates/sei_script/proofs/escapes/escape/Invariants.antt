use Rattle.std.proofs.Common.{◌≡◌, ◌++◌, drop, take, vec_len}
use Rattle.sei_script.specs.Escapes.{escaped}
use Rattle.sei_script.proofs.escapes.escape.Given as goal

-- the bytes so far, and what is left, are the whole; and what stood there before stands at the front
abbrev pub invariant-loop-b : goal.invariant-loop-b
invariant-loop-b l = record {
  whole : l.into.items ++ escaped (drop l.b-index l.bytes) ≡ l.fn.into.items ++ escaped l.bytes;
  front : take (vec_len l.fn.into) l.into.items ≡ l.fn.into.items;
}
