use Rattle.std.proofs.Common.{◌≡◌, drop}
use Rattle.sei_script.specs.Escapes.{unescaped, unescaped_from, joined, IsPlace}
use Rattle.sei_script.proofs.escapes.unescape.Given as goal

-- the bytes so far, and what is left from this place, are the whole
abbrev pub invariant-loop-b : goal.invariant-loop-b
invariant-loop-b l = record {
  whole : joined l.bytes.items (unescaped_from l.place (drop l.b-index l.text)) ≡ unescaped l.text;
  place : IsPlace l.place;
}
