use Rattle.std.proofs.Common.{◌≡◌, ◌≤◌, drop}
use Rattle.mc_text.specs.Words.{words}
use Rattle.mc_text.specs.Fields.{keys_in}
use Rattle.mc_text.proofs.KeyLaws.{keys_from}
use Rattle.mc_text.proofs.fields.keys_at.Given as goal

abbrev pub invariant-loop-b : goal.invariant-loop-b
invariant-loop-b l = record {
  left : keys_from l.seen l.long (drop l.b-index l.rest) ≡ keys_in (words (drop l.from l.line));
  few : l.seen ≤ l.b-index;
  long : l.long ≤ 250;
}
