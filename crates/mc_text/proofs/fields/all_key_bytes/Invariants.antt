use Rattle.std.proofs.Common.{◌≡◌, drop}
use Rattle.std.specs.List.{list_all}
use Rattle.mc_text.specs.Fields.{is_key_byte}
use Rattle.mc_text.proofs.fields.all_key_bytes.Given as goal

abbrev pub invariant-loop-b : goal.invariant-loop-b
invariant-loop-b l = list_all is_key_byte (drop l.b-index l.word) ≡ list_all is_key_byte l.word
