use Rattle.std.proofs.Common.{arith}
use Rattle.sei_words.proofs.PublicLayout.{field_within}
use Rattle.sei_words.proofs.words.field.Goals as goal

pub bounds-words-begin : goal.bounds-words-begin
bounds-words-begin c = omega (arith, field_within c.args.g.now c.args.slot c.args.offset c.requires.slot c.requires.offset, c.slot_at-begin.ensures.value, c.requires.long)
