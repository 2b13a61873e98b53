use Rattle.std.proofs.Common.{◌∙◌, refl, ap}
use Rattle.std.specs.Io.KnownBytes.{append_known}
use Rattle.sei_main.proofs.replay.refuse.Goals as goal

pub returns-in-Ok-write_text-clause-answer : goal.returns-in-Ok-write_text-clause-answer
returns-in-Ok-write_text-clause-answer g c = (refl, c.in-Ok-write_text.ensures.all ∙ ap (append_known (g.K.Sink.written c.args.sink.now)) (c.as_slice.ensures.value ∙ c.in-Ok.ensures))
