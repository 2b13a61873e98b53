use Rattle.std.proofs.Common.{sym, take, arith}
use Rattle.std.proofs.Math.ListN.{length-take}
use Rattle.mc_text.specs.Words.{words}
use Rattle.mc_text.specs.Reading.{keys_at, shared_call}
use Rattle.mc_text.proofs.CallLaws.{words_few, no_key_call, length-some_words}
use Rattle.mc_text.proofs.request.Request.key_call.Goals as goal

pub overflow_add-self : goal.overflow_add-self
overflow_add-self c = omega (arith, words_few (take c.args.self.now.line c.args.bytes.now), length-take c.args.self.now.line c.args.bytes.now, c.requires.of.template.keys)

pub returns-then-nth-self-clause-value : goal.returns-then-nth-self-clause-value
returns-then-nth-self-clause-value c =
    let r = c.args.self.now in
    let bytes = c.args.bytes.now in
    sym (no_key_call r.buckets (shared_call bytes r) (keys_at bytes r) c.args.nth (omega (arith, length-some_words (words (take r.line bytes)) r.template.first r.template.count c.requires.of.template.keys)))
