use Rattle.std.proofs.Common.{arith}
use Rattle.std.proofs.Math.ListN.{length-take}
use Rattle.mc_text.specs.Reading.{shared_call}
use Rattle.mc_text.proofs.CallLaws.{key_call_is}
use Rattle.mc_text.proofs.request.Request.call_at.Goals as goal

pub returns-clause-value : goal.returns-clause-value
returns-clause-value c =
    let r = c.args.self.now in
    let bytes = c.args.bytes.now in
    key_call_is r.buckets (shared_call bytes r) bytes r.line c.args.key.from c.args.key.to r.template.first r.template.count c.args.nth c.fnv64-hash.result
    c.requires.of.line c.requires.order (omega (arith, length-take r.line bytes)) c.requires.nth c.requires.of.template.keys c.requires.key c.fnv64-hash.ensures
