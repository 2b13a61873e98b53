use Rattle.std.proofs.Common.{sym, arith}
use Rattle.mc_text.specs.Reading.{shared_call}
use Rattle.mc_text.proofs.CallLaws.{bucket_call_at, no_bucket_call}
use Rattle.mc_text.proofs.request.Request.bucket_call.Goals as goal

pub returns-then-nth-self-clause-value : goal.returns-then-nth-self-clause-value
returns-then-nth-self-clause-value c bytes =
    let r = c.args.self.now in
    sym (no_bucket_call (shared_call bytes r) r.buckets c.args.nth (omega (arith, c.if-nth-self.true)))

pub returns-clause-value : goal.returns-clause-value
returns-clause-value c bytes =
    let r = c.args.self.now in
    rw c.no_span.ensures (sym (bucket_call_at (shared_call bytes r) r.buckets c.args.nth (omega (arith, c.if-nth-self.false))))
