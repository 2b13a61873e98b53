use Rattle.std.proofs.Common.{ap}
use Rattle.mc_text.specs.Meaning.{calls_of}
use Rattle.mc_text.specs.Reading.{meaning_at}
use Rattle.mc_text.proofs.FrontLaws.{spells_only, spells_whole, spells_not, spells_nothing}
use Rattle.mc_text.proofs.reader.parse.Goals as goal

pub returns-in_err-request-clause-none : goal.returns-in_err-request-clause-none
returns-in_err-request-clause-none c = rw c.from_residual.ensures (λ m s. spells_nothing c.args.limits.now c.args.bytes.now m c.in_err-request.ensures.request s)

pub returns-then-request-bytes-clause-some : goal.returns-then-request-bytes-clause-some
returns-then-request-bytes-clause-some c =
    let l = c.args.limits.now in
    let bytes = c.args.bytes.now in
    let r = c.in_ok-request.request in
    let found = c.in_ok-request.ensures.request in
    record {
      spelled = spells_whole l bytes r.length (meaning_at bytes r) found c.if-request-bytes.true;
      only = λ m s. spells_only l bytes r.length (meaning_at bytes r) m found s;
      buckets = c.in_ok-request.ensures.buckets;
      calls = ap (λ n. calls_of n (meaning_at bytes r)) c.in_ok-request.ensures.buckets;
      of = c.in_ok-request.ensures.places;
    }

pub returns-else-request-bytes-clause-none : goal.returns-else-request-bytes-clause-none
returns-else-request-bytes-clause-none c m s = spells_not c.args.limits.now c.args.bytes.now c.in_ok-request.request.length (meaning_at c.args.bytes.now c.in_ok-request.request) m c.in_ok-request.ensures.request c.if-request-bytes.false s
