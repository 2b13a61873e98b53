use Rattle.mc_text.proofs.FrontLaws.{front_begins, reads_more}
use Rattle.mc_text.proofs.reader.read_front.Goals as goal

pub returns-in-None : goal.returns-in-None
returns-in-None c = record { some = tt; none = reads_more c.args.limits.now c.args.bytes.now c.in-None.ensures.request }

pub returns-in-Some : goal.returns-in-Some
returns-in-Some c =
    record {
      some = front_begins c.args.limits.now c.args.bytes.now c.in-Some.request c.in-Some.ensures.request c.in-Some.ensures.places c.in-Some.ensures.inside c.in-Some.ensures.buckets;
      none = tt;
    }
