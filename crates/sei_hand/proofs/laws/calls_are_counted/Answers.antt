use Rattle.sei_hand.proofs.CountedLaws.{counted, found, buckets, parses}
use Rattle.sei_hand.proofs.laws.calls_are_counted.Goals as goal

pub returns : goal.returns
returns c = record {
  counted = counted;
  found = found;
  buckets = λ g bytes nth p v e. buckets g bytes nth p v.some_buckets e;
  parses = parses;
}
