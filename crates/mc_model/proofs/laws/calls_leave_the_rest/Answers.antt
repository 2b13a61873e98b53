use Rattle.mc_model.proofs.FoundLaws.{key_stays, reading_stays, other_bucket_stays, moment_is}
use Rattle.mc_model.proofs.laws.calls_leave_the_rest.Goals as goal

pub returns : goal.returns
returns c = record { key = key_stays; reads = reading_stays; buckets = other_bucket_stays; moment = moment_is }
