use Rattle.mc_model.proofs.WithinLaws.{empty_within, answer_within}
use Rattle.mc_model.proofs.laws.buckets_stay_within_their_room.Goals as goal

pub returns-clause-empty : goal.returns-clause-empty
returns-clause-empty c = empty_within

pub returns-clause-answer : goal.returns-clause-answer
returns-clause-answer c = answer_within
