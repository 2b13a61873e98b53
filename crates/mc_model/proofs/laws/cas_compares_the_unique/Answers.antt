use Rattle.mc_model.proofs.FoundLaws.{gets_reply, cas_stores, cas_refuses, cas_of_absent}
use Rattle.mc_model.proofs.laws.cas_compares_the_unique.Goals as goal

pub returns : goal.returns
returns c = record { gets = gets_reply; same = cas_stores; other = cas_refuses; absent = cas_of_absent }
