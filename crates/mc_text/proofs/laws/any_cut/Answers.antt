use Rattle.mc_text.proofs.StreamLaws.{is_split, one_split, split_more, own_more}
use Rattle.mc_text.proofs.laws.any_cut.Goals as goal

pub returns : goal.returns
returns c = record { split = is_split; one = one_split; pieces = split_more; own = own_more }
