use Rattle.sei_hand.proofs.WordsBounded.{words_bounded}
use Rattle.sei_hand.proofs.laws.words_are_bounded.Goals as goal

pub returns : goal.returns
returns c = words_bounded
