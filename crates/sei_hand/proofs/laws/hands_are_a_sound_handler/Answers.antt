use Rattle.sei_hand.proofs.SoundLaws.{sound_hands}
use Rattle.sei_hand.proofs.laws.hands_are_a_sound_handler.Goals as goal

pub returns : goal.returns
returns c = sound_hands
