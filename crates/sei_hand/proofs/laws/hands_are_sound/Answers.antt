use Rattle.sei_hand.specs.Requests.{limits_of, call_in, call_or_blank}
use Rattle.sei_hand.proofs.HandsLaws.{parsed_is_asked}
use Rattle.sei_hand.proofs.Serving.{hands_sound}
use Rattle.sei_hand.proofs.laws.hands_are_sound.Goals as goal

pub returns : goal.returns
returns c = λ g valid. hands_sound g valid (λ input nth. call_or_blank (call_in (limits_of g) input nth)) (λ input nth p bytes is. parsed_is_asked g valid input nth p bytes is)
