use Rattle.sei_hand.proofs.RequestLaws.{request_spelled, request_spells, request_none}
use Rattle.sei_hand.proofs.laws.requests_are_spelled.Goals as goal

pub returns : goal.returns
returns c = record { found = request_spells; exact = request_spelled; none = request_none }
