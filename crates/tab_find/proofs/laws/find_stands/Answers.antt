use Rattle.std.proofs.Common.{refl}
use Rattle.tab_find.proofs.PublicFinding as found
use Rattle.tab_find.proofs.laws.find_stands.Goals as goal

pub returns : goal.returns
returns c = λ g e b key s bound h steps. found.find_stands g e s.words b key h.valid h.stands h.bounded h.has_key h.some s bound h.parsed refl h.constants steps
