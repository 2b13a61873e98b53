use Rattle.std.proofs.Common.{refl, arith}
use Rattle.tab_find.proofs.PublicStoring as found
use Rattle.tab_find.proofs.laws.items_are_cleared.Goals as goal

pub returns : goal.returns
returns c = λ g e b key s bound most h stores logs steps. found.clear_ends g e s.words b key h.valid h.stands s bound most refl h.constants h.low stores logs (omega (arith, steps))
