use Rattle.std.proofs.Common.{refl, arith}
use Rattle.tab_find.proofs.PublicStoring as found
use Rattle.tab_find.proofs.laws.item_is_put.Goals as goal

pub returns : goal.returns
returns c = λ g e b key x index w s bound most h stores logs steps.
    found.put_ends g e s.words b key h.old x index w h.found.can.valid h.found.can.stands s bound most h.found.present h.loaded h.unique h.parsed refl h.found.can.constants h.found.can.low (omega (arith, stores)) logs (omega (arith, steps))
