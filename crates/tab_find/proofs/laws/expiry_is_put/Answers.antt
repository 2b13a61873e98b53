use Rattle.std.proofs.Common.{refl}
use Rattle.tab_find.proofs.PublicStoring as found
use Rattle.tab_find.proofs.laws.expiry_is_put.Goals as goal

pub returns : goal.returns
returns c = λ g e b key old expiry s bound most h stores logs steps.
    found.put_expiry_ends g e s.words b key old expiry h.found.can.valid h.found.can.stands s bound most h.found.present h.loaded refl h.found.can.constants h.found.can.low stores logs steps
