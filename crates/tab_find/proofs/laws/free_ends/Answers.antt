use Rattle.std.proofs.Common.{refl}
use Rattle.tab_find.proofs.PublicFinding as found
use Rattle.tab_find.proofs.laws.free_ends.Goals as goal

pub returns : goal.returns
returns c = λ g e m s bound h steps few. found.free_ends g e s.words m h.valid h.fit s bound h.time refl h.constants steps few
