use Rattle.std.proofs.Common.{arith}
use Rattle.tab_find.proofs.PublicFinding as found
use Rattle.tab_find.proofs.laws.moment_stands.Goals as goal

pub returns : goal.returns
returns c = λ g e b s bound most h stores logs steps. found.moment_stands g e s b bound most h.stands h.stage h.none h.unstored (omega (arith, stores)) logs steps
