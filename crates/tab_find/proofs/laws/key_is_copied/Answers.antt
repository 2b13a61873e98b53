use Rattle.std.proofs.Common.{refl}
use Rattle.tab_find.specs.Registers.{r_limit}
use Rattle.tab_find.proofs.PublicStoring.{copy_run_ends}
use Rattle.tab_find.proofs.laws.key_is_copied.Goals as goal

pub returns : goal.returns
returns c = λ e index vs ws a s bound most can stores logs steps. copy_run_ends e r_limit index vs ws a bound most s can logs refl stores steps
