use Rattle.sei_pass.proofs.WholePass.{whole_pass}
use Rattle.sei_pass.proofs.laws.whole_passes_are_honest.Goals as goal

pub returns : goal.returns
returns g c = λ told setting time n start end whole. whole_pass g.K.Core.gives g.K.Core.counts told setting time start whole.first n end whole.last whole.steps whole.unstruck
