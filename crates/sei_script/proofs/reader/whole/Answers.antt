use Rattle.std.proofs.Common.{sym, ap, ◌∙◌}
use Rattle.sei_script.specs.declared.line.Context.{Context}
use Rattle.sei_script.proofs.Fit.{geometry_known}
use Rattle.sei_script.proofs.reader.whole.Goals as goal

pub new-requires : goal.new-requires
new-requires c = (geometry_known _ _ c.requires.fit (sym (ap (λ (x : Context). x.geometry) c.requires.context) ∙ c.in-Some.is)).first
