use Rattle.std.proofs.Common.{rules}
use Rattle.std.proofs.lemmas.Fn.{filter_same}
use Rattle.mc_model.specs.Bucket.{is_live}
use Rattle.mc_model.proofs.entries.purge.Goals as goal

pub returns-clause-items : goal.returns-clause-items
returns-clause-items c = filter_same _ (λ e. is_live c.args.moment e.1) _ (λ x b f' k. search rules) _ _ c.retain.ensures.filtered
