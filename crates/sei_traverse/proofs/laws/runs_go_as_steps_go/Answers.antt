use Rattle.std.proofs.Common.{refl, None}
use Rattle.sei_traverse.specs.Wanting.{LendsNext, LendsAny}
use Rattle.sei_traverse.proofs.PublicRuns.{run_within, run_on_way, run_isolated, run_stepped, run_refuses}
use Rattle.sei_traverse.proofs.laws.runs_go_as_steps_go.Goals as goal

pub returns-clause-within : goal.returns-clause-within
returns-clause-within g c = λ told behavior input n x z t r is begin within. run_within g.K.Core.gives g.K.Core.counts told behavior input g.met.K.Core.lawful begin n x z t r is within

pub returns-clause-on_way : goal.returns-clause-on_way
returns-clause-on_way g c = λ told behavior input n x z t r e begin call_context tells f h lends way.
    run_on_way g.K.Core.gives g.K.Core.counts told behavior input g.met.K.Core.lawful e begin f h tells n x z t call_context r lends way

pub returns-clause-isolated : goal.returns-clause-isolated
returns-clause-isolated g c = λ told behavior input n x z t r e begin trusted tells f h lends facts few.
    run_isolated g.K.Core.gives g.K.Core.counts told behavior input g.met.K.Core.lawful e begin f h tells n x z t trusted r lends facts few

pub returns-clause-wanted : goal.returns-clause-wanted
returns-clause-wanted g c = λ told behavior input n x z t r e begin trusted tells f h lent_bucket facts few wants left steps.
    run_stepped g.K.Core.gives g.K.Core.counts told behavior input g.met.K.Core.lawful e begin f h tells LendsAny (λ l. tt) _ None wants left n x z t trusted r lent_bucket facts few steps tt

pub returns-clause-lending : goal.returns-clause-lending
returns-clause-lending g c = λ told behavior input n x z t r e begin trusted tells f h lent_bucket facts few from lent wants left steps lends.
    run_stepped g.K.Core.gives g.K.Core.counts told behavior input g.met.K.Core.lawful e begin f h tells LendsNext (λ l. refl) from lent wants left n x z t trusted r lent_bucket facts few steps lends

pub returns-clause-refused : goal.returns-clause-refused
returns-clause-refused g c = λ told behavior input n x z t r. run_refuses g.K.Core.gives g.K.Core.counts told behavior input g.met.K.Core.lawful n x z t r
