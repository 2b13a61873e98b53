use Rattle.std.proofs.Common.{refl}
use Rattle.sei_pass.specs.declared.given.Which.TheVariants.{Making}
use Rattle.sei_traverse.proofs.Lift.{run_pass}
use Rattle.sei_traverse.proofs.workspace.Workspace.run_first.Goals as goal

pub returns-clause-run : goal.returns-clause-run
returns-clause-run g c = λ steps small.
    run_pass g.K.Core.gives g.K.Core.counts g.met.K.Core.lawful (g.C.Clock.told c.args.clock.now)
    (g.H.Handler.behavior c.args.hands.now) c.args.input.now
    c.args.space.now (g.L.Lent.lent_bucket c.args.lent.now) Making c.args.self.now steps c.requires.room
    c.args.core.now c.run_on-ran.new.core c.rest-state.new.core c.run_on-ran.result.before c.run_on-ran.result.index c.run_on-ran.result.exit c.run_on-ran.new.self c.run_on-ran.new.log (g.L.Lent.lent_bucket c.run_on-ran.new.lent)
    c.rest-state.new.self (g.L.Lent.lent_bucket c.rest-state.new.lent) (record { want = c.rest-state.new.self.want; state = c.rest-state.result })
    c.requires.first small (record { workspace = c.requires.workspace; space = c.requires.space }) c.run_on-ran.ensures.space c.requires.space c.run_on-ran.ensures.lent c.rest-state.ensures.lent refl
    c.run_on-ran.ensures.ran c.rest-state.ensures.rest
