use Rattle.std.proofs.Common.{refl, arith}
use Rattle.sei_traverse.specs.Running.{on, begun_at, left_at}
use Rattle.sei_traverse.proofs.Making.{makes_one}
use Rattle.sei_traverse.proofs.workspace.Workspace.run_one.Goals as goal

pub returns-clause-run : goal.returns-clause-run
returns-clause-run g c = λ steps small.
    let x = on (begun_at c.args.self.now c.args.space.now steps) (g.L.Lent.lent_bucket c.args.lent.now) c.args.core.now in
    record {
      last = x;
      chain = refl;
      makes = makes_one g.K.Core.gives g.K.Core.counts g.met.K.Core.lawful (g.C.Clock.told c.args.clock.now) (g.H.Handler.behavior c.args.hands.now) c.args.input.now
          x (on (left_at c.step_alone-state.new.self c.args.space.now steps (record { before = 0; turned = record { want = c.step_alone-state.new.self.want; state = c.step_alone-state.result } })) (g.L.Lent.lent_bucket c.step_alone-state.new.lent) c.step_alone-state.new.core)
          (record { want = c.step_alone-state.new.self.want; state = c.step_alone-state.result }) c.step_alone-state.ensures.turned refl c.step_alone-state.ensures.lent refl (omega arith) refl
          (record { workspace = c.requires.workspace; space = c.requires.space }) c.requires.room;
    }
