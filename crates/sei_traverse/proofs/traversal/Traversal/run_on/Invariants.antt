use Rattle.std.proofs.Common.{◌-◌, ◌^◌, ◌<◌}
use Rattle.sei_traverse.specs.Running.{on, RunsOn}
use Rattle.sei_traverse.proofs.traversal.Traversal.run_on.Given as goal

-- what was run so far is a run
abbrev pub invariant-loop-many : goal.invariant-loop-many
invariant-loop-many g l = record {
  run : RunsOn g.K.Core.gives g.K.Core.counts (g.C.Clock.told l.clock) (g.H.Handler.behavior l.hands) l.input l.many.before
      (on l.fn.self (g.L.Lent.lent_bucket l.fn.lent) l.fn.core) (on l.self (g.L.Lent.lent_bucket l.lent) l.core) l.many.turned;
  few : l.many.before < 2 ^ 33;
}

abbrev pub decreases-loop-many : goal.decreases-loop-many
decreases-loop-many g l = 2 ^ 32 - l.many.before
