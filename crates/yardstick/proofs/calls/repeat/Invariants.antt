use Rattle.std.proofs.Common.{◌≡◌}
use Rattle.sei_pass.specs.Spaces.{pass_space}
use Rattle.yardstick.specs.Calls.{MadeFor}
use Rattle.yardstick.proofs.calls.repeat.Given as goal

abbrev pub invariant-loop : goal.invariant-loop
invariant-loop g l = record {
  made : MadeFor g.K.Core.gives g.K.Core.counts l.hands l.text l.counter l.steps;
  space : l.traversal.space ≡ pass_space l.hands;
  words : l.words.geometry ≡ l.hands;
}
