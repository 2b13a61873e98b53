use Rattle.std.proofs.Common.{◌≡◌, true}
use Rattle.sei_pass.specs.Spaces.{pass_space}
use Rattle.sei_traverse.specs.declared.turned.State.TheVariants.{Went}
use Rattle.yardstick.specs.Calls.{Came}
use Rattle.yardstick.proofs.calls.call.Given as goal

abbrev pub invariant-loop : goal.invariant-loop
invariant-loop g l = record {
  came : Came g.K.Core.gives g.K.Core.counts l.hands l.text l.traversal l.core Went;
  running : l.traversal.running ≡ true;
  space : l.traversal.space ≡ pass_space l.hands;
  words : l.words.geometry ≡ l.hands;
}
