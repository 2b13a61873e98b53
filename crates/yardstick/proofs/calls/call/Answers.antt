use Rattle.std.proofs.Common.{◌∙◌, ap}
use Rattle.sei_traverse.specs.declared.turned.State.TheVariants.{Went, Finished}
use Rattle.sei_traverse.specs.State.{TraversalState}
use Rattle.yardstick.proofs.Laws.{came_begun, came_on, ran_running, ran_space}
use Rattle.yardstick.proofs.calls.call.Goals as goal

pub loop-init : goal.loop-init
loop-init g c = record {
  came = came_begun g.K.Core.gives g.K.Core.counts c.args.hands.now c.args.text.now _ _ _ _ c.begin.ensures c.requires.space c.sealed.ensures;
  running = ap (λ (t : TraversalState). t.running) c.begin.ensures;
  space = ap (λ (t : TraversalState). t.space) c.begin.ensures ∙ c.requires.space;
  words = c.requires.words;
}

pub loop-preserved : goal.loop-preserved
loop-preserved g c = record {
  came = came_on g.K.Core.gives g.K.Core.counts c.args.hands.now c.args.text.now _ _ _ Went c.loop.invariant.came c.make-turned.ensures.ran c.in-Went.is;
  running = ran_running g.K.Core.gives g.K.Core.counts _ c.args.hands.now c.args.text.now _ _ _ c.make-turned.ensures.ran c.in-Went.is;
  space = ran_space g.K.Core.gives g.K.Core.counts _ c.args.hands.now c.args.text.now _ _ _ c.make-turned.ensures.ran ∙ c.loop.invariant.space;
  words = c.make-turned.ensures.words ∙ c.loop.invariant.words;
}

pub returns-in-Finished-clause-finishes : goal.returns-in-Finished-clause-finishes
returns-in-Finished-clause-finishes g c = record {
  traversal = c.make-turned.new.traversal;
  core = c.make-turned.new.core;
  came = came_on g.K.Core.gives g.K.Core.counts c.args.hands.now c.args.text.now _ _ _ Finished c.loop.invariant.came c.make-turned.ensures.ran c.in-Finished.is;
  counted = c.steps.ensures;
}

pub returns-in-Finished-clause-space : goal.returns-in-Finished-clause-space
returns-in-Finished-clause-space g c = ran_space g.K.Core.gives g.K.Core.counts _ c.args.hands.now c.args.text.now _ _ _ c.make-turned.ensures.ran ∙ c.loop.invariant.space

pub returns-in-Refused-clause-space : goal.returns-in-Refused-clause-space
returns-in-Refused-clause-space g c = ran_space g.K.Core.gives g.K.Core.counts _ c.args.hands.now c.args.text.now _ _ _ c.make-turned.ensures.ran ∙ c.loop.invariant.space
