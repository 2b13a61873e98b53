use Rattle.yardstick.proofs.Laws.{ran_words}
use Rattle.yardstick.proofs.calls.make.Goals as goal

pub returns-in-Step-true-clause-words : goal.returns-in-Step-true-clause-words
returns-in-Step-true-clause-words g c = ran_words g.K.Core.gives g.K.Core.counts _ c.args.hands.now c.args.text.now _ _ _ _ _ _ _ c.step_on.ensures

pub returns-in-Run-true-clause-words : goal.returns-in-Run-true-clause-words
returns-in-Run-true-clause-words g c = ran_words g.K.Core.gives g.K.Core.counts _ c.args.hands.now c.args.text.now _ _ _ _ _ _ _ c.run_on.ensures
