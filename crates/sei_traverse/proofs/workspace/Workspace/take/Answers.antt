use Rattle.std.proofs.Common.{sym, subst, ℕ}
use Rattle.sei_fault.specs.Tree.{Runs}
use Rattle.sei_traverse.specs.Acts.{acted}
use Rattle.sei_traverse.specs.Phases.{take_tree}
use Rattle.sei_traverse.specs.Given.{given_of}
use Rattle.sei_traverse.proofs.workspace.Workspace.take.Goals as goal

pub returns-then-self-eq0-clause-act : goal.returns-then-self-eq0-clause-act
returns-then-self-eq0-clause-act g c = λ lent words.
    let given = given_of (g.H.Handler.behavior c.args.hands.now) c.args.input.now c.args.space.now lent in
    subst (λ (n : ℕ). Runs g.K.Core.gives (take_tree given n c.args.self.now words) c.args.core.now c.want_bucket.new.core (acted c.want_bucket.new.self words c.want_bucket.result))
    (sym c.if-self-eq0.true) (c.want_bucket.ensures.act c.args.space.now lent words)
