use Rattle.sei_compare.specs.Comparing.{same_reply}
use Rattle.sei_traverse.specs.Phases.{outputs_to}
use Rattle.sei_traverse.proofs.Branches.{bound_yes}
use Rattle.sei_traverse.proofs.workspace.Workspace.compare_outputs.Goals as goal

pub returns-then-codes-clause-act : goal.returns-then-codes-clause-act
returns-then-codes-clause-act g c = λ words.
    let w = c.args.self.now in
    bound_yes g.K.Core.gives (same_reply w.first.code w.first.bytes.items w.second.code w.second.bytes.items) c.codes.result (outputs_to w words) _ _ _ _ (rw c.code-one.ensures.value at (rw c.code-two.ensures.value at (rw c.bytes.ensures at (rw c.bytes-2.ensures at c.codes.ensures.compared)))) c.if-codes.true (c.close.ensures.act words)
