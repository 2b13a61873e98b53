use Rattle.sei_code.specs.declared.modes.Mode.TheVariants.{Plain as PlainMode}
use Rattle.sei_compare.specs.Comparing.{is_message}
use Rattle.sei_traverse.specs.Phases.{wire_to}
use Rattle.sei_traverse.proofs.Branches.{bound_yes}
use Rattle.sei_traverse.proofs.workspace.Workspace.test_copy.Goals as goal

pub returns-then-wire-clause-act : goal.returns-then-wire-clause-act
returns-then-wire-clause-act g c = λ words.
    let w = c.args.self.now in
    bound_yes g.K.Core.gives (is_message PlainMode w.sealed.answer w.first.code w.first.bytes.items w.wire.items) c.wire.result (wire_to w words) _ _ _ _ (rw c.code-code.ensures.value at (rw c.bytes.ensures at (rw c.bytes-2.ensures at c.wire.ensures.compared))) c.if-wire.true (c.close.ensures.act words)
