use Rattle.sei_pass.specs.Setting.{is_intact}
use Rattle.sei_traverse.specs.Acts.{ends}
use Rattle.sei_traverse.specs.declared.workspace.Ending.TheVariants.{Refuses}
use Rattle.sei_traverse.specs.Phases.{guard_call}
use Rattle.sei_traverse.specs.Given.{given_of}
use Rattle.std.specs.Prelude.{if◌then◌else◌}
use Rattle.sei_traverse.proofs.Branches.{asked_yes}
use Rattle.sei_traverse.proofs.workspace.Workspace.guard.Goals as goal

pub returns-then-test-clause-act : goal.returns-then-test-clause-act
returns-then-test-clause-act g c = λ h lent words.
    let given = given_of (g.H.Handler.behavior c.args.hands.now) c.args.input.now h lent in
    asked_yes g.K.Core.gives (is_intact c.args.self.now.sealed c.args.input.now) c.test.result (λ yes. if yes then guard_call given c.args.self.now words else ends c.args.self.now words Refuses) _ _ _ _
    (rw c.message_code.ensures at c.test.ensures) c.if-test.true (c.guard_call.ensures.act h lent words)
