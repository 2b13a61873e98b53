use Rattle.std.proofs.Common.{arith, ◌∙◌}
use Rattle.sei_traverse.proofs.Branches.{verify_copies, verify_tests}
use Rattle.sei_traverse.proofs.workspace.Workspace.verify_copy.Goals as goal

pub returns-then-self-len-clause-act : goal.returns-then-self-len-clause-act
returns-then-self-len-clause-act g c = λ words. verify_copies _ _ _ _ _ _ _ (c.if-self-len.true ∙ c.len.ensures) (c.make_copy.ensures.act words)

pub returns-else-self-len-clause-act : goal.returns-else-self-len-clause-act
returns-else-self-len-clause-act g c = λ words. verify_tests _ _ _ _ _ _ _ (λ e. omega (arith, e, c.if-self-len.false, c.len.ensures)) (c.test_copy.ensures.act words)
