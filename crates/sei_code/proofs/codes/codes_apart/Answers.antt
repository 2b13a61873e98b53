use Rattle.std.proofs.Common.{◌∙◌, sym, arith}
use Rattle.sei_code.proofs.Apart.{coded_apart, plain_apart}
use Rattle.sei_code.proofs.codes.codes_apart.Goals as goal

pub returns-clause-apart : goal.returns-clause-apart
returns-clause-apart c same =
    coded_apart c.args.n c.args.one.now c.args.two.now c.args.at (λ k. omega (arith, c.type_inv.one k)) (λ k. omega (arith, c.type_inv.two k)) c.requires (sym c.message_code.ensures ∙ same ∙ c.message_code-2.ensures)

pub returns-clause-plain : goal.returns-clause-plain
returns-clause-plain c =
    plain_apart c.args.one.now c.args.two.now c.args.at (λ k. omega (arith, c.type_inv.one k)) (λ k. omega (arith, c.type_inv.two k)) c.requires
