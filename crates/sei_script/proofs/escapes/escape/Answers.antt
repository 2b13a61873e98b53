use Rattle.std.proofs.Common.{arith}
use Rattle.sei_script.proofs.EscapeLaws.{unescaped-escaped}
use Rattle.sei_script.proofs.escapes.escape.Goals as goal

pub returns-in-Err-clause-readable : goal.returns-in-Err-clause-readable
returns-in-Err-clause-readable c = unescaped-escaped c.args.bytes.now (λ k. omega (arith, c.type_inv.bytes k))

pub returns-clause-readable : goal.returns-clause-readable
returns-clause-readable c = unescaped-escaped c.args.bytes.now (λ k. omega (arith, c.type_inv.bytes k))
