use Rattle.sei_stmt.specs.Table.{FitBefore, registers_at}
use Rattle.sei_stmt.proofs.table.first_bad_register.Given as goal

abbrev pub invariant-loop-i : goal.invariant-loop-i
invariant-loop-i l = FitBefore registers_at l.stmts l.i
