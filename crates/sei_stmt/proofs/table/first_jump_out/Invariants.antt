use Rattle.std.proofs.Common.{length}
use Rattle.sei_stmt.specs.Table.{FitBefore, jump_fits}
use Rattle.sei_stmt.proofs.table.first_jump_out.Given as goal

abbrev pub invariant-loop-i : goal.invariant-loop-i
invariant-loop-i l = FitBefore (jump_fits (length l.stmts)) l.stmts l.i
