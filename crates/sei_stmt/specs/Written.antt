-- The program that a program of the code stands for.
use Rattle.sei_stmt.specs.Programs.{Prog, Block, Seq, IfEq, IfLt, RepeatLt}
use Rattle.sei_stmt.specs.declared.program.Program.{Program}
use Rattle.sei_stmt.specs.declared.program.Program.TheVariants as parts

-- the same structure, with the statements and the parts that its boxes hold
abbrev pub prog_of : Program → Prog
prog_of (parts.Block stmts) = Block stmts
prog_of (parts.Seq' _ p _ q) = Seq (prog_of p) (prog_of q)
prog_of (parts.IfEq' l r _ p _ q) = IfEq l r (prog_of p) (prog_of q)
prog_of (parts.IfLt' l r _ p _ q) = IfLt l r (prog_of p) (prog_of q)
prog_of (parts.RepeatLt' l r _ p) = RepeatLt l r (prog_of p)
