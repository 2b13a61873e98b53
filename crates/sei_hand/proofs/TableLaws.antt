-- The statements of the one program are a table, so they name registers alone.
use Rattle.std.proofs.Common.{◌≡◌, ℕ, List, [], ◌∷◌, ◌++◌, Some, refl, sym, ap, ◌∙◌, subst}
use Rattle.std.specs.Prelude.{slice_get}
use Rattle.mc_model.specs.declared.geometry.Geometry.{Geometry}
use Rattle.sei_stmt.specs.declared.stmt.Stmt.{Stmt}
use Rattle.sei_stmt.specs.declared.stmt.Stmt.TheVariants.{Halt}
use Rattle.sei_stmt.specs.Programs.{Prog, flatten}
use Rattle.sei_stmt.specs.Table.{IsTable, HasRegisters}
use Rattle.sei_stmt.proofs.PublicPrograms.{program_is_table, table_registers}
use Rattle.sei_hand.specs.Commands.{hands_program, hands_table}

pub hands_is_table : (g : Geometry) → IsTable (hands_table g)
unfolding hands_table
hands_is_table g = program_is_table (hands_program g) refl

-- the statements of the program with a Halt after them are the table
pub made_is : (g : Geometry) (all made : List Stmt) (p : Prog) → all ≡ made ++ Halt ∷ [] → made ≡ flatten p → p ≡ hands_program g → all ≡ hands_table g
unfolding hands_table
made_is g all made p ended flat is = ended ∙ ap (λ l. l ++ Halt ∷ []) (flat ∙ ap flatten is)

pub made_is_table : (g : Geometry) (stmts : List Stmt) → stmts ≡ hands_table g → IsTable stmts
made_is_table g stmts is = subst IsTable (sym is) (hands_is_table g)

pub has_registers : (g : Geometry) (i : ℕ) (s : Stmt) → slice_get (hands_table g) i ≡ Some s → HasRegisters s
has_registers g i s is = table_registers (hands_table g) i s (hands_is_table g) is
