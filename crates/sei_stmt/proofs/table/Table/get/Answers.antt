use Rattle.sei_stmt.proofs.TableLaws.{table_registers, table_jump, table_next, statement_there, no_statement_there}
use Rattle.sei_stmt.proofs.table.Table.get.Goals as goal

pub returns-then-i-len-clause-fine : goal.returns-then-i-len-clause-fine
returns-then-i-len-clause-fine c = table_registers _ c.args.i _ c.len.ensures.table (statement_there _ _ _ _ _ c.self.view_is c.len.ensures.value c.if-i-len.true c.index.ensures)

pub returns-then-i-len-clause-inside : goal.returns-then-i-len-clause-inside
returns-then-i-len-clause-inside c = table_jump _ c.args.i _ c.len.ensures.table (statement_there _ _ _ _ _ c.self.view_is c.len.ensures.value c.if-i-len.true c.index.ensures)

pub returns-then-i-len-clause-next : goal.returns-then-i-len-clause-next
returns-then-i-len-clause-next c = table_next _ c.args.i _ c.len.ensures.table (statement_there _ _ _ _ _ c.self.view_is c.len.ensures.value c.if-i-len.true c.index.ensures)

pub returns-else-i-len-clause-found : goal.returns-else-i-len-clause-found
returns-else-i-len-clause-found c = no_statement_there _ _ _ c.len.ensures.value c.if-i-len.false
