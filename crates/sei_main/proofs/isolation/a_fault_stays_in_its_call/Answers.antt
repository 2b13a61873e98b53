use Rattle.sei_main.proofs.TableLaws.{fresh_are_server}
use Rattle.sei_main.proofs.TableRuns.{tables_isolate}
use Rattle.sei_main.proofs.isolation.a_fault_stays_in_its_call.Goals as goal

pub returns-clause-fresh : goal.returns-clause-fresh
returns-clause-fresh c = fresh_are_server

pub returns-clause-isolates : goal.returns-clause-isolates
returns-clause-isolates c = tables_isolate
