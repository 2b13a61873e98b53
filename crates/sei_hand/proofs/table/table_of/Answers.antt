-- What was put together is a table.
use Rattle.std.proofs.Common.{◌≡◌, ◌∙◌, true, false}
use Rattle.sei_stmt.specs.Written.{prog_of}
use Rattle.sei_hand.proofs.TableLaws.{made_is, made_is_table}
use Rattle.sei_hand.proofs.table.table_of.Goals as goal

pub unreachable-requires : goal.unreachable-requires
unreachable-requires c =
    let g = c.args.geometry.now in
    let all = c.push.new.self.items in
    let accepted : false ≡ true =
    c.in_default.ensures.valid.1 (made_is_table g all (made_is g all c.in_ok-stmts.stmts.items (prog_of c.in_ok-hands.field-0) c.in_ok-push.ensures.items c.in_ok-stmts.ensures c.in_ok-hands.ensures)) in
    absurd cc

pub returns : goal.returns
returns c =
    let all = c.push.new.self.items in
    c.in-Ok.ensures.same ∙ made_is c.args.geometry.now all c.in_ok-stmts.stmts.items (prog_of c.in_ok-hands.field-0) c.in_ok-push.ensures.items c.in_ok-stmts.ensures c.in_ok-hands.ensures
