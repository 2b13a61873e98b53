use Rattle.std.proofs.Common.{◌≡◌, rules}
use Rattle.sei_stmt.specs.Machine.{ends}
use Rattle.sei_stmt.specs.Machine.Outcome.{Next}
use Rattle.sei_stmt.specs.Statements.{equal_tree, less_tree}
use Rattle.sei_stmt.specs.Table.{target}
use Rattle.sei_words.specs.LentBucket.{words_of}
use Rattle.sei_pass.proofs.LoopLaws.{targeted}
use Rattle.sei_pass.proofs.frame.Frame.ask.Goals as goal

pub returns-in-Const-clause-tree : goal.returns-in-Const-clause-tree
returns-in-Const-clause-tree g c = λ s notes. rw c.in-Const.is (c.ask_constant.ensures (words_of (g.L.Lent.lent_bucket c.args.lent.now)) c.args.log.now notes)

pub returns-in-Move-clause-tree : goal.returns-in-Move-clause-tree
returns-in-Move-clause-tree g c = λ s notes. rw c.in-Move.is (c.ask_copy.ensures (words_of (g.L.Lent.lent_bucket c.args.lent.now)) c.args.log.now notes)

pub returns-in-Add-clause-tree : goal.returns-in-Add-clause-tree
returns-in-Add-clause-tree g c = λ s notes. rw c.in-Add.is (c.ask_add.ensures (words_of (g.L.Lent.lent_bucket c.args.lent.now)) c.args.log.now notes)

pub returns-in-Sub-clause-tree : goal.returns-in-Sub-clause-tree
returns-in-Sub-clause-tree g c = λ s notes. rw c.in-Sub.is (c.ask_sub.ensures (words_of (g.L.Lent.lent_bucket c.args.lent.now)) c.args.log.now notes)

pub returns-in-Input-clause-tree : goal.returns-in-Input-clause-tree
returns-in-Input-clause-tree g c = λ s notes. rw c.in-Input.is (c.ask_input.ensures (words_of (g.L.Lent.lent_bucket c.args.lent.now)) c.args.log.now notes)

pub returns-in-Load-clause-tree : goal.returns-in-Load-clause-tree
returns-in-Load-clause-tree g c = λ s notes. rw c.in-Load.is (c.ask_load.ensures c.args.log.now s notes)

pub returns-in-Store-clause-tree : goal.returns-in-Store-clause-tree
returns-in-Store-clause-tree g c = λ s notes. rw c.in-Store.is (c.ask_store.ensures.tree s notes)

pub returns-in-Emit-clause-tree : goal.returns-in-Emit-clause-tree
returns-in-Emit-clause-tree g c = λ s notes. rw c.in-Emit.is (c.ask_emit.ensures (words_of (g.L.Lent.lent_bucket c.args.lent.now)) c.args.log.now notes)

pub returns-in-Jump-clause-tree : goal.returns-in-Jump-clause-tree
returns-in-Jump-clause-tree g c = λ s notes.
    let to : c.target.result ≡ target c.args.index c.in-Jump.offset = search rules in
    rw c.in-Jump.is (targeted _ _ _ _ (λ to m. ends m (Next to)) _ _ _ _ _ _ to (c.ask_jump.ensures (words_of (g.L.Lent.lent_bucket c.args.lent.now)) c.args.log.now notes))

pub returns-in-JumpEq-clause-tree : goal.returns-in-JumpEq-clause-tree
returns-in-JumpEq-clause-tree g c = λ s notes.
    let to : c.target-in-JumpEq.result ≡ target c.args.index c.in-JumpEq.offset = search rules in
    rw c.in-JumpEq.is (targeted _ _ _ _ (λ to m. equal_tree c.args.index m c.in-JumpEq.left c.in-JumpEq.right to) _ _ _ _ _ _ to (c.ask_jump_equal.ensures (words_of (g.L.Lent.lent_bucket c.args.lent.now)) c.args.log.now notes))

pub returns-in-JumpLt-clause-tree : goal.returns-in-JumpLt-clause-tree
returns-in-JumpLt-clause-tree g c = λ s notes.
    let to : c.target-in-JumpLt.result ≡ target c.args.index c.in-JumpLt.offset = search rules in
    rw c.in-JumpLt.is (targeted _ _ _ _ (λ to m. less_tree c.args.index m c.in-JumpLt.left c.in-JumpLt.right to) _ _ _ _ _ _ to (c.ask_jump_less.ensures (words_of (g.L.Lent.lent_bucket c.args.lent.now)) c.args.log.now notes))

pub returns-in-Halt-clause-tree : goal.returns-in-Halt-clause-tree
returns-in-Halt-clause-tree g c = λ s notes. rw c.in-Halt.is (c.ask_halt.ensures (words_of (g.L.Lent.lent_bucket c.args.lent.now)) c.args.log.now notes)
