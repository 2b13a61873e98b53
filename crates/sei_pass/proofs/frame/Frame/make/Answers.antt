use Rattle.std.proofs.Common.{◌≡◌, rules}
use Rattle.sei_stmt.specs.Table.{target}
use Rattle.sei_words.specs.LentBucket.{words_of}
use Rattle.sei_pass.proofs.frame.Frame.make.Goals as goal

pub returns-in-JumpEq-clause-tree : goal.returns-in-JumpEq-clause-tree
returns-in-JumpEq-clause-tree g c =
    let to : c.target-in-JumpEq.result ≡ target c.args.given.index c.in-JumpEq.offset = search rules in
    rw c.in-JumpEq.is ((rw to at c.jump_equal.ensures) (words_of (g.L.Lent.lent_bucket c.args.lent.now)) c.args.log.now c.args.notes.now)

pub returns-in-JumpLt-clause-tree : goal.returns-in-JumpLt-clause-tree
returns-in-JumpLt-clause-tree g c =
    let to : c.target-in-JumpLt.result ≡ target c.args.given.index c.in-JumpLt.offset = search rules in
    rw c.in-JumpLt.is ((rw to at c.jump_less.ensures) (words_of (g.L.Lent.lent_bucket c.args.lent.now)) c.args.log.now c.args.notes.now)

pub returns-in-Making-clause-tree : goal.returns-in-Making-clause-tree
returns-in-Making-clause-tree g c = rw (c.in-Alloc.is, c.in-Making.is) (c.alloc.ensures c.args.log.now)

pub returns-in-Reading-clause-tree : goal.returns-in-Reading-clause-tree
returns-in-Reading-clause-tree g c = rw (c.in-Alloc.is, c.in-Reading.is) (c.noted_alloc.ensures c.args.log.now c.args.notes.now)

pub returns-in-Parse-clause-tree : goal.returns-in-Parse-clause-tree
returns-in-Parse-clause-tree g c =
    rw c.in-Parse.is ((rw c.bucket.ensures at c.parse.ensures) (words_of (g.L.Lent.lent_bucket c.args.lent.now)) c.args.log.now c.args.notes.now)

pub returns-in-Render-clause-tree : goal.returns-in-Render-clause-tree
returns-in-Render-clause-tree g c =
    rw c.in-Render.is (c.render.ensures.tree (words_of (g.L.Lent.lent_bucket c.args.lent.now)) c.args.log.now c.args.notes.now)
