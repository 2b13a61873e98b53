use Rattle.sei_stmt.specs.Statements.{store_tree}
use Rattle.sei_words.specs.LentBucket.{words_of}
use Rattle.sei_pass.specs.Frames.{machine_at}
use Rattle.sei_pass.proofs.LoopLaws.{once}
use Rattle.sei_pass.proofs.frame.Frame.ask_store.Goals as goal

pub returns-in-Once-clause-tree : goal.returns-in-Once-clause-tree
returns-in-Once-clause-tree g c = λ s notes.
    once _ _ _ _ (λ m. store_tree c.args.index m c.args.address c.args.from) (machine_at c.args.self.now (words_of (g.L.Lent.lent_bucket c.args.lent.now)) c.args.log.now notes) _ _ _ _ _ c.in-Once.ensures (c.store.ensures.tree notes) c.asked.ensures
