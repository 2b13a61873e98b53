use Rattle.sei_stmt.specs.Statements.{load_tree}
use Rattle.sei_words.specs.LentBucket.{words_of}
use Rattle.sei_pass.specs.Frames.{machine_at}
use Rattle.sei_pass.proofs.LoopLaws.{once}
use Rattle.sei_pass.proofs.frame.Frame.ask_load.Goals as goal

pub returns-in-Once : goal.returns-in-Once
returns-in-Once g c = λ log s notes.
    once _ _ _ _ (λ m. load_tree c.args.index m c.args.to c.args.address) (machine_at c.args.self.now (words_of (g.L.Lent.lent_bucket c.args.lent.now)) log notes) _ _ _ _ _ c.in-Once.ensures (c.load.ensures log notes) c.asked.ensures
