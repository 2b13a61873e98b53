use Rattle.sei_stmt.specs.Statements.{sub_tree}
use Rattle.sei_pass.specs.Frames.{machine_at}
use Rattle.sei_pass.proofs.LoopLaws.{once}
use Rattle.sei_pass.proofs.frame.Frame.ask_sub.Goals as goal

pub returns-in-Once : goal.returns-in-Once
returns-in-Once g c = λ words log notes.
    once _ _ _ _ (λ m. sub_tree c.args.index m c.args.to c.args.left c.args.right) (machine_at c.args.self.now words log notes) _ _ _ _ _ c.in-Once.ensures (c.sub.ensures words log notes) c.asked.ensures
