use Rattle.sei_stmt.specs.Statements.{input_tree}
use Rattle.sei_pass.specs.Frames.{machine_at}
use Rattle.sei_pass.proofs.LoopLaws.{once}
use Rattle.sei_pass.proofs.frame.Frame.ask_input.Goals as goal

pub returns-in-Once : goal.returns-in-Once
returns-in-Once g c = λ words log notes.
    once _ _ _ _ (λ m. input_tree c.args.index m c.args.to c.args.from) (machine_at c.args.self.now words log notes) _ _ _ _ _ c.in-Once.ensures (c.input.ensures words log notes) c.asked.ensures
