use Rattle.sei_pass.specs.Frames.{machine_at}
use Rattle.sei_pass.specs.Setting.{rendering}
use Rattle.sei_pass.proofs.RenderLaws.{done_runs}
use Rattle.sei_pass.proofs.frame.Frame.render.Goals as goal

pub returns-in-Done-clause-tree : goal.returns-in-Done-clause-tree
returns-in-Done-clause-tree g c = λ words log notes.
    let s = rendering c.args.answer (g.H.Handler.behavior c.args.hands.now).rendered in
    let m = machine_at c.args.self.now words log notes in
    c.read_words.ensures.read s c.args.index m _ _
    (done_runs g.K.Core.gives s c.args.index m (s.rendered c.read_words.new.into.items) _ _ _
    (rw c.words.ensures at c.in-Done.ensures.answer)
    (rw (c.message_code.ensures, c.bytes.ensures, c.render.ensures.filled, c.words.ensures) at c.write_first_byte.ensures words log notes))
