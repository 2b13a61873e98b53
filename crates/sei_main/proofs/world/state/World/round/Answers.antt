use Rattle.std.proofs.Common.{◌∙◌, ap, sym, arith, length}
use Rattle.sei_main.specs.State.{StateOf, round_by}
use Rattle.sei_main.proofs.Looping.{round_part, round_written, round_state, round_went}
use Rattle.sei_main.specs.Serving.{step_by}
use Rattle.sei_main.proofs.Stepping.{serving_steps}
use Rattle.sei_main.proofs.NoFault.{still}
use Rattle.sei_main.proofs.world.state.World.round.Goals as goal

pub returns-in_err-answered-clause-part : goal.returns-in_err-answered-clause-part
returns-in_err-answered-clause-part g c =
    round_part (step_by g.S.Service.answering) (serving_steps g.S.Service.answering) c.args.reporter.history _ _ _ c.len-count.result c.loop-c.c c.loop-c.self (round_by (step_by g.S.Service.answering) c.args.self.now).events (omega arith) c.loop-c.invariant.written c.step.ensures.part

pub loop-c-preserved : goal.loop-c-preserved
loop-c-preserved g c =
    let l = c.loop-c in
    let b = c.in_ok-answered.ensures.state in
    record {
      written = round_written (step_by g.S.Service.answering) (serving_steps g.S.Service.answering) c.args.reporter.history _ _ _ c.len-count.result l.c l.self c.step.new.self c.in_ok-answered.answered (round_by (step_by g.S.Service.answering) c.args.self.now).events (omega arith) b l.invariant.written c.in_ok-answered.ensures.all;
      state = round_state (step_by g.S.Service.answering) (serving_steps g.S.Service.answering) c.len-count.result l.c l.self c.step.new.self c.in_ok-answered.answered (omega arith) b ∙ l.invariant.state;
      went = round_went (step_by g.S.Service.answering) (serving_steps g.S.Service.answering) c.len-count.result l.c l.self c.step.new.self l.went c.in_ok-answered.answered (omega arith) b ∙ l.invariant.went;
      count = l.invariant.count ∙ sym (ap (λ (s : StateOf _). length s.seats) b.state ∙ (serving_steps g.S.Service.answering).size l.self l.c);
      quiet = still _ _ _ _ c.in_ok-answered.was c.step.ensures.later c.step.ensures.told ∙ l.invariant.quiet;
    }
