use Rattle.std.proofs.Common.{◌+◌, ◌<◌, ◌∙◌, ap, sym, subst, length, Bool}
use Rattle.std.specs.Prelude.{if◌then◌else◌}
use Rattle.sei_main.specs.State.{StateOf, led_by, drained_by, bytes_waiting}
use Rattle.sei_main.proofs.Rounds.{drain_smaller, drained_if, round_from_length}
use Rattle.sei_main.proofs.Looping.{drain_part, drain_written, drain_state, was_going}
use Rattle.sei_main.specs.Serving.{step_by}
use Rattle.sei_main.proofs.Stepping.{serving_steps}
use Rattle.sei_main.proofs.NoFault.{still}
use Rattle.sei_main.proofs.world.state.World.drain.Goals as goal

pub returns-in_err-went-clause-part : goal.returns-in_err-went-clause-part
unfolding led_by
returns-in_err-went-clause-part g c =
    let l = c.loop-went in
    drain_part (step_by g.S.Service.answering) (serving_steps g.S.Service.answering) c.args.reporter.history _ _ _ l.self (drained_by (step_by g.S.Service.answering) c.args.self.now).events
    (was_going (step_by g.S.Service.answering) (serving_steps g.S.Service.answering) c.args.reporter.history _ _ l.self l.went (drained_by (step_by g.S.Service.answering) c.args.self.now).events c.loop-went-test.true l.invariant.written) c.round.ensures.part

pub loop-went-smaller : goal.loop-went-smaller
loop-went-smaller g c =
    let l = c.loop-went in
    subst (λ (w : Bool). bytes_waiting c.round.new.self.seats + (if c.in_ok-went.went then 1 else 0) < bytes_waiting l.self.seats + (if w then 1 else 0)) (sym c.loop-went-test.true)
    (drain_smaller (step_by g.S.Service.answering) (serving_steps g.S.Service.answering) l.self c.round.new.self c.in_ok-went.went c.in_ok-went.ensures.state)

pub loop-went-preserved : goal.loop-went-preserved
loop-went-preserved g c =
    let l = c.loop-went in
    let b = c.in_ok-went.ensures.state in
    let whole = (drained_by (step_by g.S.Service.answering) c.args.self.now).events in
    record {
      written = drain_written (step_by g.S.Service.answering) (serving_steps g.S.Service.answering) c.args.reporter.history _ _ _ l.self c.round.new.self c.in_ok-went.went whole b (was_going (step_by g.S.Service.answering) (serving_steps g.S.Service.answering) c.args.reporter.history _ _ l.self l.went whole c.loop-went-test.true l.invariant.written) c.in_ok-went.ensures.all;
      state = drain_state (step_by g.S.Service.answering) (serving_steps g.S.Service.answering) l.self c.round.new.self c.in_ok-went.went b ∙ ap (λ (w : Bool). (drained_if (step_by g.S.Service.answering) (serving_steps g.S.Service.answering) w l.self).state) (sym c.loop-went-test.true) ∙ l.invariant.state;
      few = rw (ap (λ (s : StateOf _). length s.seats) b.state ∙ round_from_length (step_by g.S.Service.answering) (serving_steps g.S.Service.answering) (length l.self.seats) 0 l.self) l.invariant.few;
      quiet = still _ _ _ _ c.in_ok-went.was c.round.ensures.later c.round.ensures.told ∙ l.invariant.quiet;
    }
