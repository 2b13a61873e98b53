use Rattle.std.proofs.Common.{◌∙◌}
use Rattle.sei_pass.specs.Given.{setting_given}
use Rattle.sei_pass.specs.Frames.{outcome_of}
use Rattle.sei_pass.specs.Work.{work, frame_machine}
use Rattle.sei_pass.proofs.StepLaws.{stepped}
use Rattle.sei_pass.proofs.pass.Pass.step_on.Goals as goal

pub returns-clause-stepped : goal.returns-clause-stepped
returns-clause-stepped g c =
    let s = setting_given g.H.Handler.behavior c.args.given (g.L.Lent.lent_bucket c.args.lent.now) c.self.inside.space in
    let m = frame_machine g.L.Lent.lent_bucket (work c.self.inside.frame c.args.lent.now c.args.log.now c.args.core.now) c.args.notes.now in
    let y = frame_machine g.L.Lent.lent_bucket (work c.step.new.self c.step.new.lent c.step.new.log c.step.new.core) c.step.new.notes in
    let r = c.step.ensures.stepped in
    rw (← c.self.view_is)
    (stepped g.K.Core.gives g.K.Core.counts g.met.K.Core.lawful (g.C.Clock.told c.args.given.clock.now) s c.args.given.index m y (outcome_of c.step.result)
    c.args.core.now c.step.new.core r.0 r.1 r.2)

pub invariant_of-self : goal.invariant_of-self
invariant_of-self g c = record {
  pass = record {
    valid = c.self.invariant.pass.valid;
    space = c.self.invariant.pass.space;
    registers = c.step.ensures.rooms.registers ∙ c.self.invariant.pass.registers;
    input = c.step.ensures.rooms.input ∙ c.self.invariant.pass.input;
    output = c.step.ensures.rooms.output ∙ c.self.invariant.pass.output;
    bytes = c.step.ensures.rooms.bytes ∙ c.self.invariant.pass.bytes;
    made = c.step.ensures.made;
    fits = c.step.ensures.rooms.fits;
    bytes_fit = c.step.ensures.rooms.bytes_fit;
    input_fits = c.step.ensures.rooms.input_fits;
  };
  room = c.step.ensures.scratch ∙ c.self.invariant.room;
}

pub returns-clause-pass : goal.returns-clause-pass
returns-clause-pass g c = record {
  valid = c.self.invariant.pass.valid;
  space = c.self.invariant.pass.space;
  registers = c.step.ensures.rooms.registers ∙ c.self.invariant.pass.registers;
  input = c.step.ensures.rooms.input ∙ c.self.invariant.pass.input;
  output = c.step.ensures.rooms.output ∙ c.self.invariant.pass.output;
  bytes = c.step.ensures.rooms.bytes ∙ c.self.invariant.pass.bytes;
  made = c.step.ensures.made;
  fits = c.step.ensures.rooms.fits;
  bytes_fit = c.step.ensures.rooms.bytes_fit;
  input_fits = c.step.ensures.rooms.input_fits;
}
