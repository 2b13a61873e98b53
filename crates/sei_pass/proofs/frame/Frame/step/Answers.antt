use Rattle.sei_fault.proofs.Public.{always}
use Rattle.sei_stmt.specs.Handling.{parsed_words}
use Rattle.sei_stmt.specs.Machine.{one_made}
use Rattle.sei_stmt.specs.Statements.{statement_tree}
use Rattle.sei_words.specs.LentBucket.{bucket_of}
use Rattle.sei_pass.specs.Given.{setting_given}
use Rattle.sei_pass.specs.Work.{work, frame_machine, frame_after}
use Rattle.sei_pass.proofs.RoomLaws.{Keeps, keeps}
use Rattle.sei_pass.proofs.StepLaws.{some_answer, missing, spent, made_one, any_time, is_below, not_below, made_within}
use Rattle.sei_pass.proofs.frame.Frame.step.Goals as goal

pub returns-in-None-clause-stepped : goal.returns-in-None-clause-stepped
returns-in-None-clause-stepped g c =
    let n = some_answer (g.C.Clock.told c.args.given.clock.now) in
    let s = setting_given g.H.Handler.behavior c.args.given (g.L.Lent.lent_bucket c.args.lent.now) c.args.space.now in
    let m = frame_machine g.L.Lent.lent_bucket (work c.args.self.now c.args.lent.now c.args.log.now c.args.core.now) c.args.notes.now in
    (n.0, n.1, missing g.K.Core.gives (s n.0) c.args.given.index m c.args.core.now (rw c.table.ensures at c.in-None.ensures.found))

pub returns-else-self-space-clause-stepped : goal.returns-else-self-space-clause-stepped
returns-else-self-space-clause-stepped g c =
    let n = some_answer (g.C.Clock.told c.args.given.clock.now) in
    let s = setting_given g.H.Handler.behavior c.args.given (g.L.Lent.lent_bucket c.args.lent.now) c.args.space.now in
    let m = frame_machine g.L.Lent.lent_bucket (work c.args.self.now c.args.lent.now c.args.log.now c.args.core.now) c.args.notes.now in (
      n.0,
      n.1,
      spent g.K.Core.gives (s n.0) c.args.given.index m c.args.core.now c.in-Some.statement (rw c.table.ensures at c.in-Some.ensures.found)
          (not_below c.args.self.now.made c.args.space.now.budget c.if-self-space.false),
    )

pub returns-then-self-space-clause-stepped : goal.returns-then-self-space-clause-stepped
returns-then-self-space-clause-stepped g c =
    let s = setting_given g.H.Handler.behavior c.args.given (g.L.Lent.lent_bucket c.args.lent.now) c.args.space.now in
    let m = frame_machine g.L.Lent.lent_bucket (work c.args.self.now c.args.lent.now c.args.log.now c.args.core.now) c.args.notes.now in
    let x = frame_after g.L.Lent.lent_bucket (work c.make.new.self c.make.new.lent c.make.new.log c.make.new.core) c.make.new.notes c.make.result in
    let r = any_time g.K.Core.gives c.args.given.which (g.H.Handler.behavior c.args.given.hands.now) c.args.given.input.now c.args.given.sealed.now
    (bucket_of (g.L.Lent.lent_bucket c.args.lent.now)) c.args.space.now
    c.in-Some.statement (g.C.Clock.told c.args.given.clock.now) c.time-time.result c.args.given.index (one_made m) c.args.core.now c.make.new.core x c.time-time.ensures c.make.ensures.tree in (
      r.0,
      r.1,
      made_one g.K.Core.gives (s r.0) c.args.given.index m c.args.core.now c.make.new.core c.in-Some.statement x (rw c.table.ensures at c.in-Some.ensures.found)
          (is_below c.args.self.now.made c.args.space.now.budget c.if-self-space.true) r.2,
    )

-- what the statement kept
pub returns-then-self-space-clause-rooms : goal.returns-then-self-space-clause-rooms
returns-then-self-space-clause-rooms g c =
    let s = setting_given g.H.Handler.behavior c.args.given (g.L.Lent.lent_bucket c.args.lent.now) c.args.space.now c.time-time.result in
    let m = one_made (frame_machine g.L.Lent.lent_bucket (work c.args.self.now c.args.lent.now c.args.log.now c.args.core.now) c.args.notes.now) in
    let x = frame_after g.L.Lent.lent_bucket (work c.make.new.self c.make.new.lent c.make.new.log c.make.new.core) c.make.new.notes c.make.result in
    let kept = always g.K.Core.gives (λ y. Keeps (parsed_words s.parsed) m y.machine) (statement_tree s c.args.given.index m c.in-Some.statement)
    c.args.core.now c.make.new.core x (keeps s c.args.given.index m c.in-Some.statement) c.make.ensures.tree in
    record {
      registers = kept.registers;
      input = kept.input;
      output = kept.output;
      bytes = kept.bytes;
      fits = kept.fits c.requires.fits;
      bytes_fit = kept.bytes_fit c.requires.bytes_fit;
      input_fits = kept.input_fits c.requires.room c.requires.input_fits;
    }

pub returns-then-self-space-clause-made : goal.returns-then-self-space-clause-made
returns-then-self-space-clause-made g c =
    let s = setting_given g.H.Handler.behavior c.args.given (g.L.Lent.lent_bucket c.args.lent.now) c.args.space.now c.time-time.result in
    let m = one_made (frame_machine g.L.Lent.lent_bucket (work c.args.self.now c.args.lent.now c.args.log.now c.args.core.now) c.args.notes.now) in
    let x = frame_after g.L.Lent.lent_bucket (work c.make.new.self c.make.new.lent c.make.new.log c.make.new.core) c.make.new.notes c.make.result in
    let kept = always g.K.Core.gives (λ y. Keeps (parsed_words s.parsed) m y.machine) (statement_tree s c.args.given.index m c.in-Some.statement)
    c.args.core.now c.make.new.core x (keeps s c.args.given.index m c.in-Some.statement) c.make.ensures.tree in
    made_within c.args.self.now.made c.make.new.self.made c.args.space.now.budget kept.made c.if-self-space.true

pub returns-then-self-space-clause-log : goal.returns-then-self-space-clause-log
returns-then-self-space-clause-log g c =
    let s = setting_given g.H.Handler.behavior c.args.given (g.L.Lent.lent_bucket c.args.lent.now) c.args.space.now c.time-time.result in
    let m = one_made (frame_machine g.L.Lent.lent_bucket (work c.args.self.now c.args.lent.now c.args.log.now c.args.core.now) c.args.notes.now) in
    let x = frame_after g.L.Lent.lent_bucket (work c.make.new.self c.make.new.lent c.make.new.log c.make.new.core) c.make.new.notes c.make.result in
    let kept = always g.K.Core.gives (λ y. Keeps (parsed_words s.parsed) m y.machine) (statement_tree s c.args.given.index m c.in-Some.statement)
    c.args.core.now c.make.new.core x (keeps s c.args.given.index m c.in-Some.statement) c.make.ensures.tree in
    kept.log

pub returns-then-self-space-clause-log_fits : goal.returns-then-self-space-clause-log_fits
returns-then-self-space-clause-log_fits g c =
    let s = setting_given g.H.Handler.behavior c.args.given (g.L.Lent.lent_bucket c.args.lent.now) c.args.space.now c.time-time.result in
    let m = one_made (frame_machine g.L.Lent.lent_bucket (work c.args.self.now c.args.lent.now c.args.log.now c.args.core.now) c.args.notes.now) in
    let x = frame_after g.L.Lent.lent_bucket (work c.make.new.self c.make.new.lent c.make.new.log c.make.new.core) c.make.new.notes c.make.result in
    let kept = always g.K.Core.gives (λ y. Keeps (parsed_words s.parsed) m y.machine) (statement_tree s c.args.given.index m c.in-Some.statement)
    c.args.core.now c.make.new.core x (keeps s c.args.given.index m c.in-Some.statement) c.make.ensures.tree in
    kept.log_fits
