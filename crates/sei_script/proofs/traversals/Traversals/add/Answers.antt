use Rattle.std.proofs.Common.{◌∙◌, ap, sym}
use Rattle.std.specs.Prelude.{◌||◌}
use Rattle.sei_script.specs.Faults.{plans, holds}
use Rattle.sei_script.specs.declared.line.ScriptLine.{ScriptLine}
use Rattle.sei_script.proofs.FaultLaws.{added}
use Rattle.sei_script.proofs.traversals.Traversals.add.Goals as goal

pub returns-in_ok-insert-in-Fault : goal.returns-in_ok-insert-in-Fault
returns-in_ok-insert-in-Fault c = λ d u.
    added c.args.self.now (record { planned = c.insert.new.self }) c.in-Fault.c c.in-Fault.t d u (c.in_ok-insert-in-Fault.ensures.updates.0 (record { c = d; t = u }))
    ∙ ap (λ (line : ScriptLine). holds c.args.self.now d u || plans d u line) (sym c.in-Fault.is)
