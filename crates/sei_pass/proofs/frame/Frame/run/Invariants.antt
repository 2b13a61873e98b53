use Rattle.std.proofs.Common.{◌≡◌, ◌-◌, ◌≤◌}
use Rattle.sei_log.specs.declared.notes.Notes.{Notes}
use Rattle.sei_stmt.specs.Machine.{Setting}
use Rattle.sei_words.specs.LentBucket.{words_of, place_of}
use Rattle.sei_pass.specs.Frames.{machine_at}
use Rattle.sei_pass.proofs.LoopLaws.{OnChain}
use Rattle.sei_pass.proofs.frame.Frame.run.Given as goal

abbrev pub invariant-loop-made : goal.invariant-loop-made
invariant-loop-made g l = record {
  made : l.self.made ≡ l.made;
  few : l.made - l.first ≤ l.budget;
  lent : place_of (g.L.Lent.lent_bucket l.lent) ≡ place_of (g.L.Lent.lent_bucket l.fn.lent);
  chain : (s : Setting) (notes : Notes) → s.statements ≡ l.table → s.budget ≡ l.budget → OnChain g.K.Core.gives s l.phase l.first l.made
      (record { machine = machine_at l.fn.self (words_of (g.L.Lent.lent_bucket l.fn.lent)) l.fn.log notes; index = l.fn.from; core = l.fn.core })
      (record { machine = machine_at l.self (words_of (g.L.Lent.lent_bucket l.lent)) l.log notes; index = l.index; core = l.core });
}
