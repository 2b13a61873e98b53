use Rattle.std.proofs.Common.{refl}
use Rattle.sei_pass.proofs.LoopRooms.{plain, no_notes, loop_stays, still_pass}
use Rattle.sei_pass.proofs.pass.Pass.run_on.Goals as goal

pub invariant_of-self : goal.invariant_of-self
invariant_of-self g c = record {
  pass = still_pass _ _ _ _ _ _ c.self.invariant.pass (loop_stays _ _ _ _ _ _ _ _ _ (c.run.ensures.ran (plain c.table.result.now c.self.inside.space.budget) no_notes refl refl));
  room = c.self.invariant.room;
}

pub returns-clause-pass : goal.returns-clause-pass
returns-clause-pass g c =
    still_pass _ _ _ _ _ _ c.self.invariant.pass (loop_stays _ _ _ _ _ _ _ _ _ (c.run.ensures.ran (plain c.table.result.now c.self.inside.space.budget) no_notes refl refl))

pub returns-clause-log : goal.returns-clause-log
returns-clause-log g c =
    let s = loop_stays _ _ _ _ _ _ _ _ _ (c.run.ensures.ran (plain c.table.result.now c.self.inside.space.budget) no_notes refl refl) in
    s.keeps.log

pub returns-clause-log_fits : goal.returns-clause-log_fits
returns-clause-log_fits g c =
    let s = loop_stays _ _ _ _ _ _ _ _ _ (c.run.ensures.ran (plain c.table.result.now c.self.inside.space.budget) no_notes refl refl) in
    s.keeps.log_fits
