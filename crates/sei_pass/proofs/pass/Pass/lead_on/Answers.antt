use Rattle.std.proofs.Common.{refl}
use Rattle.sei_pass.proofs.LoopRooms.{plain, no_notes, led_stays, still_pass}
use Rattle.sei_pass.proofs.pass.Pass.lead_on.Goals as goal

pub invariant_of-self : goal.invariant_of-self
invariant_of-self g c = record {
  pass = still_pass _ _ _ _ _ _ c.self.invariant.pass (led_stays _ _ _ _ _ _ _ (c.lead.ensures.led (plain c.table.result.now c.self.inside.space.budget) no_notes refl c.if-self.true));
  room = c.self.invariant.room;
}

pub returns-then-self-clause-pass : goal.returns-then-self-clause-pass
returns-then-self-clause-pass g c =
    still_pass _ _ _ _ _ _ c.self.invariant.pass (led_stays _ _ _ _ _ _ _ (c.lead.ensures.led (plain c.table.result.now c.self.inside.space.budget) no_notes refl c.if-self.true))

pub returns-then-self-clause-log : goal.returns-then-self-clause-log
returns-then-self-clause-log g c =
    let s = led_stays _ _ _ _ _ _ _ (c.lead.ensures.led (plain c.table.result.now c.self.inside.space.budget) no_notes refl c.if-self.true) in
    s.keeps.log

pub returns-then-self-clause-log_fits : goal.returns-then-self-clause-log_fits
returns-then-self-clause-log_fits g c =
    let s = led_stays _ _ _ _ _ _ _ (c.lead.ensures.led (plain c.table.result.now c.self.inside.space.budget) no_notes refl c.if-self.true) in
    s.keeps.log_fits
