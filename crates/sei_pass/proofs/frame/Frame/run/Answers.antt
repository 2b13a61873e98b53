use Rattle.std.proofs.Common.{◌≡◌, ◌+◌, ◌∙◌, refl, arith}
use Rattle.sei_pass.proofs.LoopLaws.{begins, goes_on, leaves, ends, within}
use Rattle.sei_pass.proofs.LoopRooms.{plain, no_notes, leads_count}
use Rattle.sei_pass.proofs.frame.Frame.run.Goals as goal

pub lead-requires : goal.lead-requires
lead-requires g c = omega arith

pub loop-made-init : goal.loop-made-init
loop-made-init g c = record { made = refl; few = omega arith; lent = refl; chain = λ s notes t b. begins _ _ _ _ _ }

pub loop-made-preserved : goal.loop-made-preserved
loop-made-preserved g c =
    let one : c.lead.new.self.made ≡ c.loop-made.self.made + 1 =
    leads_count _ _ _ _ _ (c.in-Some.ensures.led (plain c.args.table.now c.args.budget) no_notes refl (within _ _ _ _ c.loop-made.invariant.made c.loop-made-test.true refl)) in
    record {
      made = omega (arith, one);
      few = omega arith;
      lent = c.lead.ensures.lent ∙ c.loop-made.invariant.lent;
      chain = λ s notes t b. goes_on _ _ _ _ _ _ _ _ (c.loop-made.invariant.chain s notes t b) (c.in-Some.ensures.led s notes t (within _ _ _ _ c.loop-made.invariant.made c.loop-made-test.true b));
    }

pub returns-in-None-clause-ran : goal.returns-in-None-clause-ran
returns-in-None-clause-ran g c = λ s notes t b.
    leaves _ _ _ _ _ _ _ _ _ _ (c.loop-made.invariant.chain s notes t b) (c.in-None.ensures.led s notes t (within _ _ _ _ c.loop-made.invariant.made c.loop-made-test.true b))

pub returns-clause-ran : goal.returns-clause-ran
returns-clause-ran g c = λ s notes t b. ends _ _ _ _ _ _ _ (c.loop-made.invariant.chain s notes t b) c.loop-made.invariant.made

pub returns-clause-few : goal.returns-clause-few
returns-clause-few g c = omega (arith, c.loop-made.invariant.made, c.loop-made.invariant.few)
