use Rattle.std.proofs.Common.{◌+◌, ◌<◌, ◌^◌, ◌∙◌, ℕ, ap, sym, subst, arith}
use Rattle.sei_pass.specs.declared.spaces.PassSpace.{PassSpace}
use Rattle.sei_main.specs.Course.{Course, course_begun, course_from}
use Rattle.sei_main.specs.SoFar.{HasRoom}
use Rattle.sei_main.proofs.Turns.{ended, goes, goes_quietly}
use Rattle.sei_main.proofs.tables.traverse.Goals as goal

pub meet-requires : goal.meet-requires
meet-requires c =
    subst (λ (s : PassSpace). HasRoom s.bytes c.loop.so_far) (sym (c.turn-turned.ensures.turned.space ∙ c.loop.invariant.underway.space)) c.loop.invariant.room

pub returns-then-is_ended-clause-buckets : goal.returns-then-is_ended-clause-buckets
returns-then-is_ended-clause-buckets c =
    let begun : Course = course_begun c.args.hands.now c.args.buckets.now.items c.args.sealed c.args.plan in
    ap (λ (x : Course). x.buckets) (ended c.loop.invariant.underway c.turn-turned.ensures.turned c.loop-test.true (sym c.is_ended.ensures ∙ c.if-is_ended.true))
    ∙ ap (λ (n : ℕ). (course_from c.args.hands.now c.args.text.now c.args.now n begun).buckets) c.requires.limit

pub returns-then-is_ended-clause-served : goal.returns-then-is_ended-clause-served
returns-then-is_ended-clause-served c =
    let begun : Course = course_begun c.args.hands.now c.args.buckets.now.items c.args.sealed c.args.plan in
    c.finish.ensures ∙ c.meet.ensures.served
    ∙ ap (λ (x : Course). x.served) (ended c.loop.invariant.underway c.turn-turned.ensures.turned c.loop-test.true (sym c.is_ended.ensures ∙ c.if-is_ended.true))
    ∙ ap (λ (n : ℕ). (course_from c.args.hands.now c.args.text.now c.args.now n begun).served) c.requires.limit

pub loop-preserved : goal.loop-preserved
loop-preserved c =
    let small : c.loop.counter + 1 < 2 ^ 64 = omega (arith, c.loop-test.true, c.ranges.limit.fits) in
    record {
      underway = goes c.loop.invariant.underway c.turn-turned.ensures.turned c.loop-test.true small (sym c.is_ended.ensures ∙ c.if-is_ended.false)
          c.meet.ensures.served c.lent_behind-lent.ensures c.turn-turned.ensures.laid_out;
      room = subst (λ (s : PassSpace). HasRoom s.bytes c.meet.new.self) (c.turn-turned.ensures.turned.space ∙ c.loop.invariant.underway.space) c.meet.ensures.room;
    }

pub loop-preserved-then-is_quiet : goal.loop-preserved-then-is_quiet
loop-preserved-then-is_quiet c =
    let small : c.loop.counter + 1 < 2 ^ 64 = omega (arith, c.loop-test.true, c.ranges.limit.fits) in
    let quiet = c.is_quiet.ensures c.if-is_quiet.true in
    record {
      underway = goes_quietly c.loop.invariant.underway c.turn-turned.ensures.turned c.loop-test.true small quiet.0 quiet.1 c.turn-turned.ensures.laid_out;
      room = c.loop.invariant.room;
    }
