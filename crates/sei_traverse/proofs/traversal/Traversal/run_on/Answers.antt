use Rattle.std.proofs.Common.{◌≡◌, ℕ, ◌+◌, suc, ◌≤◌, length, ◌∙◌, sym, ap, subst, arith}
use Rattle.sei_pass.specs.declared.spaces.PassSpace.{PassSpace}
use Rattle.sei_pass.specs.declared.given.Sealed.{Sealed}
use Rattle.sei_pass.specs.Setting.{sealed_call}
use Rattle.sei_stmt.specs.Handling.{parsed_words}
use Rattle.sei_traverse.specs.declared.turned.Turned.{Turned}
use Rattle.sei_traverse.specs.Running.{on, RunsOn, quiet}
use Rattle.sei_traverse.specs.State.{is_running}
use Rattle.sei_traverse.proofs.PublicLentBuckets.{laid_out_as}
use Rattle.sei_traverse.proofs.PublicRuns.{run_sealed, run_space, run_lent, runs_join}
use Rattle.sei_traverse.proofs.traversal.Traversal.run_on.Goals as goal

pub run_part-more-requires-clause-running : goal.run_part-more-requires-clause-running
run_part-more-requires-clause-running g c = c.loop-many.invariant.run.makes.running ∙ ap (λ (t : Turned). is_running t.state) c.if-is_quiet.ensures

pub run_part-more-requires-clause-room : goal.run_part-more-requires-clause-room
run_part-more-requires-clause-room g c =
    let parsed = (g.H.Handler.behavior c.args.hands.now).parsed c.args.input.now in
    subst (λ (s : PassSpace). length (parsed_words (sealed_call parsed c.loop-many.self.workspace.sealed.nth)) ≤ s.input) (sym (run_space _ _ _ _ _ _ _ _ _ c.loop-many.invariant.run))
    (subst (λ (s : Sealed). length (parsed_words (sealed_call parsed s.nth)) ≤ c.args.self.now.space.input) (sym (run_sealed _ _ _ _ _ _ _ _ _ c.loop-many.invariant.run)) c.requires.room)

pub run_part-more-requires-clause-lent : goal.run_part-more-requires-clause-lent
run_part-more-requires-clause-lent g c =
    let space = run_space _ _ _ _ _ _ _ _ _ c.loop-many.invariant.run in
    laid_out_as c.loop-many.self.space.geometry (g.L.Lent.lent_bucket c.args.lent.now) (g.L.Lent.lent_bucket c.loop-many.lent) (run_lent _ _ _ _ _ _ _ _ _ c.loop-many.invariant.run)
    (rw space c.requires.lent)

pub loop-many-preserved : goal.loop-many-preserved
loop-many-preserved g c =
    let first = c.loop-many.many.before in
    let more = c.run_part-more.result.before in
    let x = on c.args.self.now (g.L.Lent.lent_bucket c.args.lent.now) c.args.core.now in
    let y = on c.loop-many.self (g.L.Lent.lent_bucket c.loop-many.lent) c.loop-many.core in
    let z = on c.run_part-more.new.self (g.L.Lent.lent_bucket c.run_part-more.new.lent) c.run_part-more.new.core in
    let told = g.C.Clock.told c.args.clock.now in
    let behavior = g.H.Handler.behavior c.args.hands.now in
    let so_far : RunsOn g.K.Core.gives g.K.Core.counts told behavior c.args.input.now first x y quiet =
    subst (λ (t : Turned). RunsOn g.K.Core.gives g.K.Core.counts told behavior c.args.input.now first x y t) c.if-is_quiet.ensures c.loop-many.invariant.run in
    let sum : suc first + more ≡ first + 1 + more = omega arith in
    record {
      run = subst (λ (n : ℕ). RunsOn g.K.Core.gives g.K.Core.counts told behavior c.args.input.now n x z c.run_part-more.result.turned) sum
          (runs_join g.K.Core.gives g.K.Core.counts told behavior c.args.input.now first more x y z c.run_part-more.result.turned so_far c.run_part-more.ensures.run);
      few = omega (arith, c.run_part-more.ensures.few);
    }
