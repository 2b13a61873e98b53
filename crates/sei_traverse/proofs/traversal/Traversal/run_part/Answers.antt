use Rattle.std.proofs.Common.{◌≡◌, ℕ, ◌^◌, ◌<◌, ◌∙◌, ap, sym, arith, true, Bool, rules}
use Rattle.mc_model.specs.Server.{IsValid}
use Rattle.sei_pass.specs.declared.spaces.PassSpace.{PassSpace}
use Rattle.sei_pass.specs.Spaces.{IsSpaceOf}
use Rattle.sei_traverse.specs.Running.{on, left_at}
use Rattle.sei_traverse.specs.State.{TraversalState, is_running}
use Rattle.sei_traverse.proofs.Lift.{run_counted}
use Rattle.sei_traverse.proofs.traversal.Traversal.run_part.Goals as goal

-- a pass makes few statements
few_statements : (s : PassSpace) → IsValid s.geometry → IsSpaceOf s → s.budget < 2 ^ 20
few_statements s valid is = omega (arith, is.budget, is.words, valid.few_slots, valid.few_words)

pub returns : goal.returns
returns g c =
    let many = c.run-many.result in
    let workspace = c.run-many.new.self in
    let space = c.self.inside.space in
    let old = g.L.Lent.lent_bucket c.args.lent.now in
    let left = g.L.Lent.lent_bucket c.run-many.new.lent in
    let at_steps : ℕ → TraversalState = λ n. record { workspace = workspace; space = space; steps = n; running = is_running many.turned.state } in
    let at_end : Bool → TraversalState = λ b. record { workspace = workspace; space = space; steps = c.saturating_add-self-inside.result; running = b } in
    let begun : Bool → TraversalState = λ b. record { workspace = c.self.inside.workspace; space = space; steps = c.self.inside.steps; running = b } in
    let goes : c.eq-self-inside.result ≡ is_running many.turned.state = search rules in
    record {
      run = run_counted g.K.Core.gives g.K.Core.counts (g.C.Clock.told c.args.clock.now) (g.H.Handler.behavior c.args.hands.now) c.args.input.now many.before
          (on (begun true) old c.args.core.now) (on c.args.self.now old c.args.core.now) (on (left_at workspace space c.self.inside.steps many) left c.run-many.new.core) (on (at_end c.eq-self-inside.result) left c.run-many.new.core) many.turned
          (ap (λ (t : TraversalState). on t old c.args.core.now) (ap begun (sym (ap (λ (t : TraversalState). t.running) c.self.view_is ∙ c.requires.running)) ∙ c.self.view_is))
          (ap (λ (t : TraversalState). on t left c.run-many.new.core) (ap at_steps (omega (arith, c.saturating_add.ensures, c.saturating_add-self-inside.ensures)) ∙ ap at_end (sym goes)))
          (c.run-many.ensures.run c.self.inside.steps (omega arith));
      few = omega (arith, c.run-many.ensures.few, few_statements c.self.inside.workspace.first.space c.self.invariant.workspace.first.valid c.self.invariant.workspace.first.space, ap (λ (k : PassSpace). k.budget) c.self.invariant.space);
    }
