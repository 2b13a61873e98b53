use Rattle.std.proofs.Common.{◌≡◌, ap, ◌∙◌, sym, subst, refl, rules}
use Rattle.sei_words.specs.LentBucket.{words_of, bucket_of}
use Rattle.sei_traverse.specs.declared.turned.State.TheVariants.{Went}
use Rattle.sei_traverse.specs.declared.turned.Want.TheVariants.{Nothing}
use Rattle.sei_traverse.specs.Running.{on}
use Rattle.sei_traverse.specs.Given.{given_of}
use Rattle.sei_traverse.specs.State.{TraversalState, IsTraversal, one_more, is_running}
use Rattle.sei_traverse.specs.Step.{step_result, traversal_step, TimedTwice}
use Rattle.sei_traverse.proofs.Making.{makes_one}
use Rattle.sei_traverse.proofs.traversal.Traversal.make.Goals as goal

pub returns-then-lead-clause-makes : goal.returns-then-lead-clause-makes
returns-then-lead-clause-makes g c =
    let behavior = g.H.Handler.behavior c.args.hands.now in
    let new : TraversalState = record { workspace = c.lead.new.self; space = c.self.inside.space; steps = c.saturating_add-self-inside.result; running = c.self.inside.running } in
    makes_one g.K.Core.gives g.K.Core.counts g.met.K.Core.lawful (g.C.Clock.told c.args.clock.now) behavior c.args.input.now
    (on c.args.self.now (g.L.Lent.lent_bucket c.args.lent.now) c.args.core.now) (on new (g.L.Lent.lent_bucket c.lead.new.lent) c.lead.new.core) (record { want = Nothing; state = Went })
    (subst (λ (t : TraversalState). TimedTwice g.K.Core.gives (g.C.Clock.told c.args.clock.now) (λ now later. traversal_step (given_of behavior c.args.input.now t.space (bucket_of (g.L.Lent.lent_bucket c.args.lent.now))) now later t.workspace (words_of (g.L.Lent.lent_bucket c.args.lent.now)))
    c.args.core.now c.lead.new.core (step_result c.lead.new.self (words_of (g.L.Lent.lent_bucket c.lead.new.lent)) Went))
    c.self.view_is (rw c.if-lead.true at (c.lead.ensures.begins (g.C.Clock.told c.args.clock.now) c.args.input.now c.self.inside.space c.self.invariant.space)))
    (sym (c.lead.ensures.want c.if-lead.true)) c.lead.ensures.lent (ap (λ (t : TraversalState). t.space) c.self.view_is) (c.saturating_add-self-inside.ensures ∙ ap (λ (t : TraversalState). one_more t.steps) c.self.view_is)
    (ap (λ (t : TraversalState). t.running) c.self.view_is ∙ c.requires.running) (subst IsTraversal c.self.view_is c.self.invariant) c.requires.room

pub returns-else-lead-clause-makes : goal.returns-else-lead-clause-makes
returns-else-lead-clause-makes g c =
    let behavior = g.H.Handler.behavior c.args.hands.now in
    let new : TraversalState = record { workspace = c.rest-state.new.self; space = c.self.inside.space; steps = c.saturating_add-self-inside.result; running = c.eq-self-inside.result } in
    let running : new.running ≡ is_running c.rest-state.result = search rules in
    makes_one g.K.Core.gives g.K.Core.counts g.met.K.Core.lawful (g.C.Clock.told c.args.clock.now) behavior c.args.input.now
    (on c.args.self.now (g.L.Lent.lent_bucket c.args.lent.now) c.args.core.now) (on new (g.L.Lent.lent_bucket c.rest-state.new.lent) c.rest-state.new.core) (record { want = c.rest-state.new.self.want; state = c.rest-state.result })
    (subst (λ (t : TraversalState). TimedTwice g.K.Core.gives (g.C.Clock.told c.args.clock.now) (λ now later. traversal_step (given_of behavior c.args.input.now t.space (bucket_of (g.L.Lent.lent_bucket c.args.lent.now))) now later t.workspace (words_of (g.L.Lent.lent_bucket c.args.lent.now)))
    c.args.core.now c.rest-state.new.core (step_result c.rest-state.new.self (words_of (g.L.Lent.lent_bucket c.rest-state.new.lent)) c.rest-state.result))
    c.self.view_is ((rw c.if-lead.false at (c.lead.ensures.begins (g.C.Clock.told c.args.clock.now) c.args.input.now c.self.inside.space c.self.invariant.space)) c.rest-state.new.core (step_result c.rest-state.new.self (words_of (g.L.Lent.lent_bucket c.rest-state.new.lent)) c.rest-state.result) c.rest-state.ensures.rest))
    refl (c.rest-state.ensures.lent ∙ c.lead.ensures.lent) (ap (λ (t : TraversalState). t.space) c.self.view_is) (c.saturating_add-self-inside.ensures ∙ ap (λ (t : TraversalState). one_more t.steps) c.self.view_is) running
    (subst IsTraversal c.self.view_is c.self.invariant) c.requires.room

pub returns-then-lead-clause-traversal : goal.returns-then-lead-clause-traversal
returns-then-lead-clause-traversal g c = subst IsTraversal c.self.view_is c.self.invariant

pub returns-else-lead-clause-traversal : goal.returns-else-lead-clause-traversal
returns-else-lead-clause-traversal g c = subst IsTraversal c.self.view_is c.self.invariant
