use Rattle.std.proofs.Common.{ap, ◌∙◌, refl}
use Rattle.sei_fault.specs.declared.place.Times.TheVariants.{Skip, Twice}
use Rattle.sei_words.specs.LentBucket.{words_of, bucket_of}
use Rattle.sei_pass.specs.declared.loops.Exit.TheVariants.{At, Halted, Bad, Struck, Alone}
use Rattle.sei_traverse.specs.declared.turned.State.{State}
use Rattle.sei_traverse.specs.declared.workspace.Workspace.{Workspace}
use Rattle.sei_traverse.specs.Given.{given_of}
use Rattle.sei_traverse.specs.Step.{step_result}
use Rattle.sei_traverse.proofs.Resting.{rest_is, rest_plain}
use Rattle.sei_traverse.proofs.workspace.Workspace.rest.Goals as goal

pub returns-in-At-clause-rest : goal.returns-in-At-clause-rest
returns-in-At-clause-rest g c =
    rest_plain g.K.Core.gives c.args.self.now (words_of (g.L.Lent.lent_bucket c.args.lent.now)) (g.C.Clock.told c.args.clock.now)
    (given_of (g.H.Handler.behavior c.args.hands.now) c.args.input.now c.args.space.now (bucket_of (g.L.Lent.lent_bucket c.args.lent.now)))
    c.args.exit c.args.core.now c.args.core.now _ (At c.in-At.place) (c.in-At.is) (λ now later. (ap (λ (s : State). step_result (let v : Workspace = record c.args.self.now { place = c.in-At.place } in v) (words_of (g.L.Lent.lent_bucket c.args.lent.now)) s) c.arrive.ensures, refl))

pub returns-in-Halted-clause-rest : goal.returns-in-Halted-clause-rest
returns-in-Halted-clause-rest g c =
    rest_plain g.K.Core.gives c.args.self.now (words_of (g.L.Lent.lent_bucket c.args.lent.now)) (g.C.Clock.told c.args.clock.now)
    (given_of (g.H.Handler.behavior c.args.hands.now) c.args.input.now c.args.space.now (bucket_of (g.L.Lent.lent_bucket c.args.lent.now)))
    c.args.exit c.args.core.now c.halt.new.core _ (Halted) (c.in-Halted.is) (λ now later. c.halt.ensures.halted (words_of (g.L.Lent.lent_bucket c.args.lent.now)))

pub returns-in-Bad-clause-rest : goal.returns-in-Bad-clause-rest
returns-in-Bad-clause-rest g c =
    rest_plain g.K.Core.gives c.args.self.now (words_of (g.L.Lent.lent_bucket c.args.lent.now)) (g.C.Clock.told c.args.clock.now)
    (given_of (g.H.Handler.behavior c.args.hands.now) c.args.input.now c.args.space.now (bucket_of (g.L.Lent.lent_bucket c.args.lent.now)))
    c.args.exit c.args.core.now c.args.core.now _ (Bad c.in-Bad.cause) (c.in-Bad.is) (λ now later. (refl, refl))

pub returns-in-Skip-clause-rest : goal.returns-in-Skip-clause-rest
returns-in-Skip-clause-rest g c =
    rest_plain g.K.Core.gives c.args.self.now (words_of (g.L.Lent.lent_bucket c.args.lent.now)) (g.C.Clock.told c.args.clock.now)
    (given_of (g.H.Handler.behavior c.args.hands.now) c.args.input.now c.args.space.now (bucket_of (g.L.Lent.lent_bucket c.args.lent.now)))
    c.args.exit c.args.core.now c.go.new.core _ (Struck c.in-Struck.act Skip) (c.in-Struck.is ∙ ap (Struck c.in-Struck.act) c.in-Skip.is) (λ now later. rw c.skipped-to.ensures at (c.go.ensures.gone (words_of (g.L.Lent.lent_bucket c.args.lent.now))))

pub returns-in-Twice-clause-rest : goal.returns-in-Twice-clause-rest
returns-in-Twice-clause-rest g c =
    rest_is g.K.Core.gives c.args.self.now (words_of (g.L.Lent.lent_bucket c.args.lent.now)) (g.C.Clock.told c.args.clock.now)
    (given_of (g.H.Handler.behavior c.args.hands.now) c.args.input.now c.args.space.now (bucket_of (g.L.Lent.lent_bucket c.args.lent.now)))
    c.args.exit c.args.core.now c.twice.new.core _ (Struck c.in-Struck.act Twice) (c.in-Struck.is ∙ ap (Struck c.in-Struck.act) c.in-Twice.is) (c.twice.ensures.twice)

pub returns-in-Alone-clause-rest : goal.returns-in-Alone-clause-rest
returns-in-Alone-clause-rest g c =
    rest_is g.K.Core.gives c.args.self.now (words_of (g.L.Lent.lent_bucket c.args.lent.now)) (g.C.Clock.told c.args.clock.now)
    (given_of (g.H.Handler.behavior c.args.hands.now) c.args.input.now c.args.space.now (bucket_of (g.L.Lent.lent_bucket c.args.lent.now)))
    c.args.exit c.args.core.now c.step_alone.new.core _ (Alone) (c.in-Alone.is) (c.step_alone.ensures.turned)
