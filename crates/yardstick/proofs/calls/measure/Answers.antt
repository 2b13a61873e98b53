use Rattle.std.proofs.Common.{◌≡◌, ◌∙◌, ℕ, List, sym, ap, subst}
use Rattle.std.specs.Prelude.{IfOk}
use Rattle.mc_model.specs.declared.geometry.Geometry.{Geometry}
use Rattle.mc_model.specs.Server.{IsValid}
use Rattle.sei_pass.specs.Spaces.{pass_space}
use Rattle.sei_words.specs.Words.{BucketWords}
use Rattle.yardstick.specs.Calls.{MadeUnder}
use Rattle.yardstick.specs.Requests.{request_text}
use Rattle.yardstick.proofs.calls.measure.Goals as goal

pub measured-requires-clause-valid : goal.measured-requires-clause-valid
measured-requires-clause-valid c = subst IsValid (sym c.in_ok-hands.ensures) c.requires

pub measured-requires-clause-space : goal.measured-requires-clause-space
measured-requires-clause-space c = c.in_ok-traversal.ensures.space ∙ ap pass_space (sym c.in_ok-hands.ensures)

pub measured-requires-clause-words : goal.measured-requires-clause-words
measured-requires-clause-words c = ap (λ (w : BucketWords). w.geometry) c.in_ok-words.ensures.fresh ∙ sym c.in_ok-hands.ensures

pub returns-clause-made : goal.returns-clause-made
returns-clause-made c =
    let order = c.args.order.now in
    subst (λ (g : Geometry). IfOk c.measured.result (λ made. MadeUnder order.core g (request_text order.command order.key order.value) order.calls made.steps)) c.in_ok-hands.ensures
    (subst (λ (text : List ℕ). IfOk c.measured.result (λ made. MadeUnder order.core c.in_ok-hands.hands text order.calls made.steps)) (c.deref-2.ensures.value ∙ c.in_ok-text.ensures) c.measured.ensures.made)

pub returns-clause-calls : goal.returns-clause-calls
returns-clause-calls c = c.measured.ensures.calls
