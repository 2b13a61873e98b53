use Rattle.std.proofs.Common.{◌≡◌, ◌≤◌, None, subst, ap, arith}
use Rattle.std.specs.Option.{option_map}
use Rattle.mc_model.specs.Views.{placed_of}
use Rattle.mc_text.specs.declared.limits.Limits.{Limits}
use Rattle.sei_hand.specs.Requests.{call_in}
use Rattle.sei_hand.proofs.ReadLaws.{no_call, read_call, call_is_read}
use Rattle.sei_hand.proofs.hands.Hands.call.Goals as goal

pub returns-in_err-request-clause-value : goal.returns-in_err-request-clause-value
returns-in_err-request-clause-value c =
    let P : Limits → Type 0 = λ l. None ≡ call_in l c.args.input.now c.args.nth in
    rw c.from_residual.ensures (subst P c.limits.ensures.limits (no_call c.limits.result c.args.input.now c.args.nth c.in_err-request.ensures.none))

pub returns-clause-value : goal.returns-clause-value
returns-clause-value c =
    let P : Limits → Type 0 = λ l. option_map (placed_of c.args.input.now) c.call.result ≡ call_in l c.args.input.now c.args.nth in
    subst P c.limits.ensures.limits (read_call c.limits.result c.args.input.now c.in_ok-request.request c.args.nth _ c.in_ok-request.ensures.some c.call.ensures.value)

pub returns-clause-read : goal.returns-clause-read
returns-clause-read c =
    let P : Limits → Type 0 = λ l. option_map (placed_of c.args.input.now) c.call.result ≡ call_in l c.args.input.now c.args.nth in
    let some : 1 ≤ c.args.self.now.buckets = omega (arith, c.limits.ensures.buckets, ap (λ (l : Limits). l.buckets) c.limits.ensures.limits) in
    call_is_read c.args.self.now c.args.input.now c.args.nth c.call.result some
    (subst P c.limits.ensures.limits (read_call c.limits.result c.args.input.now c.in_ok-request.request c.args.nth _ c.in_ok-request.ensures.some c.call.ensures.value))
