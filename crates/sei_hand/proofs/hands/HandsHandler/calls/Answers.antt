use Rattle.std.proofs.Common.{◌≡◌, length, Some, None, subst}
use Rattle.std.specs.Option.{option_map}
use Rattle.mc_text.specs.declared.limits.Limits.{Limits}
use Rattle.sei_hand.specs.Requests.{calls_in}
use Rattle.sei_hand.proofs.ReadLaws.{no_count, read_count}
use Rattle.sei_hand.proofs.hands.HandsHandler.calls.Goals as goal

pub returns-in_err-request : goal.returns-in_err-request
returns-in_err-request c =
    let P : Limits → Type 0 = λ l. None ≡ option_map length (calls_in l c.args.input.now) in
    rw c.from_residual.ensures (subst P c.limits.ensures.limits (no_count c.limits.result c.args.input.now c.in_err-request.ensures.none))

pub returns : goal.returns
returns c =
    let P : Limits → Type 0 = λ l. Some c.calls.result ≡ option_map length (calls_in l c.args.input.now) in
    subst P c.limits.ensures.limits (read_count c.limits.result c.args.input.now c.in_ok-request.request c.calls.result c.in_ok-request.ensures.some (c.calls.ensures c.args.input.now c.in_ok-request.ensures.some.of))
