-- What the hands parse is a call that a request asks, so each pass of their table serves.
use Rattle.std.proofs.Common.{◌≡◌, ℕ, List, Some, sym, subst, arith}
use Rattle.mc_model.specs.declared.geometry.Geometry.{Geometry}
use Rattle.mc_model.specs.Call.{Placed}
use Rattle.mc_model.specs.Packed.{AreBytes}
use Rattle.mc_model.specs.Server.{IsValid}
use Rattle.mc_text.specs.Fits.{HasBytes}
use Rattle.sei_stmt.specs.Handling.{Parsed}
use Rattle.tab_find.specs.Answers.{IsAsked}
use Rattle.sei_hand.specs.InputWords.{input_words}
use Rattle.sei_hand.specs.Requests.{limits_of, call_in, parsed_call, call_or_blank}
use Rattle.sei_hand.specs.ReadCall.{IsReadCall}
use Rattle.sei_hand.specs.Served.{Asks}
use Rattle.sei_hand.proofs.RequestLaws.{found_bytes}
use Rattle.sei_hand.proofs.CallLaws.{is_call}
use Rattle.sei_hand.proofs.ReadLaws.{comes_from}

pub read_is_asked : (g : Geometry) (p : Placed) → IsReadCall g p → HasBytes p → IsAsked g p.call
read_is_asked g p r b = record {
  key_bytes = b.key;
  key_short = r.key;
  block_bytes = b.block;
  block_short = r.block;
  flags = omega (arith, r.fields.flags);
  exptime = omega (arith, r.fields.exptime);
  text = r.text;
}

pub call_is_asked : (g : Geometry) (p : Placed) → IsReadCall g p → HasBytes p → Asks g (input_words g p.call) p.call
call_is_asked g p r b = record { offered = record { verb = r.fields.verb; key = r.some_key }; asked = read_is_asked g p r b; call = is_call g p r b }

pub parsed_is_asked : (g : Geometry) → IsValid g → (input : List ℕ) (nth : ℕ) (x : Parsed) → AreBytes input → parsed_call g input nth ≡ Some x → Asks g x.words (call_or_blank (call_in (limits_of g) input nth))
parsed_is_asked g valid input nth x bytes is =
    let from = comes_from g input nth x (omega (arith, valid.some_buckets)) is in
    let p = from.placed in
    subst (λ o. Asks g x.words (call_or_blank o)) (sym from.found)
    (subst (λ (y : Parsed). Asks g y.words p.call) (sym from.same) (call_is_asked g p from.read (found_bytes g input nth p bytes from.found)))
