-- What the traversal of a call is to do.
use Rattle.std.specs.Prelude.{ℕ, List, Some}
use Rattle.mc_model.specs.declared.geometry.Geometry.{Geometry}
use Rattle.mc_model.specs.Call.{Placed}
use Rattle.sei_pass.specs.declared.given.Sealed.{Sealed}
use Rattle.sei_pass.specs.Spaces.{pass_space}
use Rattle.sei_hand.specs.HandsBehavior.{hands_behavior}
use Rattle.sei_hand.specs.Requests.{parsed_of}
use Rattle.sei_traverse.specs.CallContext.{CallContext}

-- a call of a sealed text, on these words of its bucket, at a time
abbrev pub context_for : Geometry → List ℕ → Sealed → Placed → List ℕ → ℕ → CallContext
context_for g text sealed p taken now = record {
  behavior = hands_behavior g;
  input = text;
  space = pass_space g;
  sealed = sealed;
  call = parsed_of g p;
  taken = taken;
  clock = Some now;
}
