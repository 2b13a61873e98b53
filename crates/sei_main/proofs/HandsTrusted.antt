-- The call context of each call for the hands of a valid geometry may be trusted.
use Rattle.std.proofs.Common.{◌≡◌, ℕ, ◌^◌, ◌<◌, List, Option, Some, refl}
use Rattle.mc_model.specs.declared.geometry.Geometry.{Geometry}
use Rattle.mc_model.specs.Bucket.{Bucket}
use Rattle.mc_model.specs.Call.{Placed}
use Rattle.mc_model.specs.Packed.{AreBytes}
use Rattle.mc_model.specs.Server.{IsValid}
use Rattle.sei_stmt.specs.Handling.{Parsed}
use Rattle.sei_pass.specs.declared.given.Sealed.{Sealed}
use Rattle.sei_pass.specs.Setting.{sealed_call}
use Rattle.sei_hand.specs.Requests.{parsed_of, parsed_call}
use Rattle.sei_hand.specs.Served.{Stands, answer_of, space_for}
use Rattle.sei_hand.proofs.PublicHands.{sound_hands}
use Rattle.sei_traverse.specs.CallContext.{CallContext, TellsTime}
use Rattle.sei_traverse.specs.Sound.{IsServedBy}
use Rattle.sei_traverse.specs.Trusted.{IsTrusted}
use Rattle.sei_traverse.proofs.Public.{sound_is_trusted}
use Rattle.sei_main.specs.CallContexts.{context_for}

-- the call context of a call, by a clock that may tell its answer
abbrev pub context_told : Geometry → List ℕ → Sealed → Placed → List ℕ → Option ℕ → CallContext
context_told g text sealed p taken clock = record (context_for g text sealed p taken 0) { clock = clock }

-- the call is the sealed one, where there is one
abbrev pub IsSealedCall : Geometry → List ℕ → Sealed → Placed → Type 0
IsSealedCall g text sealed p = (x : Parsed) → sealed_call (parsed_call g text) sealed.nth ≡ Some x → parsed_of g p ≡ x

module _ (g : Geometry) (valid : IsValid g) (text : List ℕ) (bytes : AreBytes text) (sealed : Sealed) (p : Placed) (is : IsSealedCall g text sealed p)
    (taken : List ℕ) (b : Bucket) (held : Stands g taken b) where
  -- the hands serve it
  pub hands_serve : (clock : Option ℕ) → TellsTime clock → IsServedBy (space_for g) (Stands g) (Stands g) (answer_of g) (context_told g text sealed p taken clock)
  hands_serve clock tells = record {
    handler = sound_hands g valid;
    bytes = bytes;
    call = is;
    space = λ nth e. refl;
    clock = tells;
    held = b;
    begins = held;
  }

  -- so it may be trusted
  pub hands_are_trusted_by : (clock : Option ℕ) → TellsTime clock → IsTrusted (context_told g text sealed p taken clock)
  hands_are_trusted_by clock tells = sound_is_trusted (space_for g) (Stands g) (Stands g) (answer_of g) (context_told g text sealed p taken clock) (hands_serve clock tells)

  -- where the clock tells a time of 64 bits
  pub hands_are_trusted : (now : ℕ) → now < 2 ^ 64 → IsTrusted (context_for g text sealed p taken now)
  hands_are_trusted now small = hands_are_trusted_by (Some now) small

-- the sealed call, where there is one
