-- What becomes of a call on a server that isolates faults.
use Rattle.std.proofs.Common.{◌≡◌, ℕ, ◌<◌, Option, Some, None, take, sym, ◌∙◌}
use Rattle.std.specs.Prelude.{All, slice_get}
use Rattle.mc_model.specs.declared.geometry.Geometry.{Geometry}
use Rattle.mc_model.specs.Call.{Placed}
use Rattle.mc_model.specs.Server.{Server}
use Rattle.mc_text.specs.Meaning.{Meaning, calls_of}
use Rattle.sei_fault.specs.declared.plan.Planned.{Planned}
use Rattle.sei_main.specs.Answering.{Asked, CallResult}
use Rattle.sei_main.specs.Asked.{IsCallAt}
use Rattle.sei_main.specs.Outcomes.{CallOutcome, IsAsThere}
use Rattle.sei_main.specs.Outcomes.CallOutcome.{AsThere, TurnedAway, Stopped}
use Rattle.sei_main.specs.Seats.{Seat, waiting}
use Rattle.sei_main.specs.State.{limits_of, next_request}

-- the calls of each request that may wait at a connection that was fed bytes are those of its text
abbrev pub AsksCalls : Geometry → Type 0
AsksCalls g = (seat : Seat) (size : ℕ) (m : Meaning) → All (λ b. b < 256) seat.fed → next_request (limits_of g) seat ≡ Some (size, m) →
    All (λ b. b < 256) (take size (waiting seat)) × ((k : ℕ) (p : Placed) → slice_get (calls_of g.buckets m) k ≡ Some p → IsCallAt (limits_of g) (take size (waiting seat)) k p)

module _ {S : Type 0} (R : S → Server → Type 0) (t : Server) (a : Asked) (x : CallResult S) where
  -- without a plan it is answered as the plain server does
  pub unplanned : CallOutcome R t a x → a.plan ≡ None → IsAsThere R t a x
  unplanned (AsThere h) none = h
  unplanned (TurnedAway same r struck) none = let z : ◌≡◌ {A = Option Planned} None (Some struck.planned.0) = sym none ∙ struck.planned.1 in cc
  unplanned (Stopped abort e harmless struck) none = let z : ◌≡◌ {A = Option Planned} None (Some struck.planned.0) = sym none ∙ struck.planned.1 in cc
