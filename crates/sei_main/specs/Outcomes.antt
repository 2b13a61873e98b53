-- What becomes of a call on a server that stands for a plain one: what the plain server does, or a fault struck.
use Rattle.std.specs.Prelude.{◌≡◌, ℕ, ◌^◌, ◌<◌, ◌⊎◌, List, [], Option, Some, None, All}
use Rattle.mc_model.specs.declared.geometry.Geometry.{Geometry}
use Rattle.mc_model.specs.Server.{Server, server_answer}
use Rattle.sei_fault.specs.declared.plan.Planned.{Planned}
use Rattle.sei_traverse.specs.declared.turned.Abort.{Abort}
use Rattle.sei_traverse.specs.declared.turned.State.TheVariants.{Refused, Aborted}
use Rattle.sei_main.specs.declared.world.service.Entered.{Entered}
use Rattle.sei_main.specs.declared.world.service.Served.{Served}
use Rattle.sei_main.specs.Answering.{Asked, Answering, CallResult, plain_served}
use Rattle.sei_main.specs.Asked.{IsCallAt}
use Rattle.sei_main.specs.State.{limits_of}

-- a call of a request in bytes
pub record IsAskedOf (g : Geometry) (a : Asked) : Type 0 where
  pub call : IsCallAt (limits_of g) a.text a.nth a.placed
  pub bytes : All (λ b. b < 256) a.text
  pub small : a.now < 2 ^ 64

-- a call that is refused: nothing was done for it
abbrev pub refused_served : Served
refused_served = record { entered = None; message = []; state = Refused }

-- a fault was planned
abbrev pub HasPlan : Option Planned → Type 0
HasPlan plan = (q : Planned) × (plan ≡ Some q)

module _ {S : Type 0} (R : S → Server → Type 0) (t : Server) (a : Asked) (x : CallResult S) where
  abbrev pub reply : List ℕ
  reply = (server_answer t a.now a.placed).1

  abbrev pub entry : Entered
  entry = record { now = a.now; reply = reply }

  -- as the plain server does
  pub record IsAsThere : Type 0 where
    pub same : x.served ≡ plain_served a.now reply
    pub server : R x.server (server_answer t a.now a.placed).0

  -- a fault was planned for its traversal, and struck
  pub record PlannedFaultStruck : Type 0 where
    pub struck : 0 < x.strikes
    pub planned : HasPlan a.plan

  -- entered with the plain server's reply, at the time, or not at all; and nothing is sent but that reply of an entry
  pub record IsHarmless : Type 0 where
    pub enters : (x.served.entered ≡ None) ⊎ (x.served.entered ≡ Some entry)
    pub sends : (x.served.message ≡ []) ⊎ ((x.served.entered ≡ Some entry) × (x.served.message ≡ reply))

  -- it does as the plain server; or a planned fault struck, and it is refused with nothing entered, sent or changed, or it aborts
  -- and is harmless
  pub data CallOutcome : Type 0 where
    AsThere : IsAsThere → CallOutcome
    TurnedAway : x.served ≡ refused_served → R x.server t → PlannedFaultStruck → CallOutcome
    Stopped : (abort : Abort) → x.served.state ≡ Aborted abort → IsHarmless → PlannedFaultStruck → CallOutcome

-- a server, related to a plain one, has one of these outcomes for each call, and is related behind it
abbrev pub IsolatesFaults : {S : Type 0} → Answering S → Geometry → (S → Server → Type 0) → Type 0
IsolatesFaults {S} answering g R = (s : S) (t : Server) (a : Asked) → IsAskedOf g a → R s t → CallOutcome R t a (answering s a)
