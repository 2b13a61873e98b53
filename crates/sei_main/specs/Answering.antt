-- What a server is asked, and what becomes of a call.
use Rattle.std.specs.Prelude.{ℕ, List, Option, Some}
use Rattle.mc_model.specs.Call.{Placed}
use Rattle.mc_model.specs.Server.{Server, server_answer}
use Rattle.sei_fault.specs.declared.plan.Planned.{Planned}
use Rattle.sei_traverse.specs.declared.turned.State.TheVariants.{Finished}
use Rattle.sei_main.specs.declared.world.service.Numbers.{Numbers}
use Rattle.sei_main.specs.declared.world.service.Served.{Served}

pub record Asked : Type 0 where
  pub now : ℕ  -- the time
  pub text : List ℕ  -- the bytes of the request
  pub nth : ℕ  -- the number of the call in it, from 0
  pub placed : Placed  -- the call
  pub numbers : Numbers
  pub plan : Option Planned  -- the fault that is planned for its traversal

abbrev pub asked : ℕ → List ℕ → ℕ → Placed → Numbers → Option Planned → Asked
asked now text nth placed numbers plan = record { now = now; text = text; nth = nth; placed = placed; numbers = numbers; plan = plan }

-- the server behind a call, what became of the call, and how many strikes fell in its traversal
pub record CallResult (S : Type 0) : Type 0 where
  pub server : S
  pub served : Served
  pub strikes : ℕ

-- a server of some kind, by what becomes of each call that it is asked
abbrev pub Answering : Type 0 → Type 0
Answering S = S → Asked → CallResult S

-- a call that is entered at a time, its reply sent, and finished
abbrev pub plain_served : ℕ → List ℕ → Served
plain_served now reply = record { entered = Some (record { now = now; reply = reply }); message = reply; state = Finished }

-- the plain server knows no faults
abbrev pub plain_answering : Answering Server
plain_answering s a = let answer = server_answer s a.now a.placed in record { server = answer.0; served = plain_served a.now answer.1; strikes = 0 }
