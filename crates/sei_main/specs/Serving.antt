-- The world of a script that may plan faults: what becomes of each call is told by `answering`.
use Rattle.std.specs.Prelude.{ℕ, ◌+◌, Bool, true, false, List, [], ◌∷◌, ◌++◌, length, take, slice_set, if◌then◌else◌, Option, Some, None}
use Rattle.std.specs.List.{flat_map}
use Rattle.mc_model.specs.Call.{Placed}
use Rattle.mc_text.specs.Meaning.{Meaning, calls_of, ends_connection}
use Rattle.sei_fault.specs.declared.plan.Planned.{Planned}
use Rattle.sei_traverse.specs.declared.turned.State.{State}
use Rattle.sei_traverse.specs.declared.turned.State.TheVariants.{Went, Finished, Refused, Aborted}
use Rattle.sei_main.specs.declared.plans.CallNumber.{CallNumber}
use Rattle.sei_main.specs.declared.world.service.Entered.{Entered}
use Rattle.sei_main.specs.declared.world.service.Numbers.{Numbers}
use Rattle.sei_main.specs.declared.world.service.Served.{Served}
use Rattle.sei_main.specs.Answering.{Asked, Answering, asked}
use Rattle.sei_main.specs.Events.{Event, Entered as EnteredEvent, Sent, Refused as RefusedEvent, Aborted as AbortedEvent}
use Rattle.sei_main.specs.Own.{message_of}
use Rattle.sei_main.specs.Plans.{plan_at}
use Rattle.sei_main.specs.Seats.{Seat, waiting, taken_more, stopped, saturated}
use Rattle.sei_main.specs.State.{StateOf, WentOf, limits_of, entry_for, closed_events, next_request, idle, seat_at}

-- a request of a connection, whose calls are answered: when, the number of its first call there, its bytes, its own
-- number and that of its first message, and the faults that are planned
pub record Asking : Type 0 where
  pub now : ℕ
  pub connection : ℕ
  pub first : ℕ
  pub text : List ℕ
  pub numbers : Numbers
  pub plans : List (CallNumber × Planned)

-- the request in the first `size` bytes that wait at a connection
abbrev pub asking_at : ℕ → List (CallNumber × Planned) → ℕ → Seat → ℕ → Asking
asking_at now plans c seat size = record {
  now = now;
  connection = c;
  first = seat.entered;
  text = take size (waiting seat);
  numbers = record { request = seat.requests; reply = seat.sent };
  plans = plans;
}

-- its numbers behind so many messages
abbrev pub numbers_behind : Numbers → ℕ → Numbers
numbers_behind n messages = record { request = n.request; reply = saturated (n.reply + messages) }

-- call number `nth` of it, behind so many messages
abbrev pub asked_in : Asking → ℕ → ℕ → Placed → Asked
asked_in q nth messages placed = asked q.now q.text nth placed (numbers_behind q.numbers messages) (plan_at q.plans q.connection (q.first + nth))

-- what happens with a call of connection c, with this number there: its entry, its message, and how its traversal ended

abbrev pub entered_events : ℕ → ℕ → Placed → Option Entered → List Event
entered_events c number placed None = []
entered_events c number placed (Some e) = EnteredEvent (entry_for e.now c number placed e.reply) ∷ []

abbrev pub sent_events : ℕ → List ℕ → List Event
sent_events c message = flat_map (λ bytes. Sent c bytes ∷ []) (message_of message)

abbrev pub ended_events : ℕ → ℕ → State → ℕ → List Event
ended_events c number Went strikes = []
ended_events c number Finished strikes = []
ended_events c number Refused strikes = RefusedEvent c strikes ∷ []
ended_events c number (Aborted abort) strikes = AbortedEvent c number abort strikes ∷ []

abbrev pub served_events : ℕ → ℕ → Placed → Served → ℕ → List Event
served_events c number placed s strikes = entered_events c number placed s.entered ++ (sent_events c s.message ++ ended_events c number s.state strikes)

-- calls of a request were answered: the server behind them, what happened, how many messages of the request were sent so
-- far, and how the last traversal ended
pub record RequestResult (S : Type 0) : Type 0 where
  pub server : S
  pub events : List Event
  pub messages : ℕ
  pub state : State

-- a connection behind a request of so many bytes and calls, and so many messages
abbrev pub seat_for : State → Seat → ℕ → ℕ → ℕ → Bool → Seat
seat_for Finished seat size calls messages closes = taken_more seat size calls messages closes
seat_for state seat size calls messages closes = stopped seat messages

abbrev pub closing_events : State → ℕ → Bool → List Event
closing_events Finished c closes = closed_events c closes
closing_events state c closes = []

abbrev pub is_abort : State → Bool
is_abort Went = false
is_abort Finished = false
is_abort Refused = false
is_abort (Aborted abort) = true

-- a traversal that did not finish is the last one of its connection
abbrev pub is_stopped : State → Bool
is_stopped Went = true
is_stopped Finished = false
is_stopped Refused = true
is_stopped (Aborted abort) = true

module _ {S : Type 0} where
  -- behind a traversal that finished come the later ones, and behind another one none
  abbrev pub on_with : RequestResult S → RequestResult S → State → RequestResult S
  on_with here later Finished = record { server = later.server; events = here.events ++ later.events; messages = later.messages; state = later.state }
  on_with here later state = here

module _ {S : Type 0} (answering : Answering S) where
  -- call number `nth` of a request, behind so many messages
  abbrev pub answer_in : Asking → ℕ → ℕ → S → Placed → RequestResult S
  answer_in q nth messages server placed =
      let a = answering server (asked_in q nth messages placed) in
      record {
        server = a.server;
        events = served_events q.connection (q.first + nth) placed a.served a.strikes;
        messages = messages + length (message_of a.served.message);
        state = a.served.state;
      }

  -- its calls from number `nth` on
  abbrev pub answers_by : Asking → ℕ → ℕ → S → List Placed → RequestResult S
  answers_by q nth messages server [] = record { server = server; events = []; messages = messages; state = Finished }
  answers_by q nth messages server (placed ∷ later) =
      let here = answer_in q nth messages server placed in
      on_with here (answers_by q (nth + 1) here.messages here.server later) here.state

  -- connection c, which stands so, takes a request of so many bytes
  abbrev pub takes_request_by : StateOf S → ℕ → Seat → ℕ → Meaning → WentOf S
  takes_request_by s c seat size meaning =
      let calls = calls_of s.geometry.buckets meaning in
      let a = answers_by (asking_at s.clock s.plans c seat size) 0 0 s.server calls in
      record {
        state = record s {
          server = a.server;
          seats = slice_set s.seats c (seat_for a.state seat size (length calls) a.messages (ends_connection meaning));
          aborted = is_abort a.state;
        };
        events = a.events ++ closing_events a.state c (ends_connection meaning);
        went = true;
      }

  abbrev pub step_front_by : StateOf S → ℕ → Seat → Option (ℕ × Meaning) → WentOf S
  step_front_by s c seat None = idle s
  step_front_by s c seat (Some request) = takes_request_by s c seat request.0 request.1

  -- one step of a connection; behind an abort none is made
  abbrev pub step_by : StateOf S → ℕ → WentOf S
  step_by s c = if s.aborted then idle s else step_front_by s c (seat_at s c) (next_request (limits_of s.geometry) (seat_at s c))
