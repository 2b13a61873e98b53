-- What the code's steps make of the world.
use Rattle.std.specs.Prelude.{◌≡◌, ℕ, ◌<◌, ◌≤◌, ◌++◌, Bool, Option, Some, None, List, length, take, IfSome}
use Rattle.mc_text.specs.declared.limits.Limits.{Limits}
use Rattle.mc_text.specs.declared.request.Request.{Request}
use Rattle.mc_text.specs.Reading.{IsReading, calls_at, meaning_at}
use Rattle.mc_text.specs.Meaning.{ends_connection}
use Rattle.sei_script.specs.declared.line.ScriptLine.{ScriptLine}
use Rattle.sei_script.specs.Effects.{connection_of}
use Rattle.sei_fault.specs.declared.plan.Planned.{Planned}
use Rattle.sei_main.specs.declared.plans.CallNumber.{CallNumber}
use Rattle.sei_main.specs.Answering.{Answering}
use Rattle.sei_main.specs.Seats.{Seat, waiting}
use Rattle.sei_main.specs.Events.{Event}
use Rattle.sei_main.specs.State.{StateOf, WentOf, next_request}
use Rattle.sei_main.specs.declared.world.state.Asking.{Asking as AskingOf}
use Rattle.sei_main.specs.declared.world.state.Answered.{Answered}
use Rattle.sei_main.specs.Serving.{Asking, RequestResult, asking_at, answers_by, closing_events, seat_for}

pub record Becomes {S : Type 0} (new : StateOf S) (went : Bool) (w : WentOf S) : Type 0 where
  pub state : new ≡ w.state
  pub answered : went ≡ w.went

-- a request of so many bytes is the next one of a connection
pub record IsNextOf (limits : Limits) (seat : Seat) (size : ℕ) (request : Request) : Type 0 where
  pub within : size ≤ length (waiting seat)
  pub reading : IsReading limits (take size (waiting seat)) request
  pub next : next_request limits seat ≡ Some (size, meaning_at (take size (waiting seat)) request)

abbrev pub IsNext : Limits → Seat → Option (ℕ × Request) → Type 0
IsNext limits seat None = next_request limits seat ≡ None
IsNext limits seat (Some found) = IsNextOf limits seat found.0 found.1

abbrev pub closes_behind : Seat → ℕ → Request → Bool
closes_behind seat size request = ends_connection (meaning_at (take size (waiting seat)) request)

-- a request of these bytes, under these plans, as the code has it
abbrev pub asking_of : AskingOf → List ℕ → List (CallNumber × Planned) → Asking
asking_of q text plans = record { now = q.now; connection = q.connection; first = q.first; text = text; numbers = q.numbers; plans = plans }

-- what the code tells of calls that were answered
pub record IsResultOf {S : Type 0} (answered : Answered) (a : RequestResult S) : Type 0 where
  pub messages : answered.messages ≡ a.messages
  pub state : answered.state ≡ a.state

module _ {S : Type 0} (answering : Answering S) where
  -- what becomes of the calls of a request in the first bytes that wait
  abbrev pub answers_to : ℕ → List (CallNumber × Planned) → ℕ → S → Seat → ℕ → Request → RequestResult S
  answers_to now plans c server seat size request = answers_by answering (asking_at now plans c seat size) 0 0 server (calls_at (take size (waiting seat)) request)

  -- what happens then
  abbrev pub events_to : ℕ → List (CallNumber × Planned) → ℕ → S → Seat → ℕ → Request → List Event
  events_to now plans c server seat size request =
      let a = answers_to now plans c server seat size request in
      a.events ++ closing_events a.state c (closes_behind seat size request)

  -- and the connection behind it
  abbrev pub seat_behind : ℕ → List (CallNumber × Planned) → ℕ → S → Seat → ℕ → Request → Seat
  seat_behind now plans c server seat size request =
      let a = answers_to now plans c server seat size request in
      seat_for a.state seat size (length (calls_at (take size (waiting seat)) request)) a.messages (closes_behind seat size request)

-- a line speaks of a connection that is there, where it speaks of one
abbrev pub IsKnown : ℕ → ScriptLine → Type 0
IsKnown opens line = IfSome (connection_of line) (λ c. c < opens)
