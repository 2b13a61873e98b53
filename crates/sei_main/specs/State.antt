-- The world of a script: its server and its connections, and what a line of the script does to them.
-- Names that end in `_by` take the function that makes a step of a connection, in which a server of some kind answers.
use Rattle.std.specs.Prelude.{ℕ, zero, suc, ◌+◌, ◌*◌, Bool, true, false, ◌||◌, List, [], ◌∷◌, ◌++◌, length, slice_index_or, slice_set, if◌then◌else◌, Option, Some, None}
use Rattle.std.specs.List.{flat_map}
use Rattle.mc_model.specs.declared.geometry.Geometry.{Geometry}
use Rattle.mc_model.specs.Call.{Placed}
use Rattle.mc_model.specs.Server.{Server, server_answer}
use Rattle.mc_text.specs.declared.limits.Limits.{Limits}
use Rattle.mc_text.specs.Meaning.{Meaning, calls_of, ends_connection}
use Rattle.mc_text.specs.Front.{front}
use Rattle.sei_fault.specs.declared.plan.Planned.{Planned}
use Rattle.sei_script.specs.declared.line.ScriptLine.{ScriptLine}
use Rattle.sei_script.specs.Effects.{Effect, Opens, Feeds, Serves, SetsClock, effect_of}
use Rattle.sei_main.specs.declared.plans.CallNumber.{CallNumber}
use Rattle.sei_main.specs.History.{Entry}
use Rattle.sei_main.specs.Own.{message_of, messages_of}
use Rattle.sei_main.specs.Events.{Event, Entered, Sent, Closed, entries_of}
use Rattle.sei_main.specs.Seats.{Seat, empty_seat, waiting, fed_more, taken_more}

pub record StateOf (S : Type 0) : Type 0 where
  pub geometry : Geometry
  pub server : S
  pub seats : List Seat
  pub clock : ℕ  -- what the clock answers
  pub plans : List (CallNumber × Planned)  -- the faults that are planned for its traversals
  pub aborted : Bool  -- whether a traversal was aborted

-- a state with all events that led to it
pub record ToldOf (S : Type 0) : Type 0 where
  pub state : StateOf S
  pub events : List Event

-- what a step makes: the next state, its own events, and whether a request was answered
pub record WentOf (S : Type 0) : Type 0 where
  pub state : StateOf S
  pub events : List Event
  pub went : Bool

-- a value has eight bytes for each value word
abbrev pub limits_of : Geometry → Limits
limits_of g = record { buckets = g.buckets; value_bytes = 8 * g.value_words }

-- a call of connection c, with this number there, gets this reply at a time
abbrev pub entry_for : ℕ → ℕ → ℕ → Placed → List ℕ → Entry
entry_for now c number placed reply = record { connection = c; number = number; bucket = placed.bucket; now = now; call = placed.call; reply = reply }

-- an entry, and behind it the message of its reply
abbrev pub entry_events : Entry → List Event
entry_events entry = Entered entry ∷ flat_map (λ bytes. Sent entry.connection bytes ∷ []) (message_of entry.reply)

abbrev pub closed_events : ℕ → Bool → List Event
closed_events c closes = if closes then Closed c ∷ [] else []

-- the first whole request that waits at an open connection
abbrev pub next_request : Limits → Seat → Option (ℕ × Meaning)
next_request limits seat = if seat.closed then None else front limits (waiting seat)

abbrev pub bytes_waiting : List Seat → ℕ
bytes_waiting [] = 0
bytes_waiting (seat ∷ seats) = (if seat.closed then 0 else length (waiting seat)) + bytes_waiting seats

module _ {S : Type 0} where
  abbrev pub idle : StateOf S → WentOf S
  idle s = record { state = s; events = []; went = false }

  -- what is told behind a step
  abbrev pub told : ToldOf S → WentOf S → ToldOf S
  told t w = record { state = w.state; events = t.events ++ w.events }

  -- one step and then others
  abbrev pub behind : WentOf S → (StateOf S → WentOf S) → WentOf S
  behind w f = record { state = (f w.state).state; events = w.events ++ (f w.state).events; went = w.went || (f w.state).went }

  -- connection c; one that is not there is like one that was fed nothing
  abbrev pub seat_at : StateOf S → ℕ → Seat
  seat_at s c = slice_index_or s.seats c empty_seat

  abbrev pub fed : StateOf S → ℕ → List ℕ → StateOf S
  fed s c bytes = record s { seats = slice_set s.seats c (fed_more (seat_at s c) bytes) }

-- what one step of a connection does
abbrev pub Stepping : Type 0 → Type 0
Stepping S = StateOf S → ℕ → WentOf S

module _ {S : Type 0} (step : Stepping S) where
  -- one step of each of `count` connections from c on
  abbrev pub round_from_by : ℕ → ℕ → StateOf S → WentOf S
  round_from_by zero c s = idle s
  round_from_by (suc count) c s = behind (step s c) (round_from_by count (c + 1))

  -- a round: one step of each connection, in rising order
  abbrev pub round_by : StateOf S → WentOf S
  round_by s = round_from_by (length s.seats) 0 s

  -- rounds up to the first in which no connection went
  abbrev pub rounds_by : ℕ → StateOf S → WentOf S
  rounds_by zero s = idle s
  rounds_by (suc most) s = if (round_by s).went then behind (round_by s) (rounds_by most) else round_by s

  -- each round that goes takes a byte
  abbrev pub drained_by : StateOf S → WentOf S
  drained_by s = rounds_by (bytes_waiting s.seats + 1) s

  -- what a line of a script does, by its effect
  abbrev pub done_by : StateOf S → Effect → WentOf S
  done_by s (Opens c mode) = idle (record s { seats = s.seats ++ empty_seat ∷ [] })
  done_by s (Feeds c bytes) = idle (fed s c bytes)
  done_by s Serves = drained_by s
  done_by s (SetsClock now) = idle (record s { clock = now })
  done_by s other = idle s

  -- what a line of a script does
  unfoldable pub led_by : StateOf S → ScriptLine → WentOf S
  led_by s line = done_by s (effect_of line)

-- the same of the plain server, which knows no faults
abbrev pub State : Type 0
State = StateOf Server

abbrev pub Told : Type 0
Told = ToldOf Server

abbrev pub Went : Type 0
Went = WentOf Server

-- calls of connection c are answered at a time, numbered from `number` on: the server behind them, and what happens
abbrev pub answers : ℕ → ℕ → ℕ → Server → List Placed → Server × List Event
answers now c number server [] = (server, [])
answers now c number server (placed ∷ later) =
    let answer = server_answer server now placed in
    let rest = answers now c (number + 1) answer.0 later in
    (rest.0, entry_events (entry_for now c number placed answer.1) ++ rest.1)

-- connection c, which stands so, takes a request of so many bytes: all its calls are answered
abbrev pub takes_request : State → ℕ → Seat → ℕ → Meaning → Went
takes_request s c seat size meaning =
    let calls = calls_of s.geometry.buckets meaning in
    let a = answers s.clock c seat.entered s.server calls in
    let closes = ends_connection meaning in
    record {
      state = record s {
        server = a.0;
        seats = slice_set s.seats c (taken_more seat size (length calls) (length (messages_of (entries_of a.1))) closes);
      };
      events = a.1 ++ closed_events c closes;
      went = true;
    }

abbrev pub step_front : State → ℕ → Seat → Option (ℕ × Meaning) → Went
step_front s c seat None = idle s
step_front s c seat (Some request) = takes_request s c seat request.0 request.1

-- one step of a connection
abbrev pub step : State → ℕ → Went
step s c = step_front s c (seat_at s c) (next_request (limits_of s.geometry) (seat_at s c))

abbrev pub round_from : ℕ → ℕ → State → Went
round_from = round_from_by step

abbrev pub round : State → Went
round = round_by step

abbrev pub rounds : ℕ → State → Went
rounds = rounds_by step
