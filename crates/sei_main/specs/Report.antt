-- The report of a run.
use Rattle.std.specs.Prelude.{ℕ, ◌+◌, Bool, List, [], ◌∷◌, ◌++◌, length, Option, Some, None}
use Rattle.std.specs.List.{flat_map}
use Rattle.sei_script.specs.ReportLines.{sent_text, closed_text, history_text, took_text, left_text, refused_text, message_text}
use Rattle.sei_script.specs.AbortLines.{abort_text, end_text}
use Rattle.sei_script.specs.declared.line.ScriptLine.{ScriptLine}
use Rattle.sei_traverse.specs.declared.turned.State.{State}
use Rattle.sei_traverse.specs.declared.turned.State.TheVariants.{Went, Finished, Refused as RefusedState, Aborted as AbortedState}
use Rattle.sei_main.specs.declared.world.service.Entered.{Entered as EntryOf}
use Rattle.sei_main.specs.declared.world.service.Served.{Served}
use Rattle.sei_main.specs.Seats.{Seat, waiting}
use Rattle.sei_main.specs.State.{Stepping, StateOf, ToldOf, led_by}
use Rattle.sei_main.specs.Events.{Event, Entered, Sent, Closed, Refused, Aborted}

-- the line of an event; an entry has one where the history is wanted
abbrev pub text_of : Bool → Event → List ℕ
text_of history (Entered entry) = history_text history entry.connection entry.number entry.bucket entry.now entry.reply
text_of history (Sent c bytes) = sent_text c bytes
text_of history (Closed c) = closed_text c
text_of history (Refused c strikes) = refused_text c
text_of history (Aborted c t abort strikes) = abort_text c t abort.phase abort.cause

-- the lines of a call: of its entry, of its message, and of the end of its traversal

abbrev pub entered_text : Bool → ℕ → ℕ → ℕ → Option EntryOf → List ℕ
entered_text history c number bucket None = []
entered_text history c number bucket (Some e) = history_text history c number bucket e.now e.reply

abbrev pub ended_text : ℕ → ℕ → State → List ℕ
ended_text c number Went = []
ended_text c number Finished = []
ended_text c number RefusedState = refused_text c
ended_text c number (AbortedState abort) = abort_text c number abort.phase abort.cause

abbrev pub served_text : Bool → ℕ → ℕ → ℕ → Served → List ℕ
served_text history c number bucket s =
    entered_text history c number bucket s.entered ++ (message_text c s.message ++ ended_text c number s.state)

-- the lines of these events, in order
abbrev pub events_text : Bool → List Event → List ℕ
events_text history events = flat_map (text_of history) events

-- how many messages a connection's peer accepts, and how many bytes no request took, if any
abbrev pub seat_text : ℕ → Seat → List ℕ
seat_text c seat = took_text c seat.sent ++ left_text c (length (waiting seat))

-- the last lines of connections from c on
abbrev pub seats_text : ℕ → List Seat → List ℕ
seats_text c [] = []
seats_text c (seat ∷ seats) = seat_text c seat ++ seats_text (c + 1) seats

-- the last lines of a report: of each connection, and of the end
abbrev pub closing_text : {S : Type 0} → StateOf S → List ℕ
closing_text state = seats_text 0 state.seats ++ end_text state.aborted

-- what a line of a script makes the report say
abbrev pub line_text_by : {S : Type 0} → Stepping S → Bool → StateOf S → ScriptLine → List ℕ
line_text_by stepping history state line = events_text history (led_by stepping state line).events

-- the report of a run: the lines of its events, and the last ones
abbrev pub report_of : {S : Type 0} → Bool → ToldOf S → List ℕ
report_of history t = events_text history t.events ++ closing_text t.state
