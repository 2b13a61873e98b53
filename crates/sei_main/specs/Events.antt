-- What happens while a script runs.
use Rattle.std.specs.Prelude.{ℕ, ◌==◌, if◌then◌else◌, List, [], ◌∷◌}
use Rattle.std.specs.List.{flat_map}
use Rattle.sei_traverse.specs.declared.turned.Abort.{Abort}
use Rattle.sei_main.specs.History.{Entry}

pub data Event : Type 0 where
  Entered : Entry → Event  -- a call was answered
  Sent : ℕ → List ℕ → Event  -- a message was sent to a connection
  Closed : ℕ → Event  -- a connection was closed by `quit` or a closing request
  Refused : ℕ → ℕ → Event  -- a connection was refused, by a traversal in which so many strikes fell
  Aborted : ℕ → ℕ → Abort → ℕ → Event  -- a traversal of a connection, by its number, was aborted, and so many strikes fell in it

abbrev pub entry_in : Event → List Entry
entry_in (Entered entry) = entry ∷ []
entry_in (Sent c bytes) = []
entry_in (Closed c) = []
entry_in (Refused c strikes) = []
entry_in (Aborted c t abort strikes) = []

-- the history that these events make
abbrev pub entries_of : List Event → List Entry
entries_of events = flat_map entry_in events

abbrev pub message_in : ℕ → Event → List (List ℕ)
message_in c (Entered entry) = []
message_in c (Sent d bytes) = if d == c then bytes ∷ [] else []
message_in c (Closed d) = []
message_in c (Refused d strikes) = []
message_in c (Aborted d t abort strikes) = []

-- the messages sent to connection c
abbrev pub sent_to : ℕ → List Event → List (List ℕ)
sent_to c events = flat_map (message_in c) events
