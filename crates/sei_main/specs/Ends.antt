-- How traversals of a run may end otherwise than well.
use Rattle.std.specs.Prelude.{◌≡◌, ◌<◌, List, [], ◌∷◌, ⊤, Bool, true, false}
use Rattle.sei_main.specs.Events.{Event, Entered, Sent, Closed, Refused, Aborted}

-- whether a traversal was aborted
abbrev pub has_abort : List Event → Bool
has_abort [] = false
has_abort (Entered entry ∷ later) = has_abort later
has_abort (Sent c bytes ∷ later) = has_abort later
has_abort (Closed c ∷ later) = has_abort later
has_abort (Refused c strikes ∷ later) = has_abort later
has_abort (Aborted c t abort strikes ∷ later) = true

-- an abort is the last event
abbrev pub NothingAfterAbort : List Event → Type 0
NothingAfterAbort [] = ⊤
NothingAfterAbort (Entered entry ∷ later) = NothingAfterAbort later
NothingAfterAbort (Sent c bytes ∷ later) = NothingAfterAbort later
NothingAfterAbort (Closed c ∷ later) = NothingAfterAbort later
NothingAfterAbort (Refused c strikes ∷ later) = NothingAfterAbort later
NothingAfterAbort (Aborted c t abort strikes ∷ later) = later ≡ []

-- a connection is refused, and a traversal aborted, only where a strike fell in that traversal
abbrev pub IsOfStruck : Event → Type 0
IsOfStruck (Entered entry) = ⊤
IsOfStruck (Sent c bytes) = ⊤
IsOfStruck (Closed c) = ⊤
IsOfStruck (Refused c strikes) = 0 < strikes
IsOfStruck (Aborted c t abort strikes) = 0 < strikes
