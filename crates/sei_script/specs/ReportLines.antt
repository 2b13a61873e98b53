-- The lines of a report, each by what it tells.
use Rattle.std.specs.Prelude.{ℕ, zero, suc, Bool, true, false, List, [], ◌∷◌, ◌++◌, codes}
use Rattle.std.specs.Fmt.{decimal}
use Rattle.sei_script.specs.Escapes.{escaped}
use Rattle.sei_script.specs.declared.line.Why.{Why}
use Rattle.sei_script.specs.declared.line.Why.TheVariants.{UnfinishedLine, GeometryMissing, UnknownLine, BadLine, GeometryOutOfLimits, TooManyConnections, WrongNumber, UnknownConnection, SecondFault, TooBig}

-- a reply in the line of an entry; an empty one is `-`
abbrev pub reply_text : List ℕ → List ℕ
reply_text [] = codes "-"
reply_text (b ∷ bs) = escaped (b ∷ bs)

-- connection, number, bucket, the clock's answer and the reply
abbrev pub entry_text : ℕ → ℕ → ℕ → ℕ → List ℕ → List ℕ
entry_text c number bucket now reply =
    codes "entry " ++ decimal c ++ codes " " ++ decimal number ++ codes " " ++ decimal bucket ++ codes " " ++ decimal now ++ codes " " ++ reply_text reply ++ codes "\n"

-- a message was sent to connection c
abbrev pub sent_text : ℕ → List ℕ → List ℕ
sent_text c bytes = codes "sent " ++ decimal c ++ codes " " ++ escaped bytes ++ codes "\n"

-- connection c was closed
abbrev pub closed_text : ℕ → List ℕ
closed_text c = codes "closed " ++ decimal c ++ codes "\n"

-- connection c is refused
abbrev pub refused_text : ℕ → List ℕ
refused_text c = codes "refused " ++ decimal c ++ codes "\n"

-- an entry's line, where the history is wanted
abbrev pub history_text : Bool → ℕ → ℕ → ℕ → ℕ → List ℕ → List ℕ
history_text false c number bucket now reply = []
history_text true c number bucket now reply = entry_text c number bucket now reply

-- whether a reply has a message; an empty one has none
abbrev pub has_message : List ℕ → Bool
has_message [] = false
has_message (b ∷ bs) = true

-- the line of a reply's message, where it has one
abbrev pub message_text : ℕ → List ℕ → List ℕ
message_text c [] = []
message_text c (b ∷ bs) = sent_text c (b ∷ bs)

-- the line of a connection, where it closes
abbrev pub closing_line_text : ℕ → Bool → List ℕ
closing_line_text c false = []
closing_line_text c true = closed_text c

-- how many messages the peer of connection c accepts
abbrev pub took_text : ℕ → ℕ → List ℕ
took_text c count = codes "took " ++ decimal c ++ codes " " ++ decimal count ++ codes "\n"

-- bytes that no request took, where there are some
abbrev pub left_text : ℕ → ℕ → List ℕ
left_text c zero = []
left_text c (suc n) = codes "left " ++ decimal c ++ codes " " ++ decimal (suc n) ++ codes "\n"

-- the words of a cause
abbrev pub why_text : Why → List ℕ
why_text UnfinishedLine = codes "unfinished line"
why_text GeometryMissing = codes "geometry missing"
why_text UnknownLine = codes "unknown line"
why_text BadLine = codes "bad line"
why_text GeometryOutOfLimits = codes "geometry out of limits"
why_text TooManyConnections = codes "too many connections"
why_text WrongNumber = codes "wrong number"
why_text UnknownConnection = codes "unknown connection"
why_text SecondFault = codes "second fault"
why_text TooBig = codes "too big"

-- the one line of a script that does not read
abbrev pub refusal_text : ℕ → Why → List ℕ
refusal_text line why = codes "script line " ++ decimal line ++ codes ": " ++ why_text why ++ codes "\n"
