-- How the results of two passes are compared: each comparison is one test.
use Rattle.std.specs.Prelude.{ℕ, Bool, true, false, ◌&&◌, ◌==◌, List, [], Option, Some, None, slice_get}
use Rattle.std.specs.Str.{bytes_eq}
use Rattle.std.specs.declared.result.Result.{Result}
use Rattle.std.specs.declared.result.Result.TheVariants.{Ok, Err}
use Rattle.sei_code.specs.Codes.{message_code}
use Rattle.sei_code.specs.declared.modes.Mode.{Mode}
use Rattle.sei_code.specs.declared.modes.Mode.TheVariants.{Plain, Coded}
use Rattle.sei_fault.specs.declared.cause.AbortCause.{AbortCause}
use Rattle.sei_fault.specs.declared.cause.AbortCause.TheVariants.{Range}
use Rattle.sei_fault.specs.Question.Question.{Value, Test}
use Rattle.sei_fault.specs.Tree.{Tree}
use Rattle.sei_fault.specs.Tree.Tree.{Done, Ask}
use Rattle.sei_log.specs.declared.log.Change.{Change}

-- one test, whose answer is the end
abbrev pub tested : Bool → Tree Bool
tested b = Ask (Test b) (λ yes. Done yes)

-- both changes are there, with the same address, the same old word and the same new word
abbrev pub same_change : Option Change → Option Change → Bool
same_change None o = false
same_change (Some a) None = false
same_change (Some a) (Some b) = a.address == b.address && a.was == b.was && a.becomes == b.becomes

-- the entries of two logs at a place
abbrev pub entry_tree : List Change → List Change → ℕ → Tree Bool
entry_tree one two i = tested (same_change (slice_get one i) (slice_get two i))

-- the word at a change's address, if there is one, is read, and tested to be the new one
abbrev pub word_read : Change → Option ℕ → Tree (Result Bool AbortCause)
word_read c None = Done (Err (Range c.address))
word_read c (Some word) = Ask (Value word) (λ w. Ask (Test (w == c.becomes)) (λ yes. Done (Ok yes)))

abbrev pub word_tree : List ℕ → Change → Tree (Result Bool AbortCause)
word_tree words c = word_read c (slice_get words c.address)

-- the word of the change at a place of a log; if there is none, nothing is asked
abbrev pub word_at : List ℕ → Option Change → Tree (Result Bool AbortCause)
word_at words None = Done (Ok true)
word_at words (Some c) = word_tree words c

-- the outcome without a strike
abbrev pub word_is : Change → Option ℕ → Result Bool AbortCause
word_is c None = Err (Range c.address)
word_is c (Some word) = Ok (word == c.becomes)

abbrev pub word_outcome : List ℕ → Option Change → Result Bool AbortCause
word_outcome words None = Ok true
word_outcome words (Some c) = word_is c (slice_get words c.address)

-- both codes are there, and are equal
abbrev pub same_code : Option ℕ → Option ℕ → Bool
same_code None o = false
same_code (Some a) None = false
same_code (Some a) (Some b) = a == b

-- two replies, each by its code and its bytes: both codes are there, and are equal, and so are the bytes
abbrev pub same_reply : Option ℕ → List ℕ → Option ℕ → List ℕ → Bool
same_reply one first two second = same_code one two && bytes_eq first second

abbrev pub codes_tree : Option ℕ → List ℕ → Option ℕ → List ℕ → Tree Bool
codes_tree one first two second = tested (same_reply one first two second)

-- the bytes that are sent for a reply that is message number `answer` of its connection. In plain mode they are its
-- bytes alone. No coded connection is begun yet; the other line is for the frame of its message
abbrev pub wire_of : Mode → ℕ → List ℕ → List ℕ
wire_of Plain answer reply = reply
wire_of Coded answer reply = []

-- the bytes are what is sent for those that the pass made, and its code is theirs as the message of this number
abbrev pub is_message : Mode → ℕ → Option ℕ → List ℕ → List ℕ → Bool
is_message mode answer code first bytes = same_code code (Some (message_code answer bytes)) && bytes_eq bytes (wire_of mode answer first)

abbrev pub wire_tree : Mode → ℕ → Option ℕ → List ℕ → List ℕ → Tree Bool
wire_tree mode answer code first bytes = tested (is_message mode answer code first bytes)
