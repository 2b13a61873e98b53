-- What a pass works on, and what stays while it works.
use Rattle.std.specs.Prelude.{ℕ, ◌+◌, Bool, List, Option, Some, slice_index, slice_set}
use Rattle.sei_code.specs.Kept.{Kept, pushed}
use Rattle.sei_code.specs.declared.coded.Coded.{Coded}
use Rattle.sei_log.specs.declared.log.Change.{Change}
use Rattle.sei_log.specs.declared.notes.Notes.{Notes}
use Rattle.sei_fault.specs.declared.cause.AbortCause.{AbortCause}
use Rattle.sei_fault.specs.Tree.{Tree}
use Rattle.sei_fault.specs.Tree.Tree.{Done, Ask}
use Rattle.sei_fault.specs.Question.Question.{Written}
use Rattle.sei_stmt.specs.declared.stmt.Stmt.{Stmt}
use Rattle.sei_stmt.specs.Handling.{Parsed, refilled}

-- what a pass works on: its registers, its lists and its output code, and how many statements it made. The words of the
-- bucket that is lent to it, or none if no bucket is. Its log, and the notes
pub record Machine : Type 0 where
  pub registers : List ℕ
  pub input : Kept ℕ
  pub output : Kept ℕ
  pub bytes : Kept ℕ
  pub code : Option ℕ
  pub made : ℕ
  pub words : List ℕ
  pub log : Kept Change
  pub notes : Notes

-- what does not change in a statement
pub record Setting : Type 0 where
  -- whether the noted answers are read, as in the second pass, or made, as in the first
  pub reading : Bool
  pub statements : List Stmt
  -- whether the code of the input is the sealed one
  pub intact : Bool
  -- the sealed call of the input, if there is one
  pub parsed : Option Parsed
  -- the number of the message that is answered, and the bytes that output words stand for
  pub answer : ℕ
  pub rendered : List ℕ → Option (List ℕ)
  -- the number of the bucket that is lent, how many slots it has, and which are free in which words at which moment
  pub lent : Option ℕ
  pub slots : ℕ
  pub is_free : List ℕ → ℕ → ℕ → Bool
  -- how many statements a pass may make
  pub budget : ℕ
  -- what the clock answers
  pub now : ℕ

-- where a pass goes on
pub data Outcome : Type 0 where
  Next : (index : ℕ) → Outcome
  Halted : Outcome
  Bad : (cause : AbortCause) → Outcome

-- a machine, and where the pass goes on from there
pub record After : Type 0 where
  pub machine : Machine
  pub outcome : Outcome

-- what a register holds
abbrev pub register : Machine → ℕ → ℕ
register m r = slice_index m.registers r

-- Notes with one noted answer more.

abbrev pub time_noted : Notes → Coded → Notes
time_noted notes note = record notes { now = Some note }

abbrev pub slot_noted : Notes → Coded → Notes
slot_noted notes note = record notes { slot = Some note }

-- A machine with another part. Machines are built by these alone, so that a machine may get a part more.

-- another word in a register
abbrev pub with_register : Machine → ℕ → ℕ → Machine
with_register m r v = record m { registers = slice_set m.registers r v }

-- these input words
abbrev pub with_input : Machine → List ℕ → Machine
with_input m words = record m { input = refilled m.input words }

-- one output word more
abbrev pub emitted : Machine → ℕ → Machine
emitted m word = record m { output = pushed m.output word }

-- these output bytes
abbrev pub with_bytes : Machine → List ℕ → Machine
with_bytes m bytes = record m { bytes = refilled m.bytes bytes }

-- this output code
abbrev pub with_code : Machine → ℕ → Machine
with_code m code = record m { code = Some code }

-- one statement more is counted
abbrev pub one_made : Machine → Machine
one_made m = record m { made = m.made + 1 }

-- another word at an address, and one more entry in the log, whatever its content
abbrev pub stored : Machine → ℕ → Change → ℕ → Machine
stored m address entry word = record m { words = slice_set m.words address word; log = pushed m.log entry }

-- other words
abbrev pub with_words : Machine → List ℕ → Machine
with_words m words = record m { words = words }

-- another log
abbrev pub with_log : Machine → Kept Change → Machine
with_log m log = record m { log = log }

-- other notes
abbrev pub with_notes : Machine → Notes → Machine
with_notes m notes = record m { notes = notes }

-- a time is noted, and a slot, whatever the notes contain
abbrev pub note_time : Machine → Coded → Machine
note_time m note = with_notes m (time_noted m.notes note)

abbrev pub note_slot : Machine → Coded → Machine
note_slot m note = with_notes m (slot_noted m.notes note)

-- Ends of a statement.

abbrev pub at_outcome : Machine → Outcome → After
at_outcome m o = record { machine = m; outcome = o }

abbrev pub ends : Machine → Outcome → Tree After
ends m o = Done (at_outcome m o)

-- the register gets the value that is written, and the pass goes on to the next statement
abbrev pub assign : ℕ → Machine → ℕ → ℕ → Tree After
assign i m to v = Ask (Written v) (λ w. ends (with_register m to w) (Next (i + 1)))
