-- What a pass comes to, at each time that the clock may answer.
use Rattle.std.specs.Prelude.{◌≡◌, ℕ, ◌^◌, ◌<◌, true, Option, Some, None}
use Rattle.sei_code.specs.Codes.{message_code}
use Rattle.sei_code.specs.Coded.{sealed}
use Rattle.sei_code.specs.declared.coded.Coded.{Coded}
use Rattle.sei_log.specs.declared.notes.Notes.{Notes}
use Rattle.sei_stmt.specs.Machine.{Machine, Setting, After, with_notes, at_outcome}
use Rattle.sei_stmt.specs.Honest.{after, HonestRun}
use Rattle.sei_stmt.specs.Weights.{weighed_after}
use Rattle.sei_stmt.specs.Order.{stage_after, finished}
use Rattle.sei_stmt.specs.Sound.{RisesFrom}

-- the setting in which the clock answers this time
abbrev pub at_time : Setting → ℕ → Setting
at_time g now = record g { now = now }

-- the setting of the second pass
abbrev pub again : Setting → Setting
again g = record g { reading = true }

-- the machine with other notes
abbrev pub renoted : Notes → Machine → Machine
renoted notes m = with_notes m notes

abbrev pub renoted_end : Notes → After → After
renoted_end notes x = at_outcome (renoted notes x.machine) x.outcome

-- a time of 64 bits that agrees with the noted one, if one is noted
abbrev pub Agrees : Option Coded → ℕ → Type 0
Agrees None now = now < 2 ^ 64
Agrees (Some note) now = (note ≡ sealed now) × (now < 2 ^ 64)

-- at each time that agrees with the noted one, n honest statements of a first pass lead here, and their questions weigh
-- this much
pub record Comes (g : Setting) (start : Machine) (n : ℕ) (x : After) (questions : ℕ) : Type 0 where
  pub time : ℕ
  pub agrees : Agrees x.machine.notes.now time
  pub run : (now : ℕ) → Agrees x.machine.notes.now now → after (at_time g now) start n ≡ x
  pub asked : (now : ℕ) → Agrees x.machine.notes.now now → weighed_after (at_time g now) start n ≡ questions

-- the pass at this time halts within its budget, made its statements in their order, changed words in rising order,
-- and its output code is that of its output bytes
pub record EndsAt (g : Setting) (start : Machine) (now : ℕ) : Type 0 where
  pub end : Machine
  pub steps : ℕ
  pub halts : HonestRun (at_time g now) start end steps
  pub within : steps < g.budget
  pub ordered : stage_after (at_time g now) start steps ≡ Some finished
  pub rising : RisesFrom 0 end.log.items
  pub coded : end.code ≡ Some (message_code g.answer end.bytes.items)

-- whatever the clock answers
abbrev pub EndsAlways : Setting → Machine → Type 0
EndsAlways g start = (now : ℕ) → now < 2 ^ 64 → EndsAt g start now
