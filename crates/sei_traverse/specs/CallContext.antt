-- What a traversal is to do, and where its passes come without a strike.
use Rattle.std.specs.Prelude.{◌≡◌, ℕ, ◌^◌, ◌<◌, true, List, Option, Some, None, ⊤}
use Rattle.sei_code.specs.Codes.{message_code}
use Rattle.sei_code.specs.Kept.{empty_kept}
use Rattle.sei_log.specs.declared.log.Change.{Change}
use Rattle.sei_log.specs.declared.notes.Notes.{Notes}
use Rattle.sei_pass.specs.declared.spaces.PassSpace.{PassSpace}
use Rattle.sei_stmt.specs.Handling.{Behavior, Parsed}
use Rattle.sei_stmt.specs.Honest.{HonestRun}
use Rattle.sei_stmt.specs.Machine.{Machine, Setting}
use Rattle.sei_stmt.specs.Order.{stage_after, finished}
use Rattle.sei_stmt.specs.Sound.{RisesFrom}
use Rattle.sei_pass.specs.declared.given.Sealed.{Sealed}
use Rattle.sei_pass.specs.declared.given.Which.TheVariants.{Making}
use Rattle.sei_pass.specs.Setting.{is_intact}
use Rattle.sei_pass.specs.State.{new_pass}
use Rattle.sei_pass.specs.Steps.{machine_of}
use Rattle.sei_traverse.specs.Comes.{at_time, EndsAlways}
use Rattle.sei_traverse.specs.Given.{Given, given_of, has_sealed_call, call_of, setting_in}

-- a call of a sealed input, the words of its bucket when they were taken, and what the clock tells, where it tells
-- the same at each step
pub record CallContext : Type 0 where
  pub behavior : Behavior
  pub input : List ℕ
  pub space : PassSpace
  pub sealed : Sealed
  pub call : Parsed
  pub taken : List ℕ
  pub clock : Option ℕ

-- what its steps are given
abbrev pub given_in : CallContext → Given
given_in e = given_of e.behavior e.input e.space (Some e.call.bucket)

abbrev pub no_notes : Notes
no_notes = record { now = None; slot = None }

-- the setting of its first pass, at time 0
abbrev pub first_setting : CallContext → Setting
first_setting e = setting_in (given_in e) Making e.sealed 0

-- where its first pass starts
abbrev pub first_start : CallContext → Machine
first_start e = machine_of (new_pass e.space) e.taken (empty_kept Change e.space.log) no_notes

-- where a clock tells its answer, that is a number of 64 bits
abbrev pub TellsTime : Option ℕ → Type 0
TellsTime None = ⊤
TellsTime (Some told) = told < 2 ^ 64

-- a time is the told one, where one is told
abbrev pub Follows : Option ℕ → ℕ → Type 0
Follows None time = ⊤
Follows (Some told) time = time ≡ told

-- the input is the sealed one, and has the call; the bucket is there; the clock tells numbers of 64 bits, where it tells
-- them; and whatever it answers, an honest first pass on the words that were taken ends well
pub record IsFitContext (e : CallContext) : Type 0 where
  pub intact : is_intact e.sealed e.input ≡ true
  pub has : has_sealed_call (given_in e) e.sealed ≡ true
  pub called : call_of (given_in e) e.sealed ≡ Some e.call
  pub bucket : e.call.bucket < e.space.geometry.buckets
  pub clock : TellsTime e.clock
  pub ends : EndsAlways (first_setting e) (first_start e)

-- the whole first pass: at this time, which is the told one where one is told, so many honest statements end with this
-- machine, within the budget and in their order; the log rises, and the output code is that of the output bytes
pub record Whole (e : CallContext) (time steps : ℕ) (end : Machine) : Type 0 where
  pub small : time < 2 ^ 64
  pub told : Follows e.clock time
  pub run : HonestRun (at_time (first_setting e) time) (first_start e) end steps
  pub within : steps < (first_setting e).budget
  pub ordered : stage_after (at_time (first_setting e) time) (first_start e) steps ≡ Some finished
  pub rising : RisesFrom 0 end.log.items
  pub coded : end.code ≡ Some (message_code e.sealed.answer end.bytes.items)
