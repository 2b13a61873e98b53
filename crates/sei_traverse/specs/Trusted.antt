-- What is asked of a handler and of the words that were taken, for a traversal to isolate a fault.
use Rattle.std.specs.Prelude.{◌≡◌, ℕ, ◌<◌, true, Some, slice_get}
use Rattle.sei_code.specs.Coded.{sealed}
use Rattle.sei_log.specs.declared.notes.Notes.{Notes}
use Rattle.sei_stmt.specs.declared.stmt.Stmt.TheVariants.{Parse}
use Rattle.sei_stmt.specs.Weights.{first_weighed}
use Rattle.sei_stmt.specs.Handling.{Parsed}
use Rattle.sei_stmt.specs.Honest.{HonestRun}
use Rattle.sei_stmt.specs.Machine.{Machine, Setting}
use Rattle.sei_stmt.specs.Passes.{notes_of}
use Rattle.sei_pass.specs.Setting.{is_intact}
use Rattle.sei_traverse.specs.Comes.{again, renoted, EndsAlways}
use Rattle.sei_traverse.specs.CallContext.{CallContext, given_in, first_setting, first_start, TellsTime}
use Rattle.sei_traverse.specs.Given.{has_sealed_call, call_of}

-- the input is the sealed one, and has the sealed call, which is the call context's
pub record PassesGuard (e : CallContext) : Type 0 where
  pub intact : is_intact e.sealed e.input ≡ true
  pub has : has_sealed_call (given_in e) e.sealed ≡ true
  pub called : call_of (given_in e) e.sealed ≡ Some e.call

-- the setting of its second pass
abbrev pub second_setting : CallContext → Setting
second_setting e = again (first_setting e)

-- a second pass that halts has read a time in its notes, and is the one by that time and some slot
pub record ReadsNotes (e : CallContext) (notes : Notes) (end : Machine) (made : ℕ) : Type 0 where
  pub time : ℕ
  pub slot : ℕ
  pub noted : notes.now ≡ Some (sealed time)
  pub run : HonestRun (second_setting e) (renoted (notes_of time slot) (first_start e)) (renoted (notes_of time slot) end) made
  pub asked : first_weighed (second_setting e) (renoted notes (first_start e)) made ≡ first_weighed (second_setting e) (renoted (notes_of time slot) (first_start e)) made

-- what is trusted of the handler, of the clock, and of the words that were taken
pub record IsTrusted (e : CallContext) : Type 0 where
  -- the table parses first
  pub parses : slice_get e.behavior.statements 0 ≡ Some Parse
  -- the sealed call, where the input has it, is the call context's
  pub has_called : has_sealed_call (given_in e) e.sealed ≡ true → call_of (given_in e) e.sealed ≡ Some e.call
  -- the calls of an input are those that are below their number
  pub called_has : (p : Parsed) → call_of (given_in e) e.sealed ≡ Some p → has_sealed_call (given_in e) e.sealed ≡ true
  -- the call of a fit input is of a bucket that is there
  pub bucket : PassesGuard e → e.call.bucket < e.space.geometry.buckets
  -- where the clock tells its answer, that is a number of 64 bits
  pub clock : TellsTime e.clock
  -- each honest first pass of a fit input ends well, whatever the clock answers
  pub ends : PassesGuard e → EndsAlways (first_setting e) (first_start e)
  -- each second pass of a fit input that halts has read its notes
  pub reads : PassesGuard e → (notes : Notes) (end : Machine) (made : ℕ) → HonestRun (second_setting e) (renoted notes (first_start e)) end made → ReadsNotes e notes end made
