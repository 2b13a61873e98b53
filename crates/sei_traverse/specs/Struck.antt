-- Where a traversal stands that was struck once, and whose gate closed as many phases as stand before its own.
use Rattle.std.specs.Prelude.{◌≡◌, ◌≢◌, ℕ, ◌+◌, ◌-◌, ◌^◌, ◌<◌, ◌≤◌, List, length, take, Option, Some, None, slice_get}
use Rattle.sei_code.specs.Coded.{sealed, read_of}
use Rattle.sei_code.specs.declared.coded.Coded.{Coded}
use Rattle.sei_code.specs.Kept.{Kept, empty_kept}
use Rattle.sei_fault.specs.declared.place.Phase.{Phase}
use Rattle.sei_fault.specs.declared.place.Phase.TheVariants.{Guard, Take, First, Restore, Second, Compare, Verify, Enter, Give, Send, Done}
use Rattle.sei_log.specs.Changes.{undone, applied, Stands, SameOff}
use Rattle.sei_log.specs.declared.log.Change.{Change}
use Rattle.sei_log.specs.declared.notes.Notes.{Notes}
use Rattle.sei_stmt.specs.Weights.{first_weighed}
use Rattle.sei_stmt.specs.Honest.{after, HonestRun}
use Rattle.sei_stmt.specs.Machine.{Machine, Setting, Outcome, with_log}
use Rattle.sei_stmt.specs.Machine.Outcome.{Next, Halted}
use Rattle.sei_stmt.specs.Passes.{notes_of}
use Rattle.sei_pass.specs.declared.given.Which.TheVariants.{Making, Reading}
use Rattle.sei_pass.specs.State.{new_pass}
use Rattle.sei_pass.specs.Steps.{machine_of}
use Rattle.sei_traverse.specs.declared.workspace.Workspace.{Workspace}
use Rattle.sei_traverse.specs.Alike.{AlikeAt, AlikeLogs}
use Rattle.sei_traverse.specs.Comes.{renoted, Comes}
use Rattle.sei_traverse.specs.CallContext.{CallContext, first_setting, first_start, Follows, Whole}
use Rattle.sei_traverse.specs.PassActs.{pass_of, machine_in, asked_behind}
use Rattle.sei_traverse.specs.Phases.{reply_of, IsCopy}
use Rattle.sei_traverse.specs.Given.{given_of, setting_in}
use Rattle.sei_traverse.specs.Trusted.{PassesGuard, second_setting}
use Rattle.sei_traverse.specs.Unstruck.{FirstIsNew, SecondIsNew, FirstIsDone, first_questions}

-- the machine with this log in the place of its own
abbrev pub relogged : Kept Change → Machine → Machine
relogged log m = with_log m log

-- what a note reads as, where it reads: a number of 64 bits, which is the told time, where one is told
abbrev pub IsNoted : CallContext → Option Coded → Type 0
IsNoted e note = (c : Coded) (v : ℕ) → note ≡ Some c → read_of c ≡ Some v → (v < 2 ^ 64) × Follows e.clock v

-- the input is fit, and the wanted bucket is the call's
pub record IsAimed (e : CallContext) (w : Workspace) : Type 0 where
  pub fit : PassesGuard e
  pub wanted : w.wanted ≡ e.call.bucket

-- what the questions of an honest run of so many statements, by a time and a slot, weigh as a first pass: those of its statements,
-- and the test behind Halt that closes its phase
abbrev pub run_questions : CallContext → ℕ → ℕ → ℕ → ℕ
run_questions e time slot made = first_weighed (second_setting e) (renoted (notes_of time slot) (first_start e)) made + 1

-- what holds of each traversal that comes to Enter: the words and the reply are those that an honest run on the
-- words that were taken leaves, by the noted time and some slot, and at least as many questions were asked as its own weigh; the
-- time is a number of 64 bits, and the told one, where one is told
pub record IsHonestResult (e : CallContext) (w : Workspace) (words : List ℕ) (asked : ℕ) : Type 0 where
  pub aimed : IsAimed e w
  pub time : ℕ
  pub slot : ℕ
  pub end : Machine
  pub made : ℕ
  pub noted : w.notes.now ≡ Some (sealed time)
  pub small : time < 2 ^ 64
  pub told : Follows e.clock time
  pub run : HonestRun (second_setting e) (renoted (notes_of time slot) (first_start e)) end made
  pub words_are : words ≡ end.words
  pub reply : reply_of w ≡ end.bytes.items
  pub questions : run_questions e time slot made ≤ asked

-- the first pass

-- one old word was misread, and logged so: but for its log all is as in an honest pass, at a time that the clock may tell,
-- whose log is not longer than this one. This log leads from the words that were taken to those that stand, and changed no
-- others
pub record IsMisread (e : CallContext) (w : Workspace) (words : List ℕ) (asked : ℕ) : Type 0 where
  pub aimed : IsAimed e w
  pub log : Kept Change
  pub room : log.room ≡ w.first_log.room
  pub fewer : length log.items ≤ length w.first_log.items
  pub made : ℕ
  pub number : ℕ
  pub comes : Comes (first_setting e) (first_start e) made (record { machine = relogged log (machine_in Making w words); outcome = Next w.place.index }) number
  pub told : Follows e.clock comes.time
  pub applies : applied w.first_log.items e.taken ≡ words
  pub off : SameOff w.first_log.items words e.taken
  pub questions : number ≤ asked

-- the log undoes all that it changed, and a noted time is as it may be; or one old word in the log was misread
pub data FirstStruck (e : CallContext) (w : Workspace) (words : List ℕ) (asked : ℕ) : Type 0 where
  Restorable : IsNoted e w.notes.now → undone w.first_log.items words ≡ e.taken → FirstStruck e w words asked
  Misread : IsMisread e w words asked → FirstStruck e w words asked

-- before the bucket is lent, nothing was made
abbrev pub FirstStands : CallContext → Workspace → Option (List ℕ) → ℕ → Type 0
FirstStands e w None asked = FirstIsNew e w
FirstStands e w (Some words) asked = FirstStruck e w words asked

pub record StruckInFirst (e : CallContext) (w : Workspace) (lent : Option (List ℕ)) (asked : ℕ) : Type 0 where
  pub space : w.first.space ≡ e.space
  pub second : SecondIsNew e w
  pub stands : FirstStands e w lent asked

-- before it

pub record StruckInTake (e : CallContext) (w : Workspace) : Type 0 where
  pub first : FirstIsNew e w
  pub second : SecondIsNew e w

-- the restoration

-- the first pass was honest, and ended with this machine
pub record WasHonest (e : CallContext) (w : Workspace) (end : Machine) (asked : ℕ) : Type 0 where
  pub aimed : IsAimed e w
  pub time : ℕ
  pub made : ℕ
  pub whole : Whole e time made end
  pub first : FirstIsDone e w end
  pub questions : first_questions e time made ≤ asked

-- it was honest but for its log, which leads from the words that were taken to the same words
pub record WasMisread (e : CallContext) (w : Workspace) (end : Machine) (asked : ℕ) : Type 0 where
  pub aimed : IsAimed e w
  pub time : ℕ
  pub made : ℕ
  pub whole : Whole e time made end
  pub first : w.first ≡ pass_of (new_pass e.space) end
  pub notes : w.notes ≡ end.notes
  pub applies : applied w.first_log.items e.taken ≡ end.words
  pub questions : first_questions e time made ≤ asked

-- the changes that are still to be undone
abbrev pub pending : Workspace → List Change
pending w = take (length w.first_log.items - w.place.index) w.first_log.items

-- undoing what is pending gives the words that were taken, and a noted time has 64 bits; or the first log has a misread
-- word; or a change that is not pending was not undone
pub data RestoreStruck (e : CallContext) (w : Workspace) (words : List ℕ) (asked : ℕ) : Type 0 where
  Restorable : IsNoted e w.notes.now → undone (pending w) words ≡ e.taken → RestoreStruck e w words asked
  Misread : (end : Machine) → WasMisread e w end asked → SameOff w.first_log.items words e.taken → RestoreStruck e w words asked
  Damaged : (end : Machine) → WasHonest e w end asked → (place : ℕ) (c : Change) → Stands w.first_log.items place c →
      length w.first_log.items - w.place.index ≤ place → slice_get words c.address ≢ Some c.was → RestoreStruck e w words asked

-- the second pass

-- where a pass starts, on these words and by these notes
abbrev pub start_on : CallContext → List ℕ → Notes → Machine
start_on e words notes = machine_of (new_pass e.space) words (empty_kept Change e.space.log) notes

-- the setting of a second pass for which this bucket is lent
abbrev pub setting_on : CallContext → ℕ → Setting
setting_on e bucket = setting_in (given_of e.behavior e.input e.space (Some bucket)) Reading e.sealed 0

-- an honest second pass on these words, by the workspace's notes, has come to where the workspace stands
abbrev pub ComesOn : CallContext → Workspace → List ℕ → List ℕ → Outcome → ℕ → Type 0
ComesOn e w found words o n = after (setting_on e w.wanted) (start_on e found w.notes) n ≡ record { machine = machine_in Reading w words; outcome = o }

-- it is honest on the words that were taken, by notes whose time has 64 bits, and has asked no less than a first pass would;
-- or it is honest on words that a misread log or a change which was not undone left; or it was struck itself, and the first
-- one was honest
pub data SecondStruck (e : CallContext) (w : Workspace) (words : List ℕ) (o : Outcome) (asked : ℕ) : Type 0 where
  Good : IsNoted e w.notes.now → (n : ℕ) → ComesOn e w e.taken words o n →
      first_weighed (setting_on e w.wanted) (start_on e e.taken w.notes) n + asked_behind o ≤ asked → SecondStruck e w words o asked
  Misread : (end : Machine) → WasMisread e w end asked →
      (found : List ℕ) → SameOff w.first_log.items found e.taken → (n : ℕ) → ComesOn e w found words o n → SecondStruck e w words o asked
  Damaged : (end : Machine) → WasHonest e w end asked → (place : ℕ) (c : Change) → Stands w.first_log.items place c →
      (found : List ℕ) → slice_get found c.address ≢ Some c.was → (n : ℕ) → ComesOn e w found words o n → SecondStruck e w words o asked
  Struck : (end : Machine) → WasHonest e w end asked → SameOff w.second_log.items words e.taken → SecondStruck e w words o asked

-- the comparison

-- all is well already; or the second pass ended as it may, and the changes below the index are the same in both logs
pub data CompareStruck (e : CallContext) (w : Workspace) (words : List ℕ) (asked : ℕ) : Type 0 where
  Fine : IsHonestResult e w words asked → CompareStruck e w words asked
  Doubt : SecondStruck e w words Halted asked →
      ((place : ℕ) → place < w.place.index → AlikeAt (slice_get w.first_log.items place) (slice_get w.second_log.items place)) → CompareStruck e w words asked

-- the reading back

-- the second pass was struck, and came to a log that says the same as the first one; so many words hold what it says
pub record IsDoubted (e : CallContext) (w : Workspace) (words : List ℕ) (asked : ℕ) : Type 0 where
  pub end : Machine
  pub was : WasHonest e w end asked
  pub off : SameOff w.second_log.items words e.taken
  pub logs : AlikeLogs w.first_log.items w.second_log.items
  pub read : (place : ℕ) (c : Change) → place < w.place.index → Stands w.second_log.items place c → slice_get words c.address ≡ Some c.becomes

pub data WordsStruck (e : CallContext) (w : Workspace) (words : List ℕ) (asked : ℕ) : Type 0 where
  Fine : IsHonestResult e w words asked → WordsStruck e w words asked
  Doubt : IsDoubted e w words asked → WordsStruck e w words asked

pub record VerifyStruck (e : CallContext) (w : Workspace) (words : List ℕ) (asked : ℕ) : Type 0 where
  pub stand : WordsStruck e w words asked
  pub outputs : w.first.bytes.items ≡ reply_of w

-- behind them

pub record HasCopy (e : CallContext) (w : Workspace) (words : List ℕ) (asked : ℕ) : Type 0 where
  pub answers : IsHonestResult e w words asked
  pub wire : IsCopy w (reply_of w)

pub record HasCopyOfSome (e : CallContext) (w : Workspace) (asked : ℕ) : Type 0 where
  pub words : List ℕ
  pub answered : HasCopy e w words asked

-- words are lent, and this is so of them
abbrev pub OnLent : Option (List ℕ) → (List ℕ → Type 0) → Type 0
OnLent None holds = ⊥
OnLent (Some words) holds = holds words

-- the cases, by phase. In Guard none stands: a strike there leads out of it, or to another number of closed phases
abbrev pub StruckIn : CallContext → Workspace → Option (List ℕ) → ℕ → Phase → Type 0
StruckIn e w lent asked Guard = ⊥
StruckIn e w lent asked Take = StruckInTake e w
StruckIn e w lent asked First = StruckInFirst e w lent asked
StruckIn e w lent asked Restore = (SecondIsNew e w) × OnLent lent (λ words. RestoreStruck e w words asked)
StruckIn e w lent asked Second = OnLent lent (λ words. SecondStruck e w words (Next w.place.index) asked)
StruckIn e w lent asked Compare = OnLent lent (λ words. CompareStruck e w words asked)
StruckIn e w lent asked Verify = OnLent lent (λ words. VerifyStruck e w words asked)
StruckIn e w lent asked Enter = OnLent lent (λ words. HasCopy e w words asked)
StruckIn e w lent asked Give = OnLent lent (λ words. HasCopy e w words asked)
StruckIn e w lent asked Send = HasCopyOfSome e w asked
StruckIn e w lent asked Done = HasCopyOfSome e w asked
