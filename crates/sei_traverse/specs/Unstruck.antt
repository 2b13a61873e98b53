-- Where a traversal that nothing struck stands.
use Rattle.std.specs.Prelude.{◌≡◌, ℕ, zero, suc, ◌+◌, ◌*◌, ◌≤◌, List, length, Option, Some, None, ⊤}
use Rattle.sei_code.specs.Kept.{empty_kept}
use Rattle.sei_fault.specs.declared.place.Phase.{Phase}
use Rattle.sei_fault.specs.declared.place.Phase.TheVariants.{Guard, Take, First, Restore, Second, Compare, Verify, Enter, Give, Send, Done}
use Rattle.sei_fault.specs.Phases.{phase_number}
use Rattle.sei_log.specs.declared.log.Change.{Change}
use Rattle.sei_restore.specs.Undoing.{restored}
use Rattle.sei_stmt.specs.Honest.{after}
use Rattle.sei_stmt.specs.Weights.{weighed_after}
use Rattle.sei_stmt.specs.Machine.{Machine}
use Rattle.sei_stmt.specs.Machine.Outcome.{Next}
use Rattle.sei_pass.specs.State.{new_pass}
use Rattle.sei_traverse.specs.declared.turned.Want.{Want}
use Rattle.sei_traverse.specs.declared.turned.Want.TheVariants.{Nothing, Take as WantTake, Enter as WantEnter, Give as WantGive}
use Rattle.sei_traverse.specs.declared.workspace.Workspace.{Workspace}
use Rattle.sei_traverse.specs.Phases.{send_want, IsCopy}
use Rattle.sei_traverse.specs.Acts.{at}
use Rattle.sei_pass.specs.declared.given.Which.TheVariants.{Making, Reading}
use Rattle.sei_traverse.specs.PassActs.{pass_of, machine_in}
use Rattle.sei_traverse.specs.Comes.{at_time, again, renoted, Comes}
use Rattle.sei_traverse.specs.CallContext.{CallContext, first_setting, first_start, no_notes, Follows, Whole}

-- the call that is sealed is the call context's, and as many phases are closed as stand before this one
pub record IsOf (e : CallContext) (w : Workspace) (phase : Phase) : Type 0 where
  pub sealed : w.sealed ≡ e.sealed
  pub gate : w.gate.done ≡ phase_number phase

-- a pass that did not begin
pub record FirstIsNew (e : CallContext) (w : Workspace) : Type 0 where
  pub first : w.first ≡ new_pass e.space
  pub first_log : w.first_log ≡ empty_kept Change e.space.log
  pub notes : w.notes ≡ no_notes

pub record SecondIsNew (e : CallContext) (w : Workspace) : Type 0 where
  pub second : w.second ≡ new_pass e.space
  pub second_log : w.second_log ≡ empty_kept Change e.space.log

-- a pass that ended with this machine
pub record FirstIsDone (e : CallContext) (w : Workspace) (end : Machine) : Type 0 where
  pub first : w.first ≡ pass_of (new_pass e.space) end
  pub first_log : w.first_log ≡ end.log
  pub notes : w.notes ≡ end.notes

pub record SecondIsDone (e : CallContext) (w : Workspace) (end : Machine) : Type 0 where
  pub second : w.second ≡ pass_of (new_pass e.space) end
  pub second_log : w.second_log ≡ end.log

-- how many steps stand before a phase at most, for a pass of n statements that logs k changes

abbrev pub before_restore : ℕ → ℕ
before_restore n = 3 + n

abbrev pub before_second : ℕ → ℕ → ℕ
before_second n k = 4 + n + k

abbrev pub before_compare : ℕ → ℕ → ℕ
before_compare n k = 4 + 2 * n + k

abbrev pub before_verify : ℕ → ℕ → ℕ
before_verify n k = 5 + 2 * n + 2 * k

abbrev pub before_enter : ℕ → ℕ → ℕ
before_enter n k = 7 + 2 * n + 3 * k

-- the cases, by phase. `lent` are the words that are lent, `steps` is the number of steps so far, and `asked` a number
-- of questions that were asked at least

pub record InGuard (e : CallContext) (w : Workspace) (steps asked : ℕ) : Type 0 where
  pub is : IsOf e w Guard
  pub index : w.place.index ≡ 0
  pub first : FirstIsNew e w
  pub second : SecondIsNew e w
  pub number : steps ≤ 0
  pub questions : asked ≡ 0

-- at the second step, the call's bucket is wanted
abbrev pub WantedAt : CallContext → ℕ → ℕ → Type 0
WantedAt e zero wanted = ⊤
WantedAt e (suc index) wanted = wanted ≡ e.call.bucket

pub record InTake (e : CallContext) (w : Workspace) (steps asked : ℕ) : Type 0 where
  pub is : IsOf e w Take
  pub index : w.place.index ≤ 1
  pub wanted : WantedAt e w.place.index w.wanted
  pub first : FirstIsNew e w
  pub second : SecondIsNew e w
  pub number : steps ≤ 1 + w.place.index
  pub questions : asked ≡ 0

-- before its first statement, no words need to be lent yet; then an honest first pass has come here
pub record FirstWaits (e : CallContext) (w : Workspace) (steps asked : ℕ) : Type 0 where
  pub index : w.place.index ≡ 0
  pub first : FirstIsNew e w
  pub number : steps ≤ 3
  pub questions : asked ≡ 0

pub record FirstRuns (e : CallContext) (w : Workspace) (words : List ℕ) (steps asked : ℕ) : Type 0 where
  pub space : w.first.space ≡ e.space
  pub made : ℕ
  pub comes : Comes (first_setting e) (first_start e) made (record { machine = machine_in Making w words; outcome = Next w.place.index }) asked
  pub told : Follows e.clock comes.time
  pub number : steps ≤ 3 + made

abbrev pub FirstAt : CallContext → Workspace → Option (List ℕ) → ℕ → ℕ → Type 0
FirstAt e w None steps asked = FirstWaits e w steps asked
FirstAt e w (Some words) steps asked = FirstRuns e w words steps asked

pub record InFirst (e : CallContext) (w : Workspace) (lent : Option (List ℕ)) (steps asked : ℕ) : Type 0 where
  pub is : IsOf e w First
  pub second : SecondIsNew e w
  pub at : FirstAt e w lent steps asked

-- what the questions of a whole first pass of so many statements at a time weigh: those of its statements, and the test behind Halt
-- that closes its phase
abbrev pub first_questions : CallContext → ℕ → ℕ → ℕ
first_questions e time n = weighed_after (at_time (first_setting e) time) (first_start e) n + 1

-- as many of its changes are undone as the index says
pub record InRestore (e : CallContext) (w : Workspace) (lent : Option (List ℕ)) (steps asked : ℕ) : Type 0 where
  pub is : IsOf e w Restore
  pub time : ℕ
  pub made : ℕ
  pub end : Machine
  pub whole : Whole e time made end
  pub first : FirstIsDone e w end
  pub second : SecondIsNew e w
  pub index : w.place.index ≤ length end.log.items
  pub words : lent ≡ Some (restored end.log.items end.words w.place.index)
  pub number : steps ≤ before_restore made + w.place.index
  pub questions : first_questions e time made ≤ asked

-- an honest second pass, by the notes of the first, has come here behind n statements
pub record InSecond (e : CallContext) (w : Workspace) (lent : Option (List ℕ)) (steps asked : ℕ) : Type 0 where
  pub is : IsOf e w Second
  pub time : ℕ
  pub made : ℕ
  pub end : Machine
  pub whole : Whole e time made end
  pub first : FirstIsDone e w end
  pub space : w.second.space ≡ e.space
  pub words : List ℕ
  pub lent_are : lent ≡ Some words
  pub n : ℕ
  pub within : n ≤ made
  pub comes : after (again (first_setting e)) (renoted end.notes (first_start e)) n ≡ record { machine = machine_in Reading w words; outcome = Next w.place.index }
  pub number : steps ≤ before_second made (length end.log.items) + n
  pub questions : first_questions e time made + weighed_after (again (first_setting e)) (renoted end.notes (first_start e)) n ≤ asked

-- both passes have come to the same end, and so have the words
pub record InBoth (e : CallContext) (w : Workspace) (lent : Option (List ℕ)) (time made : ℕ) (end : Machine) (asked : ℕ) : Type 0 where
  pub whole : Whole e time made end
  pub first : FirstIsDone e w end
  pub second : SecondIsDone e w end
  pub words : lent ≡ Some end.words
  pub questions : 2 * first_questions e time made ≤ asked

pub record InCompare (e : CallContext) (w : Workspace) (lent : Option (List ℕ)) (steps asked : ℕ) : Type 0 where
  pub is : IsOf e w Compare
  pub time : ℕ
  pub made : ℕ
  pub end : Machine
  pub both : InBoth e w lent time made end asked
  pub index : w.place.index ≤ length end.log.items
  pub number : steps ≤ before_compare made (length end.log.items) + w.place.index

-- after the last changed word, the copy for the wire is made
abbrev pub CopyAt : Workspace → ℕ → List ℕ → Type 0
CopyAt w k reply = w.place.index ≡ k + 1 → IsCopy w reply

pub record InVerify (e : CallContext) (w : Workspace) (lent : Option (List ℕ)) (steps asked : ℕ) : Type 0 where
  pub is : IsOf e w Verify
  pub time : ℕ
  pub made : ℕ
  pub end : Machine
  pub both : InBoth e w lent time made end asked
  pub index : w.place.index ≤ length end.log.items + 1
  pub copy : CopyAt w (length end.log.items) end.bytes.items
  pub number : steps ≤ before_verify made (length end.log.items) + w.place.index

-- all is compared: the copy for the wire is what goes out for the reply
pub record InEnter (e : CallContext) (w : Workspace) (lent : Option (List ℕ)) (steps asked : ℕ) : Type 0 where
  pub is : IsOf e w Enter
  pub time : ℕ
  pub made : ℕ
  pub end : Machine
  pub both : InBoth e w lent time made end asked
  pub index : w.place.index ≡ 0
  pub copy : IsCopy w end.bytes.items
  pub number : steps ≤ before_enter made (length end.log.items)

pub record InGive (e : CallContext) (w : Workspace) (lent : Option (List ℕ)) (steps asked : ℕ) : Type 0 where
  pub is : IsOf e w Give
  pub time : ℕ
  pub made : ℕ
  pub end : Machine
  pub both : InBoth e w lent time made end asked
  pub index : w.place.index ≡ 0
  pub copy : IsCopy w end.bytes.items
  pub number : steps ≤ before_enter made (length end.log.items) + 1

-- the reply is made, and the copy for the wire
pub record HasOutput (e : CallContext) (w : Workspace) (time made : ℕ) (end : Machine) (asked : ℕ) : Type 0 where
  pub whole : Whole e time made end
  pub second : SecondIsDone e w end
  pub notes : w.notes ≡ end.notes
  pub copy : IsCopy w end.bytes.items
  pub questions : 2 * first_questions e time made ≤ asked

-- as long as words are lent, they are still those
abbrev pub StillAre : Option (List ℕ) → List ℕ → Type 0
StillAre None words = ⊤
StillAre (Some lent) words = lent ≡ words

-- the bucket is given back
pub record InSend (e : CallContext) (w : Workspace) (lent : Option (List ℕ)) (steps asked : ℕ) : Type 0 where
  pub is : IsOf e w Send
  pub time : ℕ
  pub made : ℕ
  pub end : Machine
  pub answered : HasOutput e w time made end asked
  pub index : w.place.index ≡ 0
  pub words : StillAre lent end.words
  pub number : steps ≤ before_enter made (length end.log.items) + 2

pub record InDone (e : CallContext) (w : Workspace) (steps asked : ℕ) : Type 0 where
  pub is : IsOf e w Done
  pub time : ℕ
  pub made : ℕ
  pub end : Machine
  pub answered : HasOutput e w time made end asked
  pub index : w.place.index ≡ 0
  pub number : steps ≤ before_enter made (length end.log.items) + 3

-- at its end
pub record IsFinished (e : CallContext) (w : Workspace) (steps asked : ℕ) : Type 0 where
  pub place : w.place ≡ at Done 1
  pub gate : w.gate.done ≡ 11
  pub time : ℕ
  pub made : ℕ
  pub end : Machine
  pub answered : HasOutput e w time made end asked
  pub number : steps ≤ before_enter made (length end.log.items) + 4

abbrev pub CleanIn : CallContext → Workspace → Option (List ℕ) → ℕ → ℕ → Phase → Type 0
CleanIn e w lent steps asked Guard = InGuard e w steps asked
CleanIn e w lent steps asked Take = InTake e w steps asked
CleanIn e w lent steps asked First = InFirst e w lent steps asked
CleanIn e w lent steps asked Restore = InRestore e w lent steps asked
CleanIn e w lent steps asked Second = InSecond e w lent steps asked
CleanIn e w lent steps asked Compare = InCompare e w lent steps asked
CleanIn e w lent steps asked Verify = InVerify e w lent steps asked
CleanIn e w lent steps asked Enter = InEnter e w lent steps asked
CleanIn e w lent steps asked Give = InGive e w lent steps asked
CleanIn e w lent steps asked Send = InSend e w lent steps asked
CleanIn e w lent steps asked Done = InDone e w steps asked

-- what the act of a phase wants without a strike
abbrev pub take_want : CallContext → ℕ → Want
take_want e zero = Nothing
take_want e (suc index) = WantTake e.call.bucket

abbrev pub want_in : CallContext → Workspace → Phase → Want
want_in e w Take = take_want e w.place.index
want_in e w Enter = WantEnter
want_in e w Give = WantGive
want_in e w Send = send_want w.second.bytes.items
want_in e w phase = Nothing

-- the phases in which the bucket is lent
abbrev pub IsLent : Phase → Type 0
IsLent Guard = ⊥
IsLent Take = ⊥
IsLent Send = ⊥
IsLent Done = ⊥
IsLent phase = ⊤

-- the phase behind a step without a strike, as far as what is lent goes
abbrev pub NextIn : Phase → ℕ → Phase → Type 0
NextIn Guard index next = next ≡ Take
NextIn Take zero next = next ≡ Take
NextIn Take (suc index) next = next ≡ First
NextIn Give index next = next ≡ Send
NextIn Send index next = next ≡ Done
NextIn Done index next = next ≡ Done
NextIn phase index next = IsLent next

-- a traversal that nothing struck, at one of its steps
pub record Clean (e : CallContext) (w : Workspace) (lent : Option (List ℕ)) (steps asked : ℕ) : Type 0 where
  pub in_phase : CleanIn e w lent steps asked w.place.phase
