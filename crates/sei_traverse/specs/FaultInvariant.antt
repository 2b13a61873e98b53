-- What is known of a traversal that was struck at most once since it began, at each of its steps.
use Rattle.std.specs.Prelude.{◌≡◌, ◌≢◌, ℕ, ◌+◌, ◌*◌, ◌-◌, ◌^◌, ◌<◌, ◌≤◌, ◌⊎◌, List, [], Option, Some, None, ⊤}
use Rattle.sei_fault.specs.Counts.{Counts}
use Rattle.sei_fault.specs.Phases.{phase_number}
use Rattle.sei_fault.specs.declared.place.Phase.{Phase}
use Rattle.sei_fault.specs.declared.place.Phase.TheVariants.{Guard, Take, Enter, Give, Send}
use Rattle.sei_words.specs.Words.{BucketWords}
use Rattle.sei_traverse.specs.declared.turned.State.{State}
use Rattle.sei_traverse.specs.declared.turned.State.TheVariants.{Went, Finished, Refused, Aborted}
use Rattle.sei_traverse.specs.declared.turned.Want.{Want}
use Rattle.sei_traverse.specs.declared.turned.Want.TheVariants.{Nothing, Take as WantTake, Enter as WantEnter, Give as WantGive, Send as WantSend}
use Rattle.sei_traverse.specs.declared.workspace.Workspace.{Workspace}
use Rattle.sei_traverse.specs.CallContext.{CallContext, given_in}
use Rattle.sei_traverse.specs.OnWay.{lent_words, LendsIn, LendsBucket, IsClean, IsCleanEnd}
use Rattle.sei_traverse.specs.Phases.{reply_of, closing_want}
use Rattle.sei_traverse.specs.Given.{FailsGuard}
use Rattle.sei_traverse.specs.State.{TraversalState}
use Rattle.sei_traverse.specs.Struck.{IsAimed, IsHonestResult, OnLent, HasCopyOfSome, StruckIn}
use Rattle.sei_traverse.specs.Trusted.{PassesGuard}

-- behind Guard the input is known to be fit, and behind Take the wanted bucket to be the call's
abbrev pub Knows : CallContext → Workspace → Phase → Type 0
Knows e w Guard = ⊤
Knows e w Take = PassesGuard e
Knows e w phase = IsAimed e w

-- nothing struck it
pub record IsUnstruck (e : CallContext) (t : TraversalState) (lent : Option (List ℕ)) (begin now : Counts) : Type 0 where
  pub clean : IsClean e t lent begin now
  pub knows : Knows e t.workspace t.workspace.place.phase

-- the gate closed as many phases as stand before the workspace's phase; or another number of them, and where that is in Guard the
-- input passes its tests
pub data StruckCase (e : CallContext) (w : Workspace) (lent : Option (List ℕ)) (asked : ℕ) : Type 0 where
  Right : w.gate.done ≡ phase_number w.place.phase → StruckIn e w lent asked w.place.phase → StruckCase e w lent asked
  Lost : w.gate.done ≢ phase_number w.place.phase → (w.place.phase ≡ Guard → PassesGuard e) → StruckCase e w lent asked

-- one strike fell, and so many questions were asked at least
pub record IsStruck (e : CallContext) (t : TraversalState) (lent : Option (List ℕ)) (begin now : Counts) : Type 0 where
  pub space : t.space ≡ e.space
  pub sealed : t.workspace.sealed ≡ e.sealed
  pub asked : ℕ
  pub case : StruckCase e t.workspace lent asked
  pub counted : now.asked < 2 ^ 128 - 1 → begin.asked + asked ≤ now.asked

-- what is known, with these words lent, and these counts when it began and now
pub record FaultInvariant (e : CallContext) (t : TraversalState) (lent : Option (List ℕ)) (begin now : Counts) : Type 0 where
  pub later : begin.struck ≤ now.struck
  pub unstruck : now.struck ≡ begin.struck → IsUnstruck e t lent begin now
  pub struck : now.struck ≡ begin.struck + 1 → IsStruck e t lent begin now

-- the gate closed as many phases as stand before the workspace's own
abbrev pub IsRight : Workspace → Type 0
IsRight w = w.gate.done ≡ phase_number w.place.phase

-- nothing is asked of the caller where the gate is not the phase's
abbrev pub LendsWanted : Workspace → Option BucketWords → Type 0
LendsWanted w lent_bucket = IsRight w → LendsIn w.wanted w.place.phase lent_bucket

-- what the caller lends next, where it follows the wants: behind the want of Take the wanted bucket, behind that of Give no
-- words, and else what is left of the lent bucket
abbrev pub LendsOn : Workspace → Option BucketWords → Want → Type 0
LendsOn w left (WantTake bucket) = (b : BucketWords) → b.bucket ≡ bucket → LendsWanted w (Some b)
LendsOn w left WantGive = LendsWanted w None
LendsOn w left want = LendsWanted w left

-- where Enter or Give is wanted, the lent bucket is the call's
abbrev pub WantsBucket : CallContext → Option BucketWords → Want → Type 0
WantsBucket e lent_bucket WantEnter = LendsBucket e lent_bucket
WantsBucket e lent_bucket WantGive = LendsBucket e lent_bucket
WantsBucket e lent_bucket want = ⊤

-- what is so where this is wanted: the bucket is there; the words and the reply are those of an honest run; the copy for
-- the wire is the reply
abbrev pub Wanted : CallContext → Workspace → Option (List ℕ) → ℕ → Want → Type 0
Wanted e w lent asked Nothing = ⊤
Wanted e w lent asked (WantTake bucket) = (bucket ≡ w.wanted) × (bucket < e.space.geometry.buckets)
Wanted e w lent asked WantEnter = OnLent lent (λ words. IsHonestResult e w words asked)
Wanted e w lent asked WantGive = OnLent lent (λ words. IsHonestResult e w words asked)
Wanted e w lent asked WantSend = HasCopyOfSome e w asked × (reply_of w ≢ [])

-- from the old workspace to the new one no phase was closed, and nothing is wanted; or the phase of the old place was closed,
-- which was the next one, and what is wanted there; or Take was closed and the wanted bucket is not there, and so it ended.
-- As the number never falls, each is wanted at most once, and where it has passed 8, 9 and 10, Enter and Give were wanted,
-- and Send where the reply is not empty
pub data ClosesOnce (e : CallContext) (old new : Workspace) (ended : Type 0) : Type 0 where
  Stays : new.gate.done ≡ old.gate.done → new.want ≡ Nothing → ClosesOnce e old new ended
  Closes : (phase : Phase) → old.place.phase ≡ phase → old.gate.done ≡ phase_number phase → new.gate.done ≡ old.gate.done + 1 →
      new.want ≡ closing_want new phase → ClosesOnce e old new ended
  Lacks : old.gate.done ≡ 1 → new.gate.done ≡ 2 → new.want ≡ Nothing → e.space.geometry.buckets ≤ new.wanted → ended → ClosesOnce e old new ended

-- the step aborts
abbrev pub IsAborted : State → Type 0
IsAborted (Aborted abort) = ⊤
IsAborted state = ⊥

-- what must hold where it wants that, holds; so many questions were asked at least, and twice as many where nothing struck
pub record Wants (e : CallContext) (t : TraversalState) (left : Option BucketWords) (begin now : Counts) (want : Want) : Type 0 where
  pub asked : ℕ
  pub wanted : Wanted e t.workspace (lent_words left) asked want
  pub bucket : WantsBucket e left want
  pub counted : now.asked < 2 ^ 128 - 1 → begin.asked + asked ≤ now.asked
  pub twice : now.struck ≡ begin.struck → now.asked < 2 ^ 128 - 1 → begin.asked + 2 * asked ≤ now.asked

-- it is finished: all phases are closed, so Enter and Give were wanted, and Send where the reply is not empty; the reply and
-- the copy are those of an honest run, and so many questions were asked at least; and without a strike twice as many, and it
-- is at its clean end
pub record IsAtEnd (e : CallContext) (t : TraversalState) (begin now : Counts) : Type 0 where
  pub gate : t.workspace.gate.done ≡ 11
  pub asked : ℕ
  pub answered : HasCopyOfSome e t.workspace asked
  pub counted : now.asked < 2 ^ 128 - 1 → begin.asked + asked ≤ now.asked
  pub twice : now.struck ≡ begin.struck → now.asked < 2 ^ 128 - 1 → begin.asked + 2 * asked ≤ now.asked
  pub unstruck : now.struck ≡ begin.struck → IsCleanEnd e t begin now

-- the input does not pass the tests of Guard
abbrev pub IsUnfitInput : CallContext → Type 0
IsUnfitInput e = FailsGuard (given_in e) e.sealed

-- it was refused before Take was closed, for its input or for a strike
pub record IsRefused (e : CallContext) (t : TraversalState) (begin now : Counts) : Type 0 where
  pub gate : t.workspace.gate.done ≤ 1
  pub cause : IsUnfitInput e ⊎ (begin.struck < now.struck)

abbrev pub FaultInvariantAfter : CallContext → TraversalState → Option (List ℕ) → Counts → Counts → State → Type 0
FaultInvariantAfter e t lent begin now Went = FaultInvariant e t lent begin now
FaultInvariantAfter e t lent begin now Finished = IsAtEnd e t begin now
FaultInvariantAfter e t lent begin now Refused = IsRefused e t begin now
FaultInvariantAfter e t lent begin now (Aborted abort) = begin.struck < now.struck

-- the workspaces have sealed the same, want the same bucket, and have the same passes, logs, notes and copy for the wire
pub record IsLikeWorkspace (old new : Workspace) : Type 0 where
  pub sealed : new.sealed ≡ old.sealed
  pub wanted : new.wanted ≡ old.wanted
  pub first : new.first ≡ old.first
  pub second : new.second ≡ old.second
  pub first_log : new.first_log ≡ old.first_log
  pub second_log : new.second_log ≡ old.second_log
  pub notes : new.notes ≡ old.notes
  pub wire : new.wire ≡ old.wire

-- a step keeps what is known; what must hold where it wants that, holds, and is wanted once; a caller who lends what was
-- wanted lends it again where it follows the wants; what is lost stays lost, and does not finish; and as long as no phase
-- was left without its closing, the wanted bucket stays the same from the step of First on, and from that of Enter on the
-- words that are lent and the reply stay as they are
pub record Isolates (e : CallContext) (old new : TraversalState) (lent_bucket left : Option BucketWords) (begin now : Counts) (want : Want) (state : State) : Type 0 where
  pub goes : FaultInvariantAfter e new (lent_words left) begin now state
  pub wants : Wants e new left begin now want
  pub once : ClosesOnce e old.workspace new.workspace (IsAborted state)
  pub lends : state ≡ Went → LendsOn new.workspace left want
  pub lost : (IsRight old.workspace → ⊥) → state ≡ Went → IsRight new.workspace → ⊥
  pub finishes : state ≡ Finished → IsRight old.workspace
  pub aims : 2 ≤ old.workspace.gate.done → IsRight old.workspace → new.workspace.wanted ≡ old.workspace.wanted
  pub still : 7 ≤ old.workspace.gate.done → IsRight old.workspace → IsLikeWorkspace old.workspace new.workspace × (lent_words left ≡ lent_words lent_bucket)
