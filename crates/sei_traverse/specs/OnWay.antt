-- A traversal that is on its way: where no strike fell since it began, it stands where its definition leads.
use Rattle.std.specs.Prelude.{◌≡◌, ℕ, ◌+◌, ◌-◌, ◌^◌, ◌<◌, ◌≤◌, List, Option, Some, None}
use Rattle.std.specs.Option.{option_map}
use Rattle.sei_fault.specs.Counts.{Counts}
use Rattle.sei_fault.specs.declared.place.Phase.{Phase}
use Rattle.sei_fault.specs.declared.place.Phase.TheVariants.{Guard, Take, Send, Done}
use Rattle.sei_words.specs.Words.{BucketWords}
use Rattle.sei_traverse.specs.declared.turned.State.{State}
use Rattle.sei_traverse.specs.declared.turned.State.TheVariants.{Went, Finished, Refused, Aborted}
use Rattle.sei_traverse.specs.declared.turned.Want.{Want}
use Rattle.sei_traverse.specs.declared.workspace.Workspace.{Workspace}
use Rattle.sei_traverse.specs.Acts.{at}
use Rattle.sei_traverse.specs.CallContext.{CallContext, TellsTime}
use Rattle.sei_traverse.specs.Given.{Given, FailsGuard}
use Rattle.sei_traverse.specs.State.{TraversalState}
use Rattle.sei_traverse.specs.Unstruck.{want_in, NextIn, Clean, IsFinished}

-- the words that are lent, if any
abbrev pub lent_words : Option BucketWords → Option (List ℕ)
lent_words = option_map (λ (b : BucketWords). b.words)

-- the bucket with this number is lent
abbrev pub LendsBucketOf : ℕ → Option BucketWords → Type 0
LendsBucketOf wanted None = ⊥
LendsBucketOf wanted (Some b) = b.bucket ≡ wanted

-- it is lent from the want of Take to the want of Give, and no other words are
abbrev pub LendsIn : ℕ → Phase → Option BucketWords → Type 0
LendsIn wanted Guard lent_bucket = lent_bucket ≡ None
LendsIn wanted Take lent_bucket = lent_bucket ≡ None
LendsIn wanted Send lent_bucket = lent_bucket ≡ None
LendsIn wanted Done lent_bucket = lent_bucket ≡ None
LendsIn wanted phase lent_bucket = LendsBucketOf wanted lent_bucket

-- the same of the call context's bucket

abbrev pub LendsBucket : CallContext → Option BucketWords → Type 0
LendsBucket e lent_bucket = LendsBucketOf e.call.bucket lent_bucket

abbrev pub Lends : CallContext → Phase → Option BucketWords → Type 0
Lends e phase lent_bucket = LendsIn e.call.bucket phase lent_bucket

-- a step's clock is the call context's: it tells the same, or the call context says nothing of what it tells, and that has 64 bits
abbrev pub TellsAs : Option ℕ → Option ℕ → Type 0
TellsAs None told = TellsTime told
TellsAs (Some time) told = told ≡ Some time

-- the traversal stands where an honest one does, and so many questions were asked at least
pub record IsClean (e : CallContext) (t : TraversalState) (lent : Option (List ℕ)) (begin now : Counts) : Type 0 where
  pub space : t.space ≡ e.space
  pub asked : ℕ
  pub clean : Clean e t.workspace lent t.steps asked
  pub counted : now.asked < 2 ^ 128 - 1 → begin.asked + asked ≤ now.asked

-- unless a strike fell since these counts
pub record OnWay (e : CallContext) (t : TraversalState) (lent : Option (List ℕ)) (begin now : Counts) : Type 0 where
  pub later : begin.struck ≤ now.struck
  pub clean : now.struck ≡ begin.struck → IsClean e t lent begin now

-- the same at its end
pub record IsCleanEnd (e : CallContext) (t : TraversalState) (begin now : Counts) : Type 0 where
  pub asked : ℕ
  pub finished : IsFinished e t.workspace t.steps asked
  pub counted : now.asked < 2 ^ 128 - 1 → begin.asked + asked ≤ now.asked

pub record AtEnd (e : CallContext) (t : TraversalState) (begin now : Counts) : Type 0 where
  pub later : begin.struck ≤ now.struck
  pub clean : now.struck ≡ begin.struck → IsCleanEnd e t begin now

-- behind a step of such a traversal: it is on its way or at its end, unless a strike fell, and only then it is refused or aborts
abbrev pub OnWayAfter : CallContext → TraversalState → Option (List ℕ) → Counts → Counts → State → Type 0
OnWayAfter e t lent begin now Went = OnWay e t lent begin now
OnWayAfter e t lent begin now Finished = AtEnd e t begin now
OnWayAfter e t lent begin now Refused = begin.struck < now.struck
OnWayAfter e t lent begin now (Aborted abort) = begin.struck < now.struck

-- and what it wants, and which phase comes next
pub record StaysOnWay (e : CallContext) (old new : TraversalState) (lent : Option (List ℕ)) (begin now : Counts) (want : Want) (state : State) : Type 0 where
  pub goes : OnWayAfter e new lent begin now state
  pub wants : now.struck ≡ begin.struck → want ≡ want_in e old.workspace old.workspace.place.phase
  pub next : now.struck ≡ begin.struck → NextIn old.workspace.place.phase old.workspace.place.index new.workspace.place.phase

-- a traversal in Guard whose input does not pass the tests
pub record IsUnfit (g : Given) (w : Workspace) : Type 0 where
  pub place : w.place ≡ at Guard 0
  pub fails : FailsGuard g w.sealed
