-- What a whole traversal wants, over all its steps.
use Rattle.std.specs.Prelude.{◌≡◌, ℕ, Bool, true, false, List, [], ◌∷◌, ◌++◌, ◌≤◌, length, filter, Option, None, ⊤}
use Rattle.sei_fault.specs.Counts.{Counts}
use Rattle.sei_words.specs.Words.{BucketWords}
use Rattle.sei_traverse.specs.declared.turned.State.{State}
use Rattle.sei_traverse.specs.declared.turned.State.TheVariants.{Went}
use Rattle.sei_traverse.specs.declared.turned.Want.{Want}
use Rattle.sei_traverse.specs.declared.turned.Want.TheVariants.{Nothing, Take as WantTake, Enter as WantEnter, Give as WantGive}
use Rattle.sei_traverse.specs.CallContext.{CallContext}
use Rattle.sei_traverse.specs.FaultInvariant.{Isolates}
use Rattle.sei_traverse.specs.Phases.{reply_of, send_want}
use Rattle.sei_traverse.specs.State.{TraversalState, begun_traversal}

-- what the next step is lent, if the last one wanted this and left this of the bucket: after the want of Take any bucket,
-- after that of Give none, and else what is left
abbrev pub LendsNext : Want → Option BucketWords → Option BucketWords → Type 0
LendsNext (WantTake bucket) left next = ⊤
LendsNext WantGive left next = next ≡ None
LendsNext want left next = next ≡ left

-- whatever is lent next
abbrev pub LendsAny : Want → Option BucketWords → Option BucketWords → Type 0
LendsAny want left next = ⊤

-- steps from a traversal on, each of which is isolated, whatever was asked: what each of them wanted, in order, where the traversal
-- stands after them, what is left of the bucket, and whether it goes on. By what each wanted and left, the next is lent what it may be
pub data StepsFrom (Lends : Want → Option BucketWords → Option BucketWords → Type 0) (e : CallContext) (begin : Counts) (from : TraversalState) (lent : Option BucketWords) :
    List Want → TraversalState → Option BucketWords → State → Type 0 where
  Here : StepsFrom Lends e begin from lent [] from lent Went
  GoesOn : (wants : List Want) (old new : TraversalState) (left next last : Option BucketWords) (now : Counts) (state : State) →
      StepsFrom Lends e begin from lent wants old left Went → Lends old.workspace.want left next →
      Isolates e old new next last begin now new.workspace.want state → StepsFrom Lends e begin from lent (wants ++ new.workspace.want ∷ []) new last state

-- all steps since it began, whatever was lent
abbrev pub Steps : CallContext → Counts → List Want → TraversalState → Option BucketWords → State → Type 0
Steps e begin wants t left state = StepsFrom LendsAny e begin (begun_traversal e.space e.sealed) None wants t left state

-- a step that comes to x wants Enter, and later steps, each lent what is left, come to y
pub record EntersAt (e : CallContext) (begin : Counts) (x : TraversalState) (lent : Option BucketWords)
    (y : TraversalState) (left : Option BucketWords) (state : State) : Type 0 where
  pub wants : List Want
  pub steps : Steps e begin wants x lent Went
  pub enters : x.workspace.want ≡ WantEnter
  pub more : List Want
  pub later : StepsFrom LendsNext e begin x lent more y left state

-- this holds of where Enter is wanted and what is left there, and of where later steps come and what they leave
abbrev pub OfWhatIsEntered : (TraversalState → Option BucketWords → TraversalState → Option BucketWords → State → Type 0) → Type 0
OfWhatIsEntered Holds =
    (e : CallContext) (begin : Counts) (x y : TraversalState) (lent left : Option BucketWords) (state : State) → EntersAt e begin x lent y left state → Holds x lent y left state

abbrev pub is_wanted : Want → Bool
is_wanted Nothing = false
is_wanted want = true

-- the wants other than Nothing, in order
abbrev pub wanted_in : List Want → List Want
wanted_in wants = filter is_wanted wants

-- all wants of a traversal, in order: Take of this bucket, Enter, Give, and Send where this reply is not empty
abbrev pub all_wants : ℕ → List ℕ → List Want
all_wants bucket reply = wanted_in (WantTake bucket ∷ WantEnter ∷ WantGive ∷ send_want reply ∷ [])

-- what was wanted is all that is wanted for the call's bucket and this reply
abbrev pub WantsAll : CallContext → List Want → TraversalState → Type 0
WantsAll e wants t = wanted_in wants ≡ all_wants e.call.bucket (reply_of t.workspace)

-- for some bucket and reply, what was wanted is a beginning of all wants: so each was wanted once at most, none without
-- those before it, and no second bucket. Where more than Take was wanted, the bucket is the call's
pub record WantsOnce (e : CallContext) (wants : List Want) : Type 0 where
  pub bucket : ℕ
  pub reply : List ℕ
  pub rest : List Want
  pub order : wanted_in wants ++ rest ≡ all_wants bucket reply
  pub aimed : 2 ≤ length (wanted_in wants) → bucket ≡ e.call.bucket
