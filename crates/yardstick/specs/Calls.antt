-- Calls, each of which is a whole traversal, and how many steps they made.
use Rattle.std.specs.Prelude.{◌≡◌, ℕ, ◌+◌, ◌-◌, ◌^◌, Bool, true, false, List, Option, Some, None, min}
use Rattle.mc_model.specs.declared.geometry.Geometry.{Geometry}
use Rattle.sei_code.specs.Codes.{message_code}
use Rattle.sei_code.specs.Coded.{sealed}
use Rattle.sei_fault.specs.Counts.{Counts}
use Rattle.sei_fault.specs.Plain.{plain_counts, plain_answer, plain_next}
use Rattle.sei_fault.specs.Question.{Question, Answer}
use Rattle.sei_fault.specs.Script.{script_counts, script_answer, script_next}
use Rattle.sei_fault.specs.Scripted.{function_core}
use Rattle.sei_pass.specs.declared.given.Sealed.{Sealed}
use Rattle.sei_pass.specs.Spaces.{pass_space}
use Rattle.sei_traverse.specs.declared.turned.State.{State}
use Rattle.sei_traverse.specs.declared.turned.State.TheVariants.{Went, Finished}
use Rattle.sei_traverse.specs.declared.turned.Turned.{Turned}
use Rattle.sei_traverse.specs.declared.turned.Want.{Want}
use Rattle.sei_traverse.specs.declared.turned.Want.TheVariants.{Take, Give}
use Rattle.sei_traverse.specs.Running.{On, RunsOn}
use Rattle.sei_hand.specs.HandsBehavior.{hands_behavior}
use Rattle.sei_traverse.specs.State.{TraversalState, begun_traversal}
use Rattle.sei_words.specs.Words.{BucketWords}
use Rattle.yardstick.specs.declared.order.CoreKind.{CoreKind}
use Rattle.yardstick.specs.declared.order.CoreKind.TheVariants.{Plain, Script}

-- the only call of a request
abbrev pub sealed_of : List ℕ → Sealed
sealed_of text = record { number = 0; nth = sealed 0; code = message_code 0 text; answer = 1 }

-- the words of the bucket, if they are lent
abbrev pub lent_if : Bool → BucketWords → Option BucketWords
lent_if true words = Some words
lent_if false words = None

-- whether the bucket is lent after a step with this want: it is from the want Take to the want Give
abbrev pub lent_after : Want → Bool → Bool
lent_after (Take bucket) lent = true
lent_after Give lent = false
lent_after want lent = lent

-- a step of the definition, or more of them, at this time
pub record Ran {S : Type 0} (gives : S → (q : Question) → Answer q → S → Type 0) (counts : S → Counts) (told : Option ℕ) (g : Geometry) (text : List ℕ) (x z : On S) (t : Turned) : Type 0 where
  pub before : ℕ
  pub run : RunsOn gives counts told (hands_behavior g) text before x z t

-- a traversal for the call of a request came here from its begin, by steps of the definition alone, under one core,
-- whatever was lent at each of them. The state is whether it goes on
pub data Came {S : Type 0} (gives : S → (q : Question) → Answer q → S → Type 0) (counts : S → Counts) (g : Geometry) (text : List ℕ) : TraversalState → S → State → Type 0 where
  Begins : (core : S) → Came gives counts g text (begun_traversal (pass_space g) (sealed_of text)) core Went
  GoesOn : (x z : On S) (t : Turned) → Came gives counts g text x.traversal x.core Went →
      Ran gives counts (Some 0) g text x z t → Came gives counts g text z.traversal z.core t.state

-- a traversal for it finished, after this many steps
pub record Finishes {S : Type 0} (gives : S → (q : Question) → Answer q → S → Type 0) (counts : S → Counts) (g : Geometry) (text : List ℕ) (steps : ℕ) : Type 0 where
  pub traversal : TraversalState
  pub core : S
  pub came : Came gives counts g text traversal core Finished
  pub counted : steps ≡ traversal.steps

-- n calls of a request finished, with this many steps in all; at the last value of a u64 that number does not change
pub data MadeFor {S : Type 0} (gives : S → (q : Question) → Answer q → S → Type 0) (counts : S → Counts) (g : Geometry) (text : List ℕ) : ℕ → ℕ → Type 0 where
  NoCall : MadeFor gives counts g text 0 0
  OneMore : (calls steps more : ℕ) → MadeFor gives counts g text calls steps → Finishes gives counts g text more →
      MadeFor gives counts g text (calls + 1) (min (steps + more) (2 ^ 64 - 1))

-- the same under the core that is named
abbrev pub MadeUnder : CoreKind → Geometry → List ℕ → ℕ → ℕ → Type 0
MadeUnder Plain g text calls steps = MadeFor (function_core plain_answer plain_next) plain_counts g text calls steps
MadeUnder Script g text calls steps = MadeFor (function_core script_answer script_next) script_counts g text calls steps
