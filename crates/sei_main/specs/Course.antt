-- The traversal of a call under a planned fault, step by step, and what its caller does for it.
use Rattle.std.specs.Prelude.{ℕ, zero, suc, ◌+◌, Bool, true, false, List, [], Option, Some, None, slice_get, slice_set, unwrap_or}
use Rattle.std.specs.Option.{option_and_then}
use Rattle.mc_model.specs.declared.geometry.Geometry.{Geometry}
use Rattle.sei_fault.specs.declared.plan.Planned.{Planned}
use Rattle.sei_fault.specs.Script.{ScriptState, script_begin, script_answer, script_next}
use Rattle.sei_fault.specs.Scripted.{scripted}
use Rattle.sei_words.specs.LentBucket.{words_of, bucket_of}
use Rattle.sei_words.specs.Words.{BucketWords}
use Rattle.sei_code.specs.Coded.{read_of}
use Rattle.sei_pass.specs.declared.given.Sealed.{Sealed}
use Rattle.sei_traverse.specs.declared.turned.State.{State}
use Rattle.sei_traverse.specs.declared.turned.State.TheVariants.{Went, Finished, Refused, Aborted}
use Rattle.sei_traverse.specs.declared.turned.Want.{Want}
use Rattle.sei_traverse.specs.declared.turned.Want.TheVariants.{Take, Enter, Give, Send}
use Rattle.sei_traverse.specs.declared.workspace.Workspace.{Workspace}
use Rattle.sei_pass.specs.Spaces.{pass_space}
use Rattle.sei_traverse.specs.Bounds.{most_steps}
use Rattle.sei_traverse.specs.Phases.{reply_of}
use Rattle.sei_traverse.specs.Given.{given_of}
use Rattle.sei_traverse.specs.State.{begun_workspace}
use Rattle.sei_traverse.specs.Step.{StepResult, traversal_step}
use Rattle.sei_hand.specs.HandsBehavior.{hands_behavior}
use Rattle.sei_main.specs.declared.world.service.Entered.{Entered}
use Rattle.sei_main.specs.declared.world.service.Served.{Served}

-- what the traversal works on, the words of all buckets, the bucket that is lent, the core, and what became of the call
pub record Course : Type 0 where
  pub workspace : Workspace
  pub buckets : List BucketWords
  pub lent : Option ℕ
  pub core : ScriptState
  pub served : Served

-- the words of the bucket that is lent; one that is not there has none
abbrev pub lent_in : List BucketWords → Option ℕ → Option BucketWords
lent_in buckets lent = option_and_then (slice_get buckets) lent

-- the buckets, with these words in the bucket that is lent
abbrev pub put_back : List BucketWords → Option ℕ → Option BucketWords → List ℕ → List BucketWords
put_back buckets (Some b) (Some w) words = slice_set buckets b (record w { words = words })
put_back buckets lent lent_bucket words = buckets

-- a bucket is lent from the want of Take to the want of Give
abbrev pub lent_behind : Want → Option ℕ → Option ℕ
lent_behind (Take bucket) lent = Some bucket
lent_behind Give lent = None
lent_behind want lent = lent

-- the entry: at the noted time, with the reply
abbrev pub entered_by : Workspace → Entered
entered_by w = record { now = unwrap_or (option_and_then read_of w.notes.now) 0; reply = reply_of w }

-- what became of the call behind a step that wants this and turns out so
abbrev pub served_behind : Want → Workspace → Served → State → Served
served_behind Enter w s state = record { entered = Some (entered_by w); message = s.message; state = state }
served_behind Send w s state = record { entered = s.entered; message = w.wire.items; state = state }
served_behind want w s state = record { entered = s.entered; message = s.message; state = state }

abbrev pub is_ended : State → Bool
is_ended Went = false
is_ended Finished = true
is_ended Refused = true
is_ended (Aborted abort) = true

-- a call that begins
abbrev pub unserved : Served
unserved = record { entered = None; message = []; state = Went }

module _ (g : Geometry) (text : List ℕ) (now : ℕ) where
  -- one step of the traversal, on what is lent, and the core behind it
  abbrev pub turned : Workspace → Option BucketWords → ScriptState → StepResult × ScriptState
  turned w lent_bucket core = scripted script_answer script_next (traversal_step (given_of (hands_behavior g) text (pass_space g) (bucket_of lent_bucket)) now now w (words_of lent_bucket)) core

  -- the words are put back, and what the step wants is done
  abbrev pub met : Course → StepResult × ScriptState → Course
  met c t = record {
    workspace = t.0.workspace;
    buckets = put_back c.buckets c.lent (lent_in c.buckets c.lent) t.0.words;
    lent = lent_behind t.0.workspace.want c.lent;
    core = t.1;
    served = served_behind t.0.workspace.want t.0.workspace c.served t.0.state;
  }

  unfoldable pub course_on : Course → Course
  course_on c = met c (turned c.workspace (lent_in c.buckets c.lent) c.core)

  -- a traversal that does not go on makes no step
  abbrev pub course_if : State → Course → Course
  course_if Went c = course_on c
  course_if state c = c

  -- behind so many steps
  abbrev pub course_from : ℕ → Course → Course
  course_from zero c = c
  course_from (suc n) c = course_from n (course_if c.served.state c)

-- before the first step
abbrev pub course_begun : Geometry → List BucketWords → Sealed → Option Planned → Course
course_begun g buckets sealed plan = record { workspace = begun_workspace (pass_space g) sealed; buckets = buckets; lent = None; core = script_begin plan; served = unserved }

-- the traversal of a call to its end: with one fault at most it makes no more than `most_steps`
abbrev pub course_of : Geometry → List ℕ → ℕ → List BucketWords → Sealed → Option Planned → Course
course_of g text now buckets sealed plan = course_from g text now (most_steps (pass_space g) + 1) (course_begun g buckets sealed plan)
