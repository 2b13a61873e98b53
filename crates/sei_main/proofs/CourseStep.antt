-- One step of the traversal of a call under a planned fault: what is known of it is known behind it.
use Rattle.std.proofs.Common.{◌≡◌, ℕ, List, true, Option, Some, None, refl, sym, subst, arith}
use Rattle.mc_model.specs.declared.geometry.Geometry.{Geometry}
use Rattle.sei_fault.specs.Counts.{Counts}
use Rattle.sei_fault.specs.Question.{Question, Answer}
use Rattle.sei_fault.specs.Script.{ScriptState, script_begin, script_answer, script_next, script_counts}
use Rattle.sei_fault.specs.ScriptLaw.{script_lawful}
use Rattle.sei_fault.specs.Scripted.{function_core}
use Rattle.sei_fault.proofs.Public.{always}
use Rattle.sei_words.specs.LentBucket.{words_of, bucket_of}
use Rattle.sei_words.specs.Words.{BucketWords}
use Rattle.sei_traverse.specs.declared.workspace.Workspace.{Workspace}
use Rattle.sei_traverse.specs.Bounds.{StepsWithin, StepsAfter}
use Rattle.sei_traverse.specs.CallContext.{CallContext}
use Rattle.sei_traverse.specs.FaultInvariant.{FaultInvariant, LendsWanted, Isolates}
use Rattle.sei_traverse.specs.OnWay.{lent_words, TellsAs}
use Rattle.sei_pass.specs.Spaces.{pass_space}
use Rattle.sei_traverse.specs.Given.{Given, given_of}
use Rattle.sei_traverse.specs.State.{TraversalState, IsTraversal, one_more}
use Rattle.sei_traverse.specs.Step.{StepResult, step_result, traversal_step, TimedTwice}
use Rattle.sei_traverse.specs.Trusted.{IsTrusted}
use Rattle.sei_traverse.specs.Running.{On, on, StepsTo}
use Rattle.sei_traverse.proofs.PublicSteps.{step_isolates, step_within}
use Rattle.sei_main.specs.Course.{turned}
use Rattle.sei_hand.specs.Requests.{parsed_call}
use Rattle.sei_hand.specs.HandsBehavior.{hands_behavior}
use Rattle.sei_main.proofs.ScriptedRuns.{runs_scripted, one_falls}
use Rattle.sei_traverse.proofs.PublicLentBuckets.{left_in, left_place, left_words}
use Rattle.sei_traverse.proofs.PublicWorkspaceKept.{KeepsWorkspace, step_kept}

-- the traversal on this workspace, behind so many steps
abbrev pub traversal : Geometry → Workspace → ℕ → TraversalState
traversal g w steps = record { workspace = w; space = pass_space g; steps = steps; running = true }

-- no question was asked, and no strike fell
abbrev pub none_asked : Counts
none_asked = script_counts (script_begin None)

-- the clock of a call context of that time tells the same
tells : (now : ℕ) (o : Option ℕ) → o ≡ Some now → TellsAs o (Some now)
tells now None e = absurd cc
tells now (Some time) e = sym e

module _ (g : Geometry) (text : List ℕ) (now : ℕ) (w : Workspace) (lent_bucket : Option BucketWords) (core : ScriptState) where
  abbrev gives : ScriptState → (q : Question) → Answer q → ScriptState → Type 0
  gives = function_core script_answer script_next

  abbrev given : Given
  given = given_of (hands_behavior g) text (pass_space g) (bucket_of lent_bucket)

  -- how it turns out
  abbrev pub course_step : StepResult × ScriptState
  course_step = turned g text now w lent_bucket core

  runs : TimedTwice gives (Some now) (λ now later. traversal_step given now later w (words_of lent_bucket)) core course_step.1 (step_result course_step.0.workspace course_step.0.words course_step.0.state)
  runs = record { now = now; later = now; answer = refl; answer_later = refl; runs = runs_scripted script_answer script_next (traversal_step given now now w (words_of lent_bucket)) core }

  -- the workspace keeps its layout, and the words their number
  pub kept : KeepsWorkspace (pass_space g) (parsed_call g text) w (words_of lent_bucket) course_step.0.workspace course_step.0.words
  unfolding runs
  kept = always gives (λ (y : StepResult). KeepsWorkspace (pass_space g) (parsed_call g text) w (words_of lent_bucket) y.workspace y.words) (traversal_step given now now w (words_of lent_bucket)) core course_step.1 course_step.0 (step_kept (pass_space g) (parsed_call g text) w (words_of lent_bucket) given refl refl now now) runs.runs

  abbrev before : ℕ → On ScriptState
  before steps = on (traversal g w steps) lent_bucket core

  abbrev after : ℕ → On ScriptState
  after steps = on (traversal g course_step.0.workspace (one_more steps)) (left_in lent_bucket course_step.0.words) course_step.1

  steps_to : (steps : ℕ) → StepsTo gives (Some now) (hands_behavior g) text (before steps) (after steps) course_step.0.state
  steps_to steps = record {
    turned = subst (λ (ws : List ℕ). TimedTwice gives (Some now) (λ now later. traversal_step given now later w (words_of lent_bucket)) core course_step.1 (step_result course_step.0.workspace ws course_step.0.state)) (sym (left_words lent_bucket course_step.0.words kept.long)) runs;
    lent = left_place lent_bucket course_step.0.words;
    sealed = kept.sealed;
    space = refl;
    steps = refl;
  }

  -- the number of steps stays bounded
  pub stays_within : (begin : Counts) (steps : ℕ) → IsTraversal (traversal g w steps) → StepsWithin (traversal g w steps) begin (script_counts core) →
      StepsAfter (traversal g course_step.0.workspace (one_more steps)) begin (script_counts course_step.1) course_step.0.state
  stays_within begin steps is within = step_within gives script_counts script_lawful (Some now) (hands_behavior g) text (before steps) (after steps) course_step.0.state (steps_to steps) is begin within

  -- one strike is isolated
  pub isolates : (e : CallContext) (steps : ℕ) → IsTrusted e → e.behavior ≡ hands_behavior g → e.input ≡ text → e.clock ≡ Some now → LendsWanted w lent_bucket → FaultInvariant e (traversal g w steps) (lent_words lent_bucket) none_asked (script_counts core) →
      Isolates e (traversal g w steps) (traversal g course_step.0.workspace (one_more steps)) lent_bucket (left_in lent_bucket course_step.0.words) none_asked (script_counts course_step.1) course_step.0.workspace.want course_step.0.state
  isolates e steps trusted behavior input clock lends facts =
      step_isolates gives script_counts script_lawful (Some now) (hands_behavior g) text (before steps) (after steps) course_step.0.state (steps_to steps) e none_asked
      trusted (tells now e.clock clock) behavior input lends facts (omega (arith, one_falls course_step.1.stage))
