-- One step of a traversal on the buckets of a server, as the code makes it.
use Rattle.std.specs.Prelude.{◌≡◌, ℕ, List, Option, Some}
use Rattle.mc_model.specs.declared.geometry.Geometry.{Geometry}
use Rattle.sei_fault.specs.Counts.{Counts}
use Rattle.sei_fault.specs.Script.{ScriptState, script_answer, script_next, script_counts}
use Rattle.sei_fault.specs.Scripted.{function_core}
use Rattle.sei_words.specs.Words.{BucketWords}
use Rattle.sei_traverse.specs.declared.turned.Turned.{Turned}
use Rattle.sei_traverse.specs.Bounds.{StepsWithin, StepsAfter}
use Rattle.sei_traverse.specs.Running.{on, Makes}
use Rattle.sei_traverse.specs.State.{TraversalState, IsTraversal, one_more, is_running}
use Rattle.sei_hand.specs.HandsBehavior.{hands_behavior}
use Rattle.sei_main.specs.Course.{lent_in, put_back, turned}

-- a step on what is lent is that of the definition, under the functions of a core with a plan
pub record IsStep (g : Geometry) (text : List ℕ) (now : ℕ) (before after : Option BucketWords) (old new : TraversalState) (core later : ScriptState) (t : Turned) : Type 0 where
  pub makes : Makes (function_core script_answer script_next) script_counts (Some now) (hands_behavior g) text (on old before core) (on new after later) t
  pub within : (begin : Counts) → StepsWithin old begin (script_counts core) → StepsAfter new begin (script_counts later) t.state

-- and so is one on the buckets
pub record IsTurn (g : Geometry) (text : List ℕ) (now : ℕ) (lent : Option ℕ) (old new : TraversalState) (before after : List BucketWords) (core later : ScriptState) (t : Turned) : Type 0 where
  pub words : List ℕ
  pub is : turned g text now old.workspace (lent_in before lent) core ≡ (record { workspace = new.workspace; words = words; state = t.state }, later)
  pub buckets : after ≡ put_back before lent (lent_in before lent) words
  pub want : t.want ≡ new.workspace.want
  pub sealed : new.workspace.sealed ≡ old.workspace.sealed
  pub space : new.space ≡ old.space
  pub steps : new.steps ≡ one_more old.steps
  pub running : new.running ≡ is_running t.state
  pub rooms : IsTraversal new
  pub within : (begin : Counts) → StepsWithin old begin (script_counts core) → StepsAfter new begin (script_counts later) t.state
