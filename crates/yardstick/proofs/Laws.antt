-- What a run of a traversal keeps, and what many of them come to.
use Rattle.std.proofs.Common.{◌≡◌, ℕ, ◌≤◌, true, List, length, Option, Some, None, refl, sym, ap, ◌∙◌, subst}
use Rattle.mc_model.specs.declared.geometry.Geometry.{Geometry}
use Rattle.mc_model.specs.Server.{IsValid}
use Rattle.sei_code.specs.declared.coded.Coded.{Coded}
use Rattle.sei_fault.specs.Counts.{Counts}
use Rattle.sei_fault.specs.Question.{Question, Answer}
use Rattle.sei_hand.specs.Requests.{parsed_call}
use Rattle.sei_hand.proofs.PublicHands.{sealed_words_fit, one_geometry}
use Rattle.sei_pass.specs.declared.given.Sealed.{Sealed}
use Rattle.sei_pass.specs.declared.spaces.PassSpace.{PassSpace}
use Rattle.sei_pass.specs.Setting.{sealed_call}
use Rattle.sei_pass.specs.Spaces.{pass_space}
use Rattle.sei_stmt.specs.Handling.{parsed_words}
use Rattle.sei_traverse.specs.declared.turned.State.{State}
use Rattle.sei_traverse.specs.declared.turned.State.TheVariants.{Went}
use Rattle.sei_traverse.specs.declared.turned.Turned.{Turned}
use Rattle.sei_traverse.specs.Running.{On, on, Makes}
use Rattle.sei_traverse.specs.State.{TraversalState, begun_traversal, is_running}
use Rattle.sei_traverse.proofs.PublicRuns.{run_space, run_lent}
use Rattle.sei_words.specs.Words.{BucketWords}
use Rattle.sei_hand.specs.HandsBehavior.{hands_behavior}
use Rattle.yardstick.specs.Calls.{sealed_of, Ran, Came}
use Rattle.yardstick.specs.Calls.Came.{Begins, GoesOn}

-- the input words of a sealed call have room
pub input_fits : (space : PassSpace) (g : Geometry) (text : List ℕ) (nth : Coded) → space ≡ pass_space g → IsValid g → length (parsed_words (sealed_call (parsed_call g text) nth)) ≤ space.input
input_fits space g text nth is valid = subst (λ (s : PassSpace). length (parsed_words (sealed_call (parsed_call g text) nth)) ≤ s.input) (sym is) (sealed_words_fit g text nth valid)

module _ {S : Type 0} (gives : S → (q : Question) → Answer q → S → Type 0) (counts : S → Counts) (told : Option ℕ) (g : Geometry) (text : List ℕ) where
  -- a step by itself is a run
  pub one_step : (x z : On S) (t : Turned) → Makes gives counts told (hands_behavior g) text x z t → Ran gives counts told g text x z t
  one_step x z t m = record { before = 0; run = record { last = x; chain = refl; makes = m } }

  pub ran_space : (x z : On S) (t : Turned) → Ran gives counts told g text x z t → z.traversal.space ≡ x.traversal.space
  ran_space x z t r = run_space gives counts told (hands_behavior g) text r.before x z t r.run

  -- the lent words keep their geometry
  pub ran_words : (old new : TraversalState) (before after : BucketWords) (core later : S) (t : Turned) →
      Ran gives counts told g text (on old (Some before) core) (on new (Some after) later) t → after.geometry ≡ before.geometry
  ran_words old new before after core later t r = one_geometry after before (run_lent gives counts told (hands_behavior g) text r.before (on old (Some before) core) (on new (Some after) later) t r.run)

  pub ran_running : (x z : On S) (t : Turned) → Ran gives counts told g text x z t → t.state ≡ Went → z.traversal.running ≡ true
  ran_running x z t r went = r.run.makes.running ∙ ap is_running went

-- a traversal that begins
pub came_begun : {S : Type 0} (gives : S → (q : Question) → Answer q → S → Type 0) (counts : S → Counts) (g : Geometry) (text : List ℕ) (t : TraversalState) (space : PassSpace) (sealed : Sealed) (core : S) →
    t ≡ begun_traversal space sealed → space ≡ pass_space g → sealed ≡ sealed_of text → Came gives counts g text t core Went
came_begun gives counts g text t space sealed core begun is of =
    subst (λ (x : TraversalState). Came gives counts g text x core Went) (sym (begun ∙ ap (λ (k : PassSpace). begun_traversal k sealed) is ∙ ap (begun_traversal (pass_space g)) of)) (Begins core)

-- a run leads on
pub came_on : {S : Type 0} (gives : S → (q : Question) → Answer q → S → Type 0) (counts : S → Counts) (g : Geometry) (text : List ℕ) (x z : On S) (t : Turned) (state : State) →
    Came gives counts g text x.traversal x.core Went → Ran gives counts (Some 0) g text x z t → t.state ≡ state → Came gives counts g text z.traversal z.core state
came_on gives counts g text x z t state c r is = subst (λ (s : State). Came gives counts g text z.traversal z.core s) is (GoesOn x z t c r)
