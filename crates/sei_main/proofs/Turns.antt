-- The traversal of a call, step by step, is that of the definition.
use Rattle.std.proofs.Common.{◌≡◌, ℕ, zero, suc, ◌+◌, ◌-◌, ◌^◌, ◌<◌, ◌≤◌, true, false, List, [], ◌∷◌, length, Option, Some, None, refl, sym, ap, ◌∙◌, subst, arith}
use Rattle.std.specs.Prelude.{All, slice_get, slice_set}
use Rattle.std.proofs.lemmas.List.Elements.{All-set}
use Rattle.mc_model.specs.declared.geometry.Geometry.{Geometry}
use Rattle.sei_fault.specs.Script.{ScriptState, script_answer, script_next, script_counts}
use Rattle.sei_fault.specs.Scripted.{function_core}
use Rattle.sei_fault.specs.Tree.{Runs}
use Rattle.sei_fault.proofs.Public.{scripted_runs}
use Rattle.sei_words.specs.LentBucket.{Place, place_of, words_of, bucket_of}
use Rattle.sei_words.specs.Words.{BucketWords}
use Rattle.sei_traverse.specs.declared.turned.State.{State}
use Rattle.sei_traverse.specs.declared.turned.State.TheVariants.{Went, Finished, Refused, Aborted}
use Rattle.sei_traverse.specs.declared.turned.Turned.{Turned}
use Rattle.sei_traverse.specs.declared.turned.Want.{Want}
use Rattle.sei_traverse.specs.declared.turned.Want.TheVariants.{Nothing, Take, Enter, Give, Send}
use Rattle.sei_traverse.specs.declared.workspace.Workspace.{Workspace}
use Rattle.sei_traverse.specs.Bounds.{StepsWithin, StepsAfter}
use Rattle.sei_pass.specs.declared.spaces.PassSpace.{PassSpace}
use Rattle.sei_pass.specs.Spaces.{pass_space}
use Rattle.sei_traverse.specs.Given.{given_of}
use Rattle.sei_traverse.specs.State.{TraversalState, IsTraversal, one_more, is_running}
use Rattle.sei_traverse.specs.Step.{StepResult, step_result, traversal_step, TimedTwice}
use Rattle.sei_main.specs.declared.world.service.Served.{Served}
use Rattle.sei_main.specs.Course.{Course, lent_in, put_back, lent_behind, served_behind, is_ended, turned, met, course_on, course_if, course_from}
use Rattle.sei_hand.specs.HandsBehavior.{hands_behavior}
use Rattle.sei_main.specs.Tables.{IsOfGeometry}
use Rattle.sei_main.specs.Turning.{IsStep, IsTurn}

-- One step.

-- what the code's step does is what the definition's does
pub turn_is : (g : Geometry) (text : List ℕ) (now : ℕ) (lent_bucket : Option BucketWords) (words : List ℕ) (old : TraversalState) (workspace : Workspace) (state : State) (core later : ScriptState) → old.space ≡ pass_space g →
    TimedTwice (function_core script_answer script_next) (Some now) (λ now later. traversal_step (given_of (hands_behavior g) text old.space (bucket_of lent_bucket)) now later old.workspace (words_of lent_bucket)) core later (step_result workspace words state) →
    turned g text now old.workspace lent_bucket core ≡ (record { workspace = workspace; words = words; state = state }, later)
turn_is g text now lent_bucket words old workspace state core later e t =
    let tree = λ (x : PassSpace) (a b : ℕ). traversal_step (given_of (hands_behavior g) text x (bucket_of lent_bucket)) a b old.workspace (words_of lent_bucket) in
    let gives = function_core script_answer script_next in
    let x : StepResult = step_result workspace words state in
    let first : Runs gives (tree old.space now t.later) core later x = subst (λ (n : ℕ). Runs gives (tree old.space n t.later) core later x) t.answer t.runs in
    let both : Runs gives (tree old.space now now) core later x = subst (λ (n : ℕ). Runs gives (tree old.space now n) core later x) t.answer_later first in
    let here : Runs gives (tree (pass_space g) now now) core later x = subst (λ (y : PassSpace). Runs gives (tree y now now) core later x) e both in
    sym (scripted_runs script_answer script_next (tree (pass_space g) now now) core later x here)

-- the same bucket of the same geometry
pub same_place : (a b : BucketWords) → place_of (Some a) ≡ place_of (Some b) → (a.bucket ≡ b.bucket) × (a.geometry ≡ b.geometry)
same_place a b e =
    let back : Option Place → Place = λ o. elim o [ None ↦ record { bucket = a.bucket; geometry = a.geometry } | Some x ↦ x ] in
    (ap (λ o. (back o).bucket) e, ap (λ o. (back o).geometry) e)

-- words of the same bucket are the first ones with others in their place
pub words_are : (first w : BucketWords) (words : List ℕ) → w.words ≡ words → w.bucket ≡ first.bucket → w.geometry ≡ first.geometry → w ≡ record first { words = words }
words_are first w words a b c =
    let make : List ℕ → ℕ → Geometry → BucketWords = λ ws n g. record { words = ws; bucket = n; geometry = g } in
    ap (λ x. make x w.bucket w.geometry) a ∙ ap (λ n. make words n w.geometry) b ∙ ap (λ g. make words first.bucket g) c

-- what was lent is put back
pub put_back_is : (buckets : List BucketWords) (b : ℕ) (w left : BucketWords) → slice_get buckets b ≡ Some w → place_of (Some left) ≡ place_of (Some w) →
    slice_set buckets b left ≡ put_back buckets (Some b) (lent_in buckets (Some b)) left.words
put_back_is buckets b w left e p =
    let same = same_place left w p in
    ap (slice_set buckets b) (words_are w left left.words refl same.0 same.1) ∙ sym (ap (λ (o : Option BucketWords). put_back buckets (Some b) o left.words) e)

pub still_laid_out : (g : Geometry) (buckets : List BucketWords) (b : ℕ) (w left : BucketWords) → w.geometry ≡ g → place_of (Some left) ≡ place_of (Some w) → All (IsOfGeometry g) buckets → All (IsOfGeometry g) (slice_set buckets b left)
still_laid_out g buckets b w left e p all = All-set (IsOfGeometry g) buckets b left ((same_place left w p).1 ∙ e) all

-- a bucket that is not there has no words
none_there : (buckets : List BucketWords) (b : ℕ) → length buckets ≤ b → slice_get buckets b ≡ None
none_there [] b h = refl
none_there (x ∷ buckets) zero h = absurd (omega (arith, h))
none_there (x ∷ buckets) (suc b) h = none_there buckets b (omega (arith, h))

none_put : (buckets : List BucketWords) (lent : Option ℕ) (words : List ℕ) → put_back buckets lent None words ≡ buckets
none_put buckets None words = refl
none_put buckets (Some b) words = refl

module _ (g : Geometry) (text : List ℕ) (now : ℕ) (buckets : List BucketWords) (lent : Option ℕ) (old new : TraversalState) (core later : ScriptState) (t : Turned) (same : old.space ≡ pass_space g) where
  -- a step with the words of a bucket
  pub turned_with : (b : ℕ) (w left : BucketWords) → lent ≡ Some b → slice_get buckets b ≡ Some w → IsStep g text now (Some w) (Some left) old new core later t →
      IsTurn g text now lent old new buckets (slice_set buckets b left) core later t
  turned_with b w left e there st = record {
    words = left.words;
    is = ap (λ (o : Option BucketWords). turned g text now old.workspace o core) (ap (lent_in buckets) e ∙ there) ∙ turn_is g text now (Some w) left.words old new.workspace t.state core later same st.makes.turned;
    buckets = put_back_is buckets b w left there st.makes.lent ∙ ap (λ (l : Option ℕ). put_back buckets l (lent_in buckets l) left.words) (sym e);
    want = st.makes.want;
    sealed = st.makes.sealed;
    space = st.makes.space;
    steps = st.makes.steps;
    running = st.makes.running;
    rooms = st.makes.rooms;
    within = st.within;
  }

  -- a step without any
  pub turned_without : lent_in buckets lent ≡ None → IsStep g text now None None old new core later t → IsTurn g text now lent old new buckets buckets core later t
  turned_without none st = record {
    words = [];
    is = ap (λ (o : Option BucketWords). turned g text now old.workspace o core) none ∙ turn_is g text now None [] old new.workspace t.state core later same st.makes.turned;
    buckets = sym (none_put buckets lent []) ∙ ap (λ (o : Option BucketWords). put_back buckets lent o []) (sym none);
    want = st.makes.want;
    sealed = st.makes.sealed;
    space = st.makes.space;
    steps = st.makes.steps;
    running = st.makes.running;
    rooms = st.makes.rooms;
    within = st.within;
  }

  pub turned_past : (b : ℕ) → lent ≡ Some b → length buckets ≤ b → IsStep g text now None None old new core later t → IsTurn g text now lent old new buckets buckets core later t
  turned_past b e past st = turned_without (ap (lent_in buckets) e ∙ none_there buckets b past) st

-- All steps.

-- a traversal that has ended makes no step
pub ended_stays : (g : Geometry) (text : List ℕ) (now n : ℕ) (c : Course) → (c.served.state ≡ Went → ⊥) → course_from g text now n c ≡ c
ended_stays g text now zero c h = refl
ended_stays g text now (suc n) c h = ap (course_from g text now n) (still c.served.state h) ∙ ended_stays g text now n c h
  where
    still : (state : State) → (state ≡ Went → ⊥) → course_if g text now state c ≡ c
    still Went h = absurd (h refl)
    still Finished h = refl
    still Refused h = refl
    still (Aborted abort) h = refl

-- the course of a traversal, as the code has it
abbrev pub course_at : TraversalState → List BucketWords → Option ℕ → ScriptState → Served → Course
course_at t buckets lent core served = record { workspace = t.workspace; buckets = buckets; lent = lent; core = core; served = served }

-- behind k of so many steps it goes on, and what is left of its steps leads where all of them lead from its begin
pub record Underway (g : Geometry) (text : List ℕ) (now limit : ℕ) (start : Course) (k : ℕ) (t : TraversalState) (buckets : List BucketWords) (lent : Option ℕ) (core : ScriptState) (served : Served) : Type 0 where
  pub rest : course_from g text now (limit - k) (course_at t buckets lent core served) ≡ course_from g text now limit start
  pub going : served.state ≡ Went
  pub running : t.running ≡ true
  pub space : t.space ≡ pass_space g
  pub sealed : t.workspace.sealed ≡ start.workspace.sealed
  pub laid_out : All (IsOfGeometry g) buckets
  pub steps : t.steps ≡ k
  pub rooms : 0 < k → IsTraversal t
  pub within : StepsWithin t (script_counts start.core) (script_counts core)

-- a state either has ended or goes on
not_ended : (state : State) → is_ended state ≡ true → state ≡ Went → ⊥
not_ended state e f = let z : false ≡ true = ap is_ended (sym f) ∙ e in cc

still_goes : (state : State) → is_ended state ≡ false → state ≡ Went
still_goes Went e = refl
still_goes Finished e = let z : ⊥ = cc in absurd z
still_goes Refused e = let z : ⊥ = cc in absurd z
still_goes (Aborted abort) e = let z : ⊥ = cc in absurd z

-- how it turned out is told
state_behind : (want : Want) (w : Workspace) (s : Served) (state : State) → (served_behind want w s state).state ≡ state
state_behind want w s state = by want
  where
    by : (want : Want) → (served_behind want w s state).state ≡ state
    by Nothing = refl
    by (Take b) = refl
    by Enter = refl
    by Give = refl
    by Send = refl

module _ {g : Geometry} {text : List ℕ} {now limit : ℕ} {start : Course} {k : ℕ} {old new : TraversalState} {before after : List BucketWords} {lent : Option ℕ} {core later : ScriptState} {served : Served} {t : Turned}
    (u : Underway g text now limit start k old before lent core served) (st : IsTurn g text now lent old new before after core later t) (lt : k < limit) where
  abbrev next : Course
  next = course_at new after (lent_behind t.want lent) later (served_behind t.want new.workspace served t.state)

  -- the step
  on : course_on g text now (course_at old before lent core served) ≡ next
  unfolding course_on
  on =
      ap (met g text now (course_at old before lent core served)) st.is
      ∙ ap (λ (b : List BucketWords). record { workspace = new.workspace; buckets = b; lent = lent_behind new.workspace.want lent; core = later; served = served_behind new.workspace.want new.workspace served t.state }) (sym st.buckets)
      ∙ ap (λ (x : Want). course_at new after (lent_behind x lent) later (served_behind x new.workspace served t.state)) (sym st.want)

  pub onward : course_from g text now (limit - (k + 1)) next ≡ course_from g text now limit start
  onward =
      let one : limit - k ≡ suc (limit - (k + 1)) = omega (arith, lt) in
      let c : Course = course_at old before lent core served in
      sym (ap (course_from g text now (limit - (k + 1))) (ap (λ (s : State). course_if g text now s c) u.going ∙ on))
      ∙ sym (ap (λ (n : ℕ). course_from g text now n c) one) ∙ u.rest

  -- behind a step that does not go on
  pub ended : is_ended t.state ≡ true → next ≡ course_from g text now limit start
  ended e = sym (ended_stays g text now (limit - (k + 1)) next (λ went. not_ended t.state e (sym (state_behind t.want new.workspace served t.state) ∙ went))) ∙ onward

  -- behind one that does
  pub goes : k + 1 < 2 ^ 64 → is_ended t.state ≡ false → {new_served : Served} → new_served ≡ served_behind t.want new.workspace served t.state → {new_lent : Option ℕ} → new_lent ≡ lent_behind t.want lent →
      All (IsOfGeometry g) after → Underway g text now limit start (k + 1) new after new_lent later new_served
  goes small e {new_served} s {new_lent} l all = let went : t.state ≡ Went = still_goes t.state e in record {
    rest = ap (λ (x : Served). course_from g text now (limit - (k + 1)) (course_at new after new_lent later x)) s
        ∙ ap (λ (x : Option ℕ). course_from g text now (limit - (k + 1)) (course_at new after x later (served_behind t.want new.workspace served t.state))) l
        ∙ onward;
    going = ap (λ (x : Served). x.state) s ∙ state_behind t.want new.workspace served t.state ∙ went;
    running = st.running ∙ ap is_running went;
    space = st.space ∙ u.space;
    sealed = st.sealed ∙ u.sealed;
    laid_out = all;
    steps = st.steps ∙ ap one_more u.steps ∙ omega (arith, small);
    rooms = λ h. st.rooms;
    within = subst (λ (s : State). StepsAfter new (script_counts start.core) (script_counts later) s) went (st.within (script_counts start.core) u.within);
  }

  -- a step that wants nothing and goes on leaves what became of the call as it was
  pub goes_quietly : k + 1 < 2 ^ 64 → t.want ≡ Nothing → t.state ≡ Went → All (IsOfGeometry g) after → Underway g text now limit start (k + 1) new after lent later served
  goes_quietly small want went all =
      let as_it_was : served_behind Nothing new.workspace served Went ≡ served = ap (λ (s : State). let x : Served = record { entered = served.entered; message = served.message; state = s } in x) (sym u.going) in
      goes small (ap is_ended went)
      (sym (ap (λ (w : Want). served_behind w new.workspace served t.state) want ∙ ap (λ (s : State). served_behind Nothing new.workspace served s) went ∙ as_it_was))
      (sym (ap (λ (w : Want). lent_behind w lent) want)) all
