-- A traversal that is on its way still is behind a step.
use Rattle.std.proofs.Common.{◌≡◌, ℕ, suc, ◌+◌, ◌-◌, ◌^◌, ◌<◌, ◌≤◌, ◌⊎◌, inl, inr, List, Option, Some, None, refl, sym, ap, ◌∙◌, subst, arith}
use Rattle.sei_pass.specs.declared.spaces.PassSpace.{PassSpace}
use Rattle.sei_fault.specs.Counts.{Counts, Answered}
use Rattle.sei_fault.specs.declared.place.Act.TheVariants.{Plain}
use Rattle.sei_fault.specs.declared.place.Place.{Place}
use Rattle.sei_fault.specs.declared.place.Phase.{Phase}
use Rattle.sei_fault.specs.declared.place.Phase.TheVariants.{Guard, Take, First, Restore, Second, Compare, Verify, Enter, Give, Send, Done}
use Rattle.sei_fault.specs.Question.{Question, Answer, honestly_to}
use Rattle.sei_fault.specs.Tree.{Runs, any_core, honest}
use Rattle.sei_fault.specs.Weights.{weighed}
use Rattle.sei_fault.proofs.Public.{counted_runs, grows, never_falls}
use Rattle.sei_pass.specs.Steps.{IsAnswer}
use Rattle.sei_words.specs.LentBucket.{words_of, bucket_of, place_of}
use Rattle.sei_words.specs.Words.{BucketWords}
use Rattle.sei_traverse.specs.declared.turned.State.{State}
use Rattle.sei_traverse.specs.declared.turned.State.TheVariants.{Went, Finished, Refused, Aborted}
use Rattle.sei_traverse.specs.declared.turned.Want.TheVariants.{Nothing}
use Rattle.sei_traverse.specs.declared.workspace.Workspace.{Workspace}
use Rattle.sei_traverse.specs.Acts.{at}
use Rattle.sei_traverse.specs.CallContext.{CallContext, IsFitContext, TellsTime, Follows, given_in}
use Rattle.sei_traverse.specs.OnWay.{lent_words, Lends, TellsAs, IsClean, OnWay, IsCleanEnd, OnWayAfter, StaysOnWay, IsUnfit}
use Rattle.sei_traverse.specs.Given.{Given, given_of, FailsGuard}
use Rattle.sei_stmt.specs.Handling.{Behavior}
use Rattle.sei_traverse.specs.State.{TraversalState, one_more}
use Rattle.sei_traverse.specs.Step.{StepResult, step_result, traversal_step, TimedTwice}
use Rattle.sei_traverse.specs.Unstruck.{want_in, NextIn, CleanIn, IsFinished}
use Rattle.sei_traverse.proofs.GoesOn.{GoesOn}
use Rattle.sei_traverse.proofs.EdgeActs.{Finishes, refused, guard_on, take_on, enter_on, give_on, send_on, done_on}
use Rattle.sei_traverse.proofs.HonestStep.{unwanting, clean_whole_step, finish_step, leads_in_step, refuses_step, clean_run}
use Rattle.sei_traverse.proofs.PassOnward.{first_on, second_on}
use Rattle.sei_traverse.proofs.MiddleActs.{restore_on, compare_on, verify_on}
use Rattle.sei_traverse.proofs.Settled.{settles, settles_end}

-- the act of a clean traversal leads on, or to the end

-- what is lent behind a step that leaves these words
abbrev pub left_of : Option BucketWords → List ℕ → Option (List ℕ)
left_of None words = None
left_of (Some b) words = Some words

abbrev pub given_with : CallContext → Option BucketWords → Given
given_with e lent_bucket = given_of e.behavior e.input e.space (bucket_of lent_bucket)

abbrev pub ActsOn : CallContext → ℕ → Workspace → Option BucketWords → ℕ → ℕ → Phase → Type 0
ActsOn e now w lent_bucket steps asked p =
    GoesOn e (given_with e lent_bucket) now p w (words_of lent_bucket) (left_of lent_bucket) steps asked ⊎ (Finishes e (given_with e lent_bucket) now p w (words_of lent_bucket) steps asked × (want_in e w p ≡ Nothing) × NextIn p w.place.index Done)

-- what a lent bucket's act is given
of_bucket : (e : CallContext) (now : ℕ) (w : Workspace) (b : BucketWords) (steps asked : ℕ) (p : Phase) → b.bucket ≡ e.call.bucket →
    GoesOn e (given_in e) now p w b.words (λ left. Some left) steps asked → ActsOn e now w (Some b) steps asked p
of_bucket e now w b steps asked p h a =
    inl (subst (λ (n : ℕ). GoesOn e (given_of e.behavior e.input e.space (Some n)) now p w b.words (λ left. Some left) steps asked) (sym h) a)

module _ (e : CallContext) (ie : IsFitContext e) (now : ℕ) (small : now < 2 ^ 64) (told : Follows e.clock now) (w : Workspace) (nothing : w.want ≡ Nothing) (steps asked : ℕ) where
  pub acts_on : (lent_bucket : Option BucketWords) (p : Phase) → Lends e p lent_bucket → CleanIn e w (lent_words lent_bucket) steps asked p → ActsOn e now w lent_bucket steps asked p
  acts_on None Guard h i = inl (guard_on e ie now None w (words_of None) steps asked i)
  acts_on None Take h i = inl (take_on e ie now None w (words_of None) steps asked nothing i)
  acts_on None Send h i = inl (send_on e now w (words_of None) steps asked None i)
  acts_on None Done h i = inr (done_on e now None w (words_of None) steps asked i, refl, refl)
  acts_on (Some b) Guard h i = absurd cc
  acts_on (Some b) Take h i = absurd cc
  acts_on (Some b) Send h i = absurd cc
  acts_on (Some b) Done h i = absurd cc
  acts_on (Some b) First h i = of_bucket e now w b steps asked First h (first_on e now w b.words steps asked ie small told nothing i)
  acts_on (Some b) Restore h i = of_bucket e now w b steps asked Restore h (restore_on e now w b.words steps asked nothing i)
  acts_on (Some b) Second h i = of_bucket e now w b steps asked Second h (second_on e now w b.words steps asked nothing i)
  acts_on (Some b) Compare h i = of_bucket e now w b steps asked Compare h (compare_on e now w b.words steps asked nothing i)
  acts_on (Some b) Verify h i = of_bucket e now w b steps asked Verify h (verify_on e now w b.words steps asked nothing i)
  acts_on (Some b) Enter h i = of_bucket e now w b steps asked Enter h (enter_on e now w b.words steps asked i)
  acts_on (Some b) Give h i = of_bucket e now w b steps asked Give h (give_on e now w b.words steps asked i)
  acts_on None First h i = absurd h
  acts_on None Restore h i = absurd h
  acts_on None Second h i = absurd h
  acts_on None Compare h i = absurd h
  acts_on None Verify h i = absurd h
  acts_on None Enter h i = absurd h
  acts_on None Give h i = absurd h

-- an answer of the clock is a number of 64 bits, and the one that the call context's clock tells
answer_fits : (told : Option ℕ) (now : ℕ) → TellsTime told → IsAnswer told now → now < 2 ^ 64
answer_fits None now h a = a
answer_fits (Some t) now h a = omega (arith, h, a)

pub answer_is : (clock told : Option ℕ) (now : ℕ) → TellsTime clock → TellsAs clock told → IsAnswer told now → (now < 2 ^ 64) × Follows clock now
answer_is None told now f h a = (answer_fits told now h a, search)
answer_is (Some t) told now f h a = let is : now ≡ t = subst (λ (o : Option ℕ). IsAnswer o now) h a in (omega (arith, f, is), is)

-- what is lent stays where it is
pub still_lent : (lent_bucket left : Option BucketWords) (words : List ℕ) → place_of left ≡ place_of lent_bucket → words ≡ words_of left → left_of lent_bucket words ≡ lent_words left
still_lent None None words e h = refl
still_lent None (Some b) words e h = absurd cc
still_lent (Some a) None words e h = absurd cc
still_lent (Some a) (Some b) words e h = ap (λ (ws : List ℕ). let o : Option (List ℕ) = Some ws in o) h

pub one_more_at_most : (n : ℕ) → one_more n ≤ suc n
one_more_at_most n = omega arith

want_same : (e : CallContext) (w : Workspace) (p : Phase) → want_in e (unwanting w) p ≡ want_in e w p
want_same e w Guard = refl
want_same e w Take = refl
want_same e w First = refl
want_same e w Restore = refl
want_same e w Second = refl
want_same e w Compare = refl
want_same e w Verify = refl
want_same e w Enter = refl
want_same e w Give = refl
want_same e w Send = refl
want_same e w Done = refl

-- a step without a strike goes on, or comes to the end
data Honestly (e : CallContext) (old new : TraversalState) (lent : Option (List ℕ)) (begin now : Counts) (state : State) : Type 0 where
  Goes : state ≡ Went → IsClean e new lent begin now → new.workspace.want ≡ want_in e old.workspace old.workspace.place.phase → NextIn old.workspace.place.phase old.workspace.place.index new.workspace.place.phase → Honestly e old new lent begin now state
  Ends : state ≡ Finished → IsCleanEnd e new begin now → new.workspace.want ≡ want_in e old.workspace old.workspace.place.phase → NextIn old.workspace.place.phase old.workspace.place.index new.workspace.place.phase → Honestly e old new lent begin now state

module _ (e : CallContext) (ie : IsFitContext e) (begin c d : Counts) (old new : TraversalState) (lent_bucket left : Option BucketWords) (state : State) (now later : ℕ) (small : now < 2 ^ 64) (told : Follows e.clock now)
    (lends : Lends e old.workspace.place.phase lent_bucket) (same : place_of left ≡ place_of lent_bucket) (space : new.space ≡ old.space) (steps : new.steps ≡ one_more old.steps)
    (run : Runs any_core (traversal_step (given_with e lent_bucket) now later old.workspace (words_of lent_bucket)) c d (step_result new.workspace (words_of left) state))
    (clean : IsClean e old (lent_words lent_bucket) begin c) (unstruck : d.struck ≡ c.struck) where
  honest_end : step_result new.workspace (words_of left) state ≡ honest (traversal_step (given_with e lent_bucket) now later old.workspace (words_of lent_bucket))
  honest_end = (clean_run (given_with e lent_bucket) now later old.workspace (words_of lent_bucket) c d (step_result new.workspace (words_of left) state) run unstruck).0

  counted : (more : ℕ) → more ≤ weighed (traversal_step (given_with e lent_bucket) now later old.workspace (words_of lent_bucket)) → d.asked < 2 ^ 128 - 1 → begin.asked + (clean.asked + more) ≤ d.asked
  counted more h m =
      let tree = traversal_step (given_with e lent_bucket) now later old.workspace (words_of lent_bucket) in
      let x = step_result new.workspace (words_of left) state in
      let grown : c.asked ≤ d.asked = grows tree c d x run m in
      let so_far = clean.counted (omega (arith, grown, m)) in
      let these = (clean_run (given_with e lent_bucket) now later old.workspace (words_of lent_bucket) c d x run unstruck).1 m in
      omega (arith, so_far, these, h)

  steps_at_most : new.steps ≤ suc old.steps
  steps_at_most = subst (λ (n : ℕ). n ≤ suc old.steps) (sym steps) (one_more_at_most old.steps)

  goes : (a : GoesOn e (given_with e lent_bucket) now old.workspace.place.phase (unwanting old.workspace) (words_of lent_bucket) (left_of lent_bucket) old.steps clean.asked) → Honestly e old new (lent_words left) begin d state
  goes a =
      let h = honest_end ∙ clean_whole_step (given_with e lent_bucket) now later old.workspace (words_of lent_bucket) e (left_of lent_bucket) old.steps clean.asked a in
      let w : Workspace = record a.workspace { place = a.to } in
      let workspace_is : new.workspace ≡ w = ap (λ (x : StepResult). x.workspace) h in
      let words_are : words_of left ≡ a.left = ap (λ (x : StepResult). x.words) h in
      let lent_is = still_lent lent_bucket left a.left same (sym words_are) in
      let asks = (leads_in_step (given_with e lent_bucket) now later old.workspace (words_of lent_bucket) a.act a.workspace a.left a.to a.site a.acts).1 in
      let more_at_most : a.more ≤ weighed (traversal_step (given_with e lent_bucket) now later old.workspace (words_of lent_bucket)) = omega (arith, a.asks, asks) in
      Goes (ap (λ (x : StepResult). x.state) h)
      (record {
        space = space ∙ clean.space;
        asked = clean.asked + a.more;
        clean = record {
          in_phase = subst (λ (u : Workspace). CleanIn e u (lent_words left) new.steps (clean.asked + a.more) u.place.phase) (sym workspace_is)
              (subst (λ (o : Option (List ℕ)). CleanIn e w o new.steps (clean.asked + a.more) a.to.phase) lent_is
              (settles e w w.want (left_of lent_bucket a.left) new.steps (suc old.steps) (clean.asked + a.more) a.to.phase steps_at_most a.clean));
        };
        counted = counted a.more more_at_most;
      })
      (ap (λ (u : Workspace). u.want) workspace_is ∙ a.want ∙ want_same e old.workspace old.workspace.place.phase)
      (subst (λ (u : Workspace). NextIn old.workspace.place.phase old.workspace.place.index u.place.phase) (sym workspace_is) a.next)

  comes_to_end : (a : Finishes e (given_with e lent_bucket) now old.workspace.place.phase (unwanting old.workspace) (words_of lent_bucket) old.steps clean.asked) → want_in e old.workspace old.workspace.place.phase ≡ Nothing →
      NextIn old.workspace.place.phase old.workspace.place.index Done → Honestly e old new (lent_words left) begin d state
  comes_to_end a none last =
      let h = honest_end ∙ finish_step (given_with e lent_bucket) now later old.workspace (words_of lent_bucket) e old.steps clean.asked a in
      let w : Workspace = record a.workspace { place = at Done 1 } in
      let workspace_is : new.workspace ≡ w = ap (λ (x : StepResult). x.workspace) h in
      Ends (ap (λ (x : StepResult). x.state) h)
      (record {
        asked = clean.asked + 0;
        finished = subst (λ (u : Workspace). IsFinished e u new.steps (clean.asked + 0)) (sym workspace_is)
            (subst (λ (n : ℕ). IsFinished e w new.steps n) (omega arith) (settles_end e w w.want new.steps (suc old.steps) clean.asked steps_at_most a.finished));
        counted = counted 0 (omega arith);
      })
      (ap (λ (u : Workspace). u.want) workspace_is ∙ a.want ∙ sym none)
      (subst (λ (u : Workspace). NextIn old.workspace.place.phase old.workspace.place.index u.place.phase) (sym workspace_is) last)

  honestly : Honestly e old new (lent_words left) begin d state
  honestly = by_act (acts_on e ie now small told (unwanting old.workspace) refl old.steps clean.asked lent_bucket old.workspace.place.phase lends
      (settles e old.workspace Nothing (lent_words lent_bucket) old.steps old.steps clean.asked old.workspace.place.phase (omega arith) clean.clean.in_phase))
    where
      by_act : ActsOn e now (unwanting old.workspace) lent_bucket old.steps clean.asked old.workspace.place.phase → Honestly e old new (lent_words left) begin d state
      by_act (inl a) = goes a
      by_act (inr a) = comes_to_end a.0 (sym (want_same e old.workspace old.workspace.place.phase) ∙ a.1) a.2

-- so a traversal that is on its way stays on it
module _ (e : CallContext) (begin now : Counts) (old new : TraversalState) (lent : Option (List ℕ)) (later : begin.struck ≤ now.struck) where
  struck_or : (now.struck ≡ begin.struck) ⊎ (begin.struck < now.struck)
  struck_or = grind arith

  rose : (state : State) → (state ≡ Went → ⊥) → (state ≡ Finished → ⊥) → (now.struck ≡ begin.struck → Honestly e old new lent begin now state) → begin.struck < now.struck
  rose state not_went not_finished h = by_struck struck_or
    where
      by_honest : Honestly e old new lent begin now state → begin.struck < now.struck
      by_honest (Goes s i w n) = absurd (not_went s)
      by_honest (Ends s i w n) = absurd (not_finished s)

      by_struck : (now.struck ≡ begin.struck) ⊎ (begin.struck < now.struck) → begin.struck < now.struck
      by_struck (inl same) = by_honest (h same)
      by_struck (inr more) = more

  clean_of : (state : State) → state ≡ Went → Honestly e old new lent begin now state → IsClean e new lent begin now
  clean_of state s (Goes t i w n) = i
  clean_of state s (Ends t i w n) = absurd cc

  end_of : (state : State) → state ≡ Finished → Honestly e old new lent begin now state → IsCleanEnd e new begin now
  end_of state s (Goes t i w n) = absurd cc
  end_of state s (Ends t i w n) = i

  want_of : (state : State) → Honestly e old new lent begin now state → new.workspace.want ≡ want_in e old.workspace old.workspace.place.phase
  want_of state (Goes t i w n) = w
  want_of state (Ends t i w n) = w

  next_of : (state : State) → Honestly e old new lent begin now state → NextIn old.workspace.place.phase old.workspace.place.index new.workspace.place.phase
  next_of state (Goes t i w n) = n
  next_of state (Ends t i w n) = n

  after : (state : State) → (now.struck ≡ begin.struck → Honestly e old new lent begin now state) → OnWayAfter e new lent begin now state
  after Went h = record { later = later; clean = λ s. clean_of Went refl (h s) }
  after Finished h = record { later = later; clean = λ s. end_of Finished refl (h s) }
  after Refused h = rose Refused (λ s. absurd cc) (λ s. absurd cc) h
  after (Aborted a) h = rose (Aborted a) (λ s. absurd cc) (λ s. absurd cc) h

  stays : (state : State) → (now.struck ≡ begin.struck → Honestly e old new lent begin now state) → StaysOnWay e old new lent begin now new.workspace.want state
  stays state h = record { goes = after state h; wants = λ s. want_of state (h s); next = λ s. next_of state (h s) }

-- for any core that keeps its law, and any clock
pub stays_on_way : {S : Type 0} (gives : S → (q : Question) → Answer q → S → Type 0) (counts : S → Counts) →
    ((s : S) (q : Question) (a : Answer q) (t : S) → gives s q a t → Answered (a ≡ honestly_to q) (counts s) (counts t)) →
    (told : Option ℕ) (e : CallContext) (begin : Counts) (old new : TraversalState) (lent_bucket left : Option BucketWords) (state : State) (s t : S) →
    TimedTwice gives told (λ now later. traversal_step (given_of e.behavior e.input old.space (bucket_of lent_bucket)) now later old.workspace (words_of lent_bucket)) s t (step_result new.workspace (words_of left) state) →
    place_of left ≡ place_of lent_bucket → new.space ≡ old.space → new.steps ≡ one_more old.steps →
    IsFitContext e → TellsAs e.clock told → Lends e old.workspace.place.phase lent_bucket → OnWay e old (lent_words lent_bucket) begin (counts s) →
    StaysOnWay e old new (lent_words left) begin (counts t) new.workspace.want state
stays_on_way gives counts law told e begin old new lent_bucket left state s t turned same space steps ie tells lends way =
    let tree : PassSpace → _ = λ g. traversal_step (given_of e.behavior e.input g (bucket_of lent_bucket)) turned.now turned.later old.workspace (words_of lent_bucket) in
    let x = step_result new.workspace (words_of left) state in
    let run = counted_runs gives counts law (tree old.space) s t x turned.runs in
    let fell = never_falls (tree old.space) (counts s) (counts t) x run in
    stays e begin (counts t) old new (lent_words left) (omega (arith, way.later, fell)) state
    (λ unstruck.
    let before : (counts s).struck ≡ begin.struck = omega (arith, way.later, fell, unstruck) in
    let clean = way.clean before in
    let run_on = subst (λ (g : PassSpace). Runs any_core (tree g) (counts s) (counts t) x) clean.space run in
    let answer = answer_is e.clock told turned.now ie.clock tells turned.answer in
    honestly e ie begin (counts s) (counts t) old new lent_bucket left state turned.now turned.later answer.0 answer.1 lends same space steps run_on clean (unstruck ∙ sym before))

-- the same of a behavior and an input that are the call context's
pub stays_on_way_given : {S : Type 0} (gives : S → (q : Question) → Answer q → S → Type 0) (counts : S → Counts) →
    ((s : S) (q : Question) (a : Answer q) (t : S) → gives s q a t → Answered (a ≡ honestly_to q) (counts s) (counts t)) →
    (told : Option ℕ) (e : CallContext) (begin : Counts) (old new : TraversalState) (lent_bucket left : Option BucketWords) (state : State) (s t : S) (behavior : Behavior) (input : List ℕ) →
    e.behavior ≡ behavior → e.input ≡ input →
    TimedTwice gives told (λ now later. traversal_step (given_of behavior input old.space (bucket_of lent_bucket)) now later old.workspace (words_of lent_bucket)) s t (step_result new.workspace (words_of left) state) →
    place_of left ≡ place_of lent_bucket → new.space ≡ old.space → new.steps ≡ one_more old.steps →
    IsFitContext e → TellsAs e.clock told → Lends e old.workspace.place.phase lent_bucket → OnWay e old (lent_words lent_bucket) begin (counts s) →
    StaysOnWay e old new (lent_words left) begin (counts t) new.workspace.want state
stays_on_way_given gives counts law told e begin old new lent_bucket left state s t behavior input f h turned same space steps ie tells lends way =
    stays_on_way gives counts law told e begin old new lent_bucket left state s t
    (subst (λ (x : Behavior). TimedTwice gives told (λ now later. traversal_step (given_of x e.input old.space (bucket_of lent_bucket)) now later old.workspace (words_of lent_bucket)) s t (step_result new.workspace (words_of left) state)) (sym f)
    (subst (λ (x : List ℕ). TimedTwice gives told (λ now later. traversal_step (given_of behavior x old.space (bucket_of lent_bucket)) now later old.workspace (words_of lent_bucket)) s t (step_result new.workspace (words_of left) state)) (sym h) turned))
    same space steps ie tells lends way

-- in Guard an input that fails is refused
refuses_there : (g : Given) (now later : ℕ) (w : Workspace) (words : List ℕ) → FailsGuard g w.sealed →
    honest (traversal_step g now later (record w { place = at Guard 0 }) words) ≡ step_result (unwanting (record w { place = at Guard 0 })) words Refused
refuses_there g now later w words f =
    let v : Workspace = record w { place = at Guard 0 } in
    let r = refused g (unwanting v) words refl f in
    (refuses_step g now later v words Plain (unwanting v) words r.0 r.1).0

pub refused_run : {S : Type 0} (gives : S → (q : Question) → Answer q → S → Type 0) (counts : S → Counts) →
    ((s : S) (q : Question) (a : Answer q) (t : S) → gives s q a t → Answered (a ≡ honestly_to q) (counts s) (counts t)) →
    (told : Option ℕ) (behavior : Behavior) (input : List ℕ) (space : PassSpace) (lent : Option ℕ) (w v : Workspace) (words left : List ℕ) (state : State) (s t : S) →
    TimedTwice gives told (λ now later. traversal_step (given_of behavior input space lent) now later w words) s t (step_result v left state) →
    IsUnfit (given_of behavior input space None) w → (counts t).struck ≡ (counts s).struck → state ≡ Refused
refused_run gives counts law told behavior input space lent w v words left state s t turned unfit same =
    let g = given_of behavior input space lent in
    let x = step_result v left state in
    let w0 : Workspace = record w { place = at Guard 0 } in
    let run = counted_runs gives counts law (traversal_step g turned.now turned.later w words) s t x turned.runs in
    let run0 = subst (λ (p : Place). Runs any_core (traversal_step g turned.now turned.later (record w { place = p }) words) (counts s) (counts t) x) unfit.place run in
    let end = (clean_run g turned.now turned.later w0 words (counts s) (counts t) x run0 same).0 in
    ap (λ (y : StepResult). y.state) (end ∙ refuses_there g turned.now turned.later w words unfit.fails)
