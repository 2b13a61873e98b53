-- What holds of each step, holds over a run of many steps.
use Rattle.std.proofs.Common.{◌≡◌, ◌⊎◌, inl, inr, ℕ, zero, suc, ◌+◌, ◌-◌, ◌^◌, ◌≤◌, ◌<◌, List, [], ◌∷◌, ◌++◌, Option, Some, None, refl, sym, ap, ◌∙◌, subst, arith, append_assoc}
use Rattle.std.specs.Prelude.{min, replicate}
use Rattle.std.proofs.lemmas.List.{append-nil}
use Rattle.sei_fault.specs.Chain.{Chain}
use Rattle.sei_fault.specs.Counts.{Counts, Answered}
use Rattle.sei_fault.specs.declared.place.Phase.{Phase}
use Rattle.sei_fault.specs.declared.place.Phase.TheVariants.{Guard, Take, First, Restore, Second, Compare, Verify, Enter, Give, Send, Done}
use Rattle.sei_fault.specs.Question.{Question, Answer, honestly_to}
use Rattle.sei_fault.proofs.PublicChains.{chain_keeps, chain_joins, chain_relates, chain_isolates}
use Rattle.sei_words.specs.LentBucket.{words_of, bucket_of, place_of}
use Rattle.sei_words.specs.Words.{BucketWords}
use Rattle.sei_traverse.specs.declared.turned.State.{State}
use Rattle.sei_traverse.specs.declared.turned.State.TheVariants.{Went, Finished, Refused, Aborted}
use Rattle.sei_traverse.specs.declared.turned.Turned.{Turned}
use Rattle.sei_traverse.specs.declared.turned.Want.{Want}
use Rattle.sei_traverse.specs.declared.turned.Want.TheVariants.{Nothing}
use Rattle.sei_traverse.specs.declared.workspace.Workspace.{Workspace}
use Rattle.sei_traverse.specs.Bounds.{StepsWithin, StepsAfter}
use Rattle.sei_traverse.specs.CallContext.{CallContext, IsFitContext}
use Rattle.sei_traverse.specs.FaultInvariant.{FaultInvariant, LendsWanted, Isolates}
use Rattle.sei_traverse.specs.Noting.{NotesTime}
use Rattle.sei_traverse.specs.Noting.NotesTime.{Same}
use Rattle.sei_traverse.specs.OnWay.{lent_words, Lends, LendsBucketOf, TellsAs, OnWay, OnWayAfter, StaysOnWay, IsUnfit}
use Rattle.sei_traverse.specs.Promises.{RefusesUnfit}
use Rattle.sei_traverse.specs.Running.{On, Makes, quiet, Quiet, RunsOn}
use Rattle.sei_traverse.specs.Given.{given_of, bucket_or_zero}
use Rattle.sei_stmt.specs.Handling.{Behavior}
use Rattle.sei_traverse.specs.State.{TraversalState, IsTraversal}
use Rattle.sei_traverse.specs.Step.{step_result, traversal_step}
use Rattle.sei_traverse.specs.Trusted.{IsTrusted}
use Rattle.sei_traverse.specs.Unstruck.{take_want, want_in, IsLent, NextIn}
use Rattle.sei_traverse.specs.Wanting.{StepsFrom}
use Rattle.sei_traverse.specs.Wanting.StepsFrom.{GoesOn}
use Rattle.sei_traverse.proofs.Isolated.{isolates_one}
use Rattle.sei_traverse.proofs.NotingLaws.{behind}
use Rattle.sei_traverse.proofs.PublicSteps.{step_refuses, of_made}
use Rattle.sei_traverse.proofs.Onward.{stays_on_way_given}
use Rattle.sei_traverse.proofs.StepsBound.{steps_after_turned, room_left_turned}
use Rattle.sei_traverse.proofs.StepResultLaws.{same_bucket}

-- What is lent in the next phase.

none_left : (lent_bucket left : Option BucketWords) → place_of left ≡ place_of lent_bucket → lent_bucket ≡ None → left ≡ None
none_left lent_bucket None p h = refl
none_left None (Some b) p h = absurd cc
none_left (Some a) (Some b) p h = absurd cc

bucket_left : (wanted : ℕ) (lent_bucket left : Option BucketWords) → place_of left ≡ place_of lent_bucket → LendsBucketOf wanted lent_bucket → LendsBucketOf wanted left
bucket_left wanted None left p h = absurd h
bucket_left wanted (Some a) None p h = absurd cc
bucket_left wanted (Some a) (Some b) p h = ap bucket_or_zero (same_bucket (Some b) (Some a) p) ∙ h

lent_in : (e : CallContext) (left : Option BucketWords) (next : Phase) → IsLent next → LendsBucketOf e.call.bucket left → Lends e next left
lent_in e left Guard i h = absurd i
lent_in e left Take i h = absurd i
lent_in e left First i h = h
lent_in e left Restore i h = h
lent_in e left Second i h = h
lent_in e left Compare i h = h
lent_in e left Verify i h = h
lent_in e left Enter i h = h
lent_in e left Give i h = h
lent_in e left Send i h = absurd i
lent_in e left Done i h = absurd i

-- after a step that wants nothing, where no strike fell
module _ (e : CallContext) (w : Workspace) (lent_bucket left : Option BucketWords) (next : Phase) (place : place_of left ≡ place_of lent_bucket) where
  still_none : (to : Phase) → lent_bucket ≡ None → (left ≡ None → Lends e to left) → next ≡ to → Lends e next left
  still_none to h lends is = subst (λ (p : Phase). Lends e p left) (sym is) (lends (none_left lent_bucket left place h))

  take_next : (index : ℕ) → lent_bucket ≡ None → Nothing ≡ take_want e index → NextIn Take index next → Lends e next left
  take_next zero h nothing to = still_none Take h (λ k. k) to
  take_next (suc index) h nothing to = absurd cc

  lends_on : (p : Phase) → Lends e p lent_bucket → Nothing ≡ want_in e w p → NextIn p w.place.index next → Lends e next left
  lends_on Guard h nothing to = still_none Take h (λ k. k) to
  lends_on Take h nothing to = take_next w.place.index h nothing to
  lends_on First h nothing to = lent_in e left next to (bucket_left e.call.bucket lent_bucket left place h)
  lends_on Restore h nothing to = lent_in e left next to (bucket_left e.call.bucket lent_bucket left place h)
  lends_on Second h nothing to = lent_in e left next to (bucket_left e.call.bucket lent_bucket left place h)
  lends_on Compare h nothing to = lent_in e left next to (bucket_left e.call.bucket lent_bucket left place h)
  lends_on Verify h nothing to = lent_in e left next to (bucket_left e.call.bucket lent_bucket left place h)
  lends_on Enter h nothing to = absurd cc
  lends_on Give h nothing to = absurd cc
  lends_on Send h nothing to = still_none Done h (λ k. k) to
  lends_on Done h nothing to = still_none Done h (λ k. k) to

-- where a strike fell, being on the way says no more
struck_on_way : (e : CallContext) (old new : TraversalState) (lent : Option (List ℕ)) (begin now : Counts) (want : Want) → begin.struck < now.struck → (state : State) → StaysOnWay e old new lent begin now want state
struck_on_way e old new lent begin now want more state = record { goes = by state; wants = λ same. absurd (omega (arith, more, same)); next = λ same. absurd (omega (arith, more, same)) }
  where
    by : (o : State) → OnWayAfter e new lent begin now o
    by Went = record { later = omega (arith, more); clean = λ same. absurd (omega (arith, more, same)) }
    by Finished = record { later = omega (arith, more); clean = λ same. absurd (omega (arith, more, same)) }
    by Refused = more
    by (Aborted abort) = more

same_or_more : (a b : ℕ) → a ≤ b → (b ≡ a) ⊎ (a < b)
same_or_more a b h = grind (arith, h)

-- n wants of nothing, and one more
nothing_more : (n : ℕ) → replicate n Nothing ++ Nothing ∷ [] ≡ replicate (suc n) Nothing
nothing_more zero = refl
nothing_more (suc n) = ap (λ (ws : List Want). Nothing ∷ ws) (nothing_more n)

one_more_quiet : (wants : List Want) (n : ℕ) → (wants ++ replicate n Nothing) ++ Nothing ∷ [] ≡ wants ++ replicate (suc n) Nothing
one_more_quiet wants n = append_assoc wants (replicate n Nothing) (Nothing ∷ []) ∙ ap (λ (ws : List Want). wants ++ ws) (nothing_more n)

module _ {S : Type 0} (gives : S → (q : Question) → Answer q → S → Type 0) (counts : S → Counts) (told : Option ℕ) (behavior : Behavior) (input : List ℕ) where
  abbrev IsQuiet : On S → On S → Type 0
  IsQuiet = Quiet gives counts told behavior input

  abbrev IsRun : ℕ → On S → On S → Turned → Type 0
  IsRun = RunsOn gives counts told behavior input

  -- a run whose last step wants nothing, and another one after it
  pub runs_join : (n m : ℕ) (x y z : On S) (t : Turned) → RunsOn gives counts told behavior input n x y quiet → RunsOn gives counts told behavior input m y z t → RunsOn gives counts told behavior input (suc n + m) x z t
  runs_join n m x y z t r q = record { last = q.last; chain = chain_joins IsQuiet (suc n) m x y q.last (r.last, r.chain, r.makes) q.chain; makes = q.makes }

  -- what goes from each step to the next, goes over a run
  pub run_relates : (Relation : On S → On S → Type 0) (n : ℕ) (x z : On S) (t : Turned) → Relation x x → ((a b : On S) (s : Turned) → Makes gives counts told behavior input a b s → Relation x a → Relation x b) →
      RunsOn gives counts told behavior input n x z t → Relation x z
  run_relates Relation n x z t here on r = on r.last z t r.makes (chain_relates IsQuiet Relation n x r.last here (λ a b q. on a b quiet q) r.chain)

  pub run_sealed : (n : ℕ) (x z : On S) (t : Turned) → RunsOn gives counts told behavior input n x z t → z.traversal.workspace.sealed ≡ x.traversal.workspace.sealed
  run_sealed n x z t = run_relates (λ a b. b.traversal.workspace.sealed ≡ a.traversal.workspace.sealed) n x z t refl (λ a b s m e. m.sealed ∙ e)

  pub run_space : (n : ℕ) (x z : On S) (t : Turned) → RunsOn gives counts told behavior input n x z t → z.traversal.space ≡ x.traversal.space
  run_space n x z t = run_relates (λ a b. b.traversal.space ≡ a.traversal.space) n x z t refl (λ a b s m e. m.space ∙ e)

  pub run_lent : (n : ℕ) (x z : On S) (t : Turned) → RunsOn gives counts told behavior input n x z t → place_of z.lent ≡ place_of x.lent
  run_lent n x z t = run_relates (λ a b. place_of b.lent ≡ place_of a.lent) n x z t refl (λ a b s m e. m.lent ∙ e)

  -- the number of steps
  chain_steps : (n : ℕ) (x z : On S) → x.traversal.steps ≤ 2 ^ 64 - 1 → Chain IsQuiet n x z → z.traversal.steps ≡ min (x.traversal.steps + n) (2 ^ 64 - 1)
  chain_steps zero x z small e = ap (λ (y : On S). y.traversal.steps) e ∙ (let k : x.traversal.steps ≡ min (x.traversal.steps + 0) (2 ^ 64 - 1) = omega (arith, small) in k)
  chain_steps (suc n) x z small (y, c, q) = omega (arith, q.steps, chain_steps n x y small c)

  pub run_steps : (n : ℕ) (x z : On S) (t : Turned) → x.traversal.steps ≤ 2 ^ 64 - 1 → RunsOn gives counts told behavior input n x z t → z.traversal.steps ≡ min (x.traversal.steps + suc n) (2 ^ 64 - 1)
  run_steps n x z t small r = omega (arith, r.makes.steps, chain_steps n x r.last small r.chain)

  pub run_noted : (n : ℕ) (x z : On S) (t : Turned) → RunsOn gives counts told behavior input n x z t → NotesTime told x.traversal.workspace.notes.now z.traversal.workspace.notes.now
  run_noted n x z t = run_relates (λ a b. NotesTime told a.traversal.workspace.notes.now b.traversal.workspace.notes.now) n x z t (Same refl)
      (λ a b s m h. behind told x.traversal.workspace.notes.now a.traversal.workspace.notes.now b.traversal.workspace.notes.now h m.noted)

  pub run_asked : (n : ℕ) (x z : On S) (t : Turned) → RunsOn gives counts told behavior input n x z t → min (counts x.core).asked (2 ^ 128 - 1) ≤ (counts z.core).asked
  run_asked n x z t = run_relates (λ a b. min (counts a.core).asked (2 ^ 128 - 1) ≤ (counts b.core).asked) n x z t (omega arith) (λ a b s m h. omega (arith, m.asked, h))

  chain_struck : (n : ℕ) (x z : On S) → Chain IsQuiet n x z → (counts x.core).struck ≤ (counts z.core).struck
  chain_struck n x z = chain_relates IsQuiet (λ a b. (counts a.core).struck ≤ (counts b.core).struck) n x z (omega arith) (λ a b q h. omega (arith, q.struck, h))

  pub run_struck : (n : ℕ) (x z : On S) (t : Turned) → RunsOn gives counts told behavior input n x z t → (counts x.core).struck ≤ (counts z.core).struck
  run_struck n x z t = run_relates (λ a b. (counts a.core).struck ≤ (counts b.core).struck) n x z t (omega arith) (λ a b s m h. omega (arith, m.struck, h))

  module _ (law : (s : S) (q : Question) (a : Answer q) (t : S) → gives s q a t → Answered (a ≡ honestly_to q) (counts s) (counts t)) where
    -- no more strikes fall than the room of the core allows

    abbrev Lowers : On S → On S → Type 0
    Lowers a b = (r : ℕ) → (counts a.core).room ≡ Some r → (s : ℕ) × ((counts b.core).room ≡ Some s) × ((counts b.core).struck + s ≡ (counts a.core).struck + r)

    makes_room : (a b : On S) (s : Turned) → Makes gives counts told behavior input a b s → Lowers a b
    makes_room a b s m r e =
        room_left_turned gives counts law told (λ now later. traversal_step (given_of behavior input a.traversal.space (bucket_of a.lent)) now later a.traversal.workspace (words_of a.lent)) a.core b.core (step_result b.traversal.workspace (words_of b.lent) s.state) m.turned r e

    pub run_room : (n : ℕ) (x z : On S) (t : Turned) → RunsOn gives counts told behavior input n x z t → Lowers x z
    run_room n x z t = run_relates Lowers n x z t (λ r e. (r, e, refl))
        (λ a b s m h r e. let i = h r e in let j = makes_room a b s m i.0 i.1 in (j.0, j.1, j.2 ∙ i.2))

    -- from Guard an unfit input is refused at the first step

    makes_refuses : (a b : On S) (s : Turned) → Makes gives counts told behavior input a b s → RefusesUnfit counts behavior input a b s
    makes_refuses = of_made gives counts (λ told behavior input a b s. RefusesUnfit counts behavior input a b s) (step_refuses gives counts law) told behavior input

    went_on : quiet.state ≡ Refused → ⊥
    went_on e = cc

    chain_fit : (n : ℕ) (x z : On S) → Chain IsQuiet (suc n) x z → IsUnfit (given_of behavior input x.traversal.space None) x.traversal.workspace → (counts z.core).struck ≡ (counts x.core).struck → ⊥
    chain_fit zero x z (y, is, q) unfit same =
        went_on (makes_refuses x z quiet (subst (λ (a : On S). IsQuiet a z) is q) unfit same)
    chain_fit (suc n) x z (y, c, q) unfit same =
        chain_fit n x y c unfit (omega (arith, same, q.struck, chain_struck (suc n) x y c))

    pub run_refuses : (n : ℕ) (x z : On S) (t : Turned) → RunsOn gives counts told behavior input n x z t → RefusesUnfit counts behavior input x z t
    run_refuses zero x z t r unfit same = makes_refuses x z t (subst (λ (a : On S). Makes gives counts told behavior input a z t) r.chain r.makes) unfit same
    run_refuses (suc n) x z t r unfit same = absurd (chain_fit n x r.last r.chain unfit (omega (arith, same, r.makes.struck, chain_struck (suc n) x r.last r.chain)))

    -- the number of steps stays bounded

    makes_within : (begin : Counts) (a b : On S) (s : Turned) → Makes gives counts told behavior input a b s → IsTraversal a.traversal → StepsWithin a.traversal begin (counts a.core) → StepsAfter b.traversal begin (counts b.core) s.state
    makes_within begin a b s m is within =
        steps_after_turned gives counts law told (given_of behavior input a.traversal.space (bucket_of a.lent)) (words_of a.lent) (words_of b.lent) begin a.traversal b.traversal s.state a.core b.core m.turned is m.space m.steps within

    abbrev IsWithin : Counts → On S → Type 0
    IsWithin begin a = IsTraversal a.traversal × StepsWithin a.traversal begin (counts a.core)

    pub run_within : (begin : Counts) (n : ℕ) (x z : On S) (t : Turned) → RunsOn gives counts told behavior input n x z t → IsTraversal x.traversal → StepsWithin x.traversal begin (counts x.core) → StepsAfter z.traversal begin (counts z.core) t.state
    run_within begin n x z t r is within =
        let last : IsWithin begin r.last = chain_keeps IsQuiet (IsWithin begin) n x r.last (λ a b q h. (q.rooms, makes_within begin a b quiet q h.0 h.1)) r.chain (is, within) in
        makes_within begin r.last z t r.makes last.0 last.1

    module _ (e : CallContext) (begin : Counts) (same_behavior : e.behavior ≡ behavior) (same_input : e.input ≡ input) (tells : TellsAs e.clock told) where
      -- one strike is isolated

      abbrev IsKnown : On S → Type 0
      IsKnown a = LendsWanted a.traversal.workspace a.lent × FaultInvariant e a.traversal (lent_words a.lent) begin (counts a.core)

      makes_isolated : IsTrusted e → (a b : On S) (s : Turned) → Makes gives counts told behavior input a b s → (counts b.core).struck ≤ begin.struck + 1 → IsKnown a →
          Isolates e a.traversal b.traversal a.lent b.lent begin (counts b.core) s.want s.state
      makes_isolated trusted a b s m few known =
          subst (λ (w : Want). Isolates e a.traversal b.traversal a.lent b.lent begin (counts b.core) w s.state) (sym m.want)
          (isolates_one gives counts law told e begin a.traversal b.traversal a.lent b.lent s.state a.core b.core behavior input same_behavior same_input m.turned m.lent m.space m.steps m.sealed trusted tells known.0 known.1 few)

      quiet_known : IsTrusted e → (a b : On S) → IsQuiet a b → (counts b.core).struck ≤ begin.struck + 1 → IsKnown a → IsKnown b
      quiet_known trusted a b q few known = let i = makes_isolated trusted a b quiet q few known in (i.lends refl, i.goes)

      pub run_isolated : (n : ℕ) (x z : On S) (t : Turned) → IsTrusted e → (r : RunsOn gives counts told behavior input n x z t) → LendsWanted x.traversal.workspace x.lent → FaultInvariant e x.traversal (lent_words x.lent) begin (counts x.core) →
          (counts z.core).struck ≤ begin.struck + 1 → Isolates e r.last.traversal z.traversal r.last.lent z.lent begin (counts z.core) t.want t.state
      run_isolated n x z t trusted r lends facts few =
          let last = chain_isolates IsQuiet IsKnown (λ a. (counts a.core).struck) (begin.struck + 1) n x r.last (λ a b q. q.struck) (quiet_known trusted) r.chain (omega (arith, r.makes.struck, few)) (lends, facts) in
          makes_isolated trusted r.last z t r.makes few last

      -- the steps of a run are steps of the traversal, and what each of them wanted is known

      module _ (Lending : Want → Option BucketWords → Option BucketWords → Type 0) (itself : (left : Option BucketWords) → Lending Nothing left left) (from : TraversalState) (lent : Option BucketWords) where
        abbrev IsStepped : List Want → TraversalState → Option BucketWords → State → Type 0
        IsStepped = StepsFrom Lending e begin from lent

        stepped : IsTrusted e → (wants : List Want) (a b : On S) (s : Turned) → Makes gives counts told behavior input a b s → (counts b.core).struck ≤ begin.struck + 1 → IsKnown a →
            (left : Option BucketWords) → IsStepped wants a.traversal left Went → Lending a.traversal.workspace.want left a.lent → IsStepped (wants ++ s.want ∷ []) b.traversal b.lent s.state
        stepped trusted wants a b s m few known left steps lends =
            let isolated = subst (λ (w : Want). Isolates e a.traversal b.traversal a.lent b.lent begin (counts b.core) w s.state) m.want (makes_isolated trusted a b s m few known) in
            subst (λ (w : Want). IsStepped (wants ++ w ∷ []) b.traversal b.lent s.state) (sym m.want) (GoesOn wants a.traversal b.traversal left a.lent b.lent (counts b.core) s.state steps lends isolated)

        -- the last of n quiet steps is known, and is lent what they left
        record SteppedTo (wants : List Want) (n : ℕ) (z : On S) : Type 0 where
          known : IsKnown z
          left : Option BucketWords
          steps : IsStepped (wants ++ replicate n Nothing) z.traversal left Went
          lends : Lending z.traversal.workspace.want left z.lent

        chain_stepped : IsTrusted e → (wants : List Want) (left : Option BucketWords) (n : ℕ) (x z : On S) → Chain IsQuiet n x z → (counts z.core).struck ≤ begin.struck + 1 → IsKnown x → IsStepped wants x.traversal left Went →
            Lending x.traversal.workspace.want left x.lent → SteppedTo wants n z
        chain_stepped trusted wants left zero x z is few known steps lends =
            subst (λ (a : On S). SteppedTo wants zero a) (sym is)
            (record { known = known; left = left; steps = subst (λ (ws : List Want). IsStepped ws x.traversal left Went) (sym (append-nil wants)) steps; lends = lends })
        chain_stepped trusted wants left (suc n) x z (y, c, q) few known steps lends =
            let before = chain_stepped trusted wants left n x y c (omega (arith, q.struck, few)) known steps lends in
            record {
              known = quiet_known trusted y z q few before.known;
              left = z.lent;
              steps = subst (λ (ws : List Want). IsStepped ws z.traversal z.lent Went) (one_more_quiet wants n)
                  (stepped trusted (wants ++ replicate n Nothing) y z quiet q few before.known before.left before.steps before.lends);
              lends = subst (λ (w : Want). Lending w z.lent z.lent) q.want (itself z.lent);
            }

        pub run_stepped : (wants : List Want) (left : Option BucketWords) (n : ℕ) (x z : On S) (t : Turned) → IsTrusted e → RunsOn gives counts told behavior input n x z t → LendsWanted x.traversal.workspace x.lent → FaultInvariant e x.traversal (lent_words x.lent) begin (counts x.core) →
            (counts z.core).struck ≤ begin.struck + 1 → IsStepped wants x.traversal left Went → Lending x.traversal.workspace.want left x.lent → IsStepped ((wants ++ replicate n Nothing) ++ t.want ∷ []) z.traversal z.lent t.state
        run_stepped wants left n x z t trusted r lent_bucket facts few steps lends =
            let before = chain_stepped trusted wants left n x r.last r.chain (omega (arith, r.makes.struck, few)) (lent_bucket, facts) steps lends in
            stepped trusted (wants ++ replicate n Nothing) r.last z t r.makes few before.known before.left before.steps before.lends

      -- a traversal that is on its way stays on it

      makes_on_way : IsFitContext e → (a b : On S) (s : Turned) → Makes gives counts told behavior input a b s → Lends e a.traversal.workspace.place.phase a.lent → OnWay e a.traversal (lent_words a.lent) begin (counts a.core) →
          StaysOnWay e a.traversal b.traversal (lent_words b.lent) begin (counts b.core) s.want s.state
      makes_on_way call_context a b s m lends way =
          subst (λ (w : Want). StaysOnWay e a.traversal b.traversal (lent_words b.lent) begin (counts b.core) w s.state) (sym m.want)
          (stays_on_way_given gives counts law told e begin a.traversal b.traversal a.lent b.lent s.state a.core b.core behavior input same_behavior same_input m.turned m.lent m.space m.steps call_context tells lends way)

      record IsOnWay (a : On S) : Type 0 where
        later : begin.struck ≤ (counts a.core).struck
        lends : (counts a.core).struck ≡ begin.struck → Lends e a.traversal.workspace.place.phase a.lent
        way : (counts a.core).struck ≡ begin.struck → OnWay e a.traversal (lent_words a.lent) begin (counts a.core)

      quiet_on_way : IsFitContext e → (a b : On S) → IsQuiet a b → IsOnWay a → IsOnWay b
      quiet_on_way call_context a b q h =
          let before : (counts b.core).struck ≡ begin.struck → (counts a.core).struck ≡ begin.struck = λ same. omega (arith, same, h.later, q.struck) in
          let stays = λ (same : (counts b.core).struck ≡ begin.struck). makes_on_way call_context a b quiet q (h.lends (before same)) (h.way (before same)) in
          record {
            later = omega (arith, h.later, q.struck);
            lends = λ same. lends_on e a.traversal.workspace a.lent b.lent b.traversal.workspace.place.phase q.lent a.traversal.workspace.place.phase (h.lends (before same)) ((stays same).wants same) ((stays same).next same);
            way = λ same. (stays same).goes;
          }

      pub run_on_way : (n : ℕ) (x z : On S) (t : Turned) → IsFitContext e → (r : RunsOn gives counts told behavior input n x z t) → Lends e x.traversal.workspace.place.phase x.lent → OnWay e x.traversal (lent_words x.lent) begin (counts x.core) →
          StaysOnWay e r.last.traversal z.traversal (lent_words z.lent) begin (counts z.core) t.want t.state
      run_on_way n x z t call_context r lends way = by_strikes (same_or_more begin.struck (counts r.last.core).struck last.later)
        where
          last : IsOnWay r.last
          last = chain_keeps IsQuiet IsOnWay n x r.last (quiet_on_way call_context) r.chain (record { later = way.later; lends = λ same. lends; way = λ same. way })

          by_strikes : ((counts r.last.core).struck ≡ begin.struck) ⊎ (begin.struck < (counts r.last.core).struck) → StaysOnWay e r.last.traversal z.traversal (lent_words z.lent) begin (counts z.core) t.want t.state
          by_strikes (inl same) = makes_on_way call_context r.last z t r.makes (last.lends same) (last.way same)
          by_strikes (inr more) = struck_on_way e r.last.traversal z.traversal (lent_words z.lent) begin (counts z.core) t.want (omega (arith, more, r.makes.struck)) t.state
