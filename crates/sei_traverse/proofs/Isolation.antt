-- One strike is isolated: what is known of a traversal is known behind each step.
use Rattle.std.proofs.Common.{◌≡◌, ◌⊎◌, inl, inr, ℕ, suc, ◌+◌, ◌*◌, ◌-◌, ◌^◌, ◌<◌, ◌≤◌, List, Option, sym, ◌∙◌, subst, refl, arith}
use Rattle.sei_pass.specs.declared.spaces.PassSpace.{PassSpace}
use Rattle.sei_fault.specs.Counts.{Counts, Answered}
use Rattle.sei_fault.specs.declared.place.Phase.{Phase}
use Rattle.sei_fault.specs.declared.place.Phase.TheVariants.{Guard, Take, First, Restore, Second, Compare, Verify, Enter, Give, Send, Done}
use Rattle.sei_fault.specs.Phases.{phase_number}
use Rattle.sei_fault.specs.Question.{Question, Answer, honestly_to}
use Rattle.sei_fault.specs.StruckRuns.{StruckRun}
use Rattle.sei_fault.specs.Tree.{Tree, Runs, any_core, honest}
use Rattle.sei_fault.specs.Weights.{weighed}
use Rattle.sei_fault.proofs.Public.{counted_runs, always, grows, never_falls, Counted, count}
use Rattle.sei_fault.proofs.PublicStruckRuns.Counted.{Clean as NoStrike, Once as OneStrike, More as MoreStrikes}
use Rattle.sei_words.specs.LentBucket.{words_of, bucket_of, place_of}
use Rattle.sei_words.specs.Words.{BucketWords}
use Rattle.sei_traverse.specs.declared.turned.State.{State}
use Rattle.sei_traverse.specs.declared.turned.State.TheVariants.{Went, Finished, Refused, Aborted}
use Rattle.sei_traverse.specs.declared.turned.Want.TheVariants.{Nothing}
use Rattle.sei_traverse.specs.declared.workspace.Workspace.{Workspace}
use Rattle.sei_traverse.specs.CallContext.{CallContext, Follows}
use Rattle.sei_traverse.specs.FaultInvariant.{Knows, IsUnstruck, StruckCase, IsStruck, FaultInvariant, IsRight, LendsWanted, LendsOn, WantsBucket, Wanted, ClosesOnce, IsAborted, FaultInvariantAfter, IsLikeWorkspace, Isolates}
use Rattle.sei_traverse.specs.FaultInvariant.ClosesOnce.{Stays}
use Rattle.sei_traverse.specs.FaultInvariant.StruckCase.{Right, Lost}
use Rattle.sei_traverse.specs.OnWay.{lent_words, TellsAs}
use Rattle.sei_traverse.specs.Given.{given_of}
use Rattle.sei_stmt.specs.Handling.{Behavior}
use Rattle.sei_traverse.specs.State.{TraversalState, one_more}
use Rattle.sei_traverse.specs.Step.{StepResult, step_result, site_of, traversal_step, TimedTwice}
use Rattle.sei_traverse.specs.Struck.{IsAimed}
use Rattle.sei_traverse.specs.Trusted.{IsTrusted}
use Rattle.sei_traverse.specs.Unstruck.{CleanIn, IsFinished, first_questions}
use Rattle.sei_traverse.proofs.Halves.{Halved, sends_half, halves}
use Rattle.sei_traverse.proofs.HonestStep.{unwanting}
use Rattle.sei_traverse.proofs.Likeness.{struck_settles}
use Rattle.sei_traverse.proofs.Onward.{left_of, given_with, answer_is, still_lent, one_more_at_most}
use Rattle.sei_traverse.proofs.PhaseLaws.{PhaseLaws}
use Rattle.sei_traverse.proofs.Settled.{settles, settles_end}
use Rattle.sei_traverse.proofs.ActKeeps.{IsNoStore}
use Rattle.sei_traverse.proofs.ClosesNext.{ClosesNext}
use Rattle.sei_traverse.proofs.EdgeSteps.{Untouched, wanted_step, edge_whole_step}
use Rattle.sei_traverse.proofs.Lending.{same_words, closes_once, lends_on, wants_bucket}
use Rattle.sei_traverse.proofs.LostSteps.{StaysLost, stays_lost}
use Rattle.sei_traverse.proofs.StepEnds.{EndsWell, StruckStands, clean_gate, clean_sealed}
use Rattle.sei_traverse.proofs.StepLaws.{StruckLaw, LostLaw, BothLaw, AnsweredLaw, CleanStands}
use Rattle.sei_traverse.proofs.StruckSteps.{strikes_well, stays_clean, stays_well}

-- What is known says nothing of the want.

settles_aimed : (e : CallContext) (w : Workspace) → IsAimed e w → IsAimed e (unwanting w)
settles_aimed e w a = record { fit = a.fit; wanted = a.wanted }

settles_known : (e : CallContext) (w : Workspace) (p : Phase) → Knows e w p → Knows e (unwanting w) p
settles_known e w Guard k = k
settles_known e w Take k = k
settles_known e w First k = settles_aimed e w k
settles_known e w Restore k = settles_aimed e w k
settles_known e w Second k = settles_aimed e w k
settles_known e w Compare k = settles_aimed e w k
settles_known e w Verify k = settles_aimed e w k
settles_known e w Enter k = settles_aimed e w k
settles_known e w Give k = settles_aimed e w k
settles_known e w Send k = settles_aimed e w k
settles_known e w Done k = settles_aimed e w k

settles_case : (e : CallContext) (w : Workspace) (lent : Option (List ℕ)) (asked : ℕ) → StruckCase e w lent asked → StruckCase e (unwanting w) lent asked
settles_case e w lent asked (Right gate stands) = Right gate (struck_settles e w Nothing asked lent w.place.phase stands)
settles_case e w lent asked (Lost gate fit) = Lost gate fit

-- behind Take the wanted bucket is not stored
stores_none : (p : Phase) (index : ℕ) → 2 ≤ phase_number p → IsNoStore p index
stores_none Take index two = absurd (omega (arith, two))
stores_none p index two = tt

-- A step is isolated where it ends well.

-- the gate is the phase's, or the traversal is lost and stays so
data GateIs (w : Workspace) (x : StepResult) : Type 0 where
  IsRightly : IsRight w → GateIs w x
  IsLost : (IsRight w → ⊥) → StaysLost w.gate.done x → GateIs w x

module _ (e : CallContext) (trusted : IsTrusted e) (begin c d : Counts) (old new : TraversalState) (lent_bucket left : Option BucketWords) (asked more : ℕ)
    (place : place_of left ≡ place_of lent_bucket) (space : new.space ≡ e.space) (sealed : new.workspace.sealed ≡ e.sealed) (steps : new.steps ≤ suc old.steps)
    (grown : d.asked < 2 ^ 128 - 1 → c.asked ≤ d.asked) (counted : c.asked < 2 ^ 128 - 1 → begin.asked + asked ≤ c.asked) (risen : d.asked < 2 ^ 128 - 1 → c.asked + more ≤ d.asked)
    (lends : LendsWanted old.workspace lent_bucket) (kept : IsNoStore old.workspace.place.phase old.workspace.place.index → new.workspace.wanted ≡ old.workspace.wanted)
    (still : 7 ≤ old.workspace.gate.done → IsRight old.workspace → IsLikeWorkspace old.workspace new.workspace × (lent_words left ≡ lent_words lent_bucket)) where
  abbrev lent : Option (List ℕ)
  lent = left_of lent_bucket (words_of left)

  lent_is : lent ≡ lent_words left
  lent_is = still_lent lent_bucket left (words_of left) place refl

  enough : (number : ℕ) → number ≤ asked + more → d.asked < 2 ^ 128 - 1 → begin.asked + number ≤ d.asked
  enough number le m =
      let before : c.asked ≤ d.asked = grown m in
      let so_far : begin.asked + asked ≤ c.asked = counted (omega (arith, before, m)) in
      let these : c.asked + more ≤ d.asked = risen m in
      omega (arith, so_far, these, le)

  -- what is wanted is so, and is wanted once; in both cases of the gate
  isolates_so : (state : State) (number : ℕ) → number ≤ asked + more → (d.struck ≡ begin.struck → 2 * number ≤ asked + more) → FaultInvariantAfter e new (lent_words left) begin d state → Wanted e new.workspace lent number new.workspace.want →
      ClosesNext e old.workspace.gate.done new.workspace (IsAborted state) → GateIs old.workspace (step_result new.workspace (words_of left) state) → Isolates e old new lent_bucket left begin d new.workspace.want state
  isolates_so state number le twice goes wanted next (IsRightly right) =
      let so : Wanted e new.workspace (lent_words left) number new.workspace.want = subst (λ (l : Option (List ℕ)). Wanted e new.workspace l number new.workspace.want) lent_is wanted in
      let once : ClosesOnce e old.workspace new.workspace (IsAborted state) = closes_once e old.workspace new.workspace right lent_bucket left place lends kept (IsAborted state) next in
      record {
        goes = goes;
        wants = record { asked = number; wanted = so; bucket = wants_bucket e old.workspace new.workspace right lent_bucket left place lends kept (IsAborted state) number once so; counted = enough number le; twice = λ none. enough (2 * number) (twice none) };
        once = once;
        lends = lends_on e old.workspace new.workspace right lent_bucket left place lends kept state once;
        lost = λ wrong. absurd (wrong right);
        finishes = λ finished. right;
        aims = λ two here. kept (stores_none old.workspace.place.phase old.workspace.place.index (omega (arith, two, here)));
        still = still;
      }
  isolates_so state number le twice goes wanted next (IsLost wrong stays) = record {
    goes = goes;
    wants = record {
      asked = number;
      wanted = subst (λ (l : Option (List ℕ)). Wanted e new.workspace l number new.workspace.want) lent_is wanted;
      bucket = subst (WantsBucket e left) (sym stays.want) tt;
      counted = enough number le;
      twice = λ none. enough (2 * number) (twice none);
    };
    once = Stays stays.gate stays.want;
    lends = λ went. subst (LendsOn new.workspace left) (sym stays.want) (λ right. absurd (stays.lost went right));
    lost = λ was went right. stays.lost went right;
    finishes = λ finished. absurd (stays.unfinished finished);
    aims = λ two right. absurd (wrong right);
    still = λ seven right. absurd (wrong right);
  }

  struck_after : d.struck ≡ begin.struck + 1 → (number : ℕ) → number ≤ asked + more → (state : State) → StruckStands e number new.workspace lent state → FaultInvariantAfter e new (lent_words left) begin d state
  struck_after fell number le Went stands = record {
    later = omega (arith, fell);
    unstruck = λ same. absurd (omega (arith, fell, same));
    struck = λ h. record {
      space = space;
      sealed = sealed;
      asked = number;
      case = subst (λ (l : Option (List ℕ)). StruckCase e new.workspace l number) lent_is stands;
      counted = enough number le;
    };
  }
  struck_after fell number le Finished stands = record { gate = stands.0; asked = number; answered = stands.1; counted = enough number le; twice = λ same. absurd (omega (arith, fell, same)); unstruck = λ same. absurd (omega (arith, fell, same)) }
  struck_after fell number le Refused stands = record { gate = stands; cause = inr (omega (arith, fell)) }
  struck_after fell number le (Aborted abort) stands = omega (arith, fell)

  clean_after : d.struck ≡ begin.struck → (number : ℕ) → number ≤ asked + more → (state : State) → CleanStands e (suc old.steps) number new.workspace lent state → FaultInvariantAfter e new (lent_words left) begin d state
  clean_after none number le Went stands = record {
    later = omega (arith, none);
    unstruck = λ same. record {
      clean = record {
        space = space;
        asked = number;
        clean = record {
          in_phase = settles e new.workspace new.workspace.want (lent_words left) new.steps (suc old.steps) number new.workspace.place.phase steps
              (subst (λ (l : Option (List ℕ)). CleanIn e new.workspace l (suc old.steps) number new.workspace.place.phase) lent_is stands.0);
        };
        counted = enough number le;
      };
      knows = stands.1;
    };
    struck = λ h. absurd (omega (arith, none, h));
  }
  clean_after none number le Finished stands =
      let f : IsFinished e new.workspace (suc old.steps) number = stands.2 in
      let n : ℕ = first_questions e f.time f.made in
      let half : 2 * n ≤ number = f.answered.questions in
      record {
        gate = stands.0;
        asked = n;
        answered = sends_half e trusted new.workspace f.time f.made f.end stands.1.answered.answers.aimed number f.answered;
        counted = enough n (omega (arith, half, le));
        twice = λ same. enough (2 * n) (omega (arith, half, le));
        unstruck = λ same. record { asked = number; finished = settles_end e new.workspace new.workspace.want new.steps (suc old.steps) number steps f; counted = enough number le };
      }
  clean_after none number le Refused stands = record { gate = stands.0; cause = inl stands.1 }
  clean_after none number le (Aborted abort) stands = absurd stands

  isolates_struck : (state : State) → d.struck ≡ begin.struck + 1 → EndsWell e (StruckStands e) (left_of lent_bucket) old.workspace.gate.done (asked + more) (step_result new.workspace (words_of left) state) →
      GateIs old.workspace (step_result new.workspace (words_of left) state) → Isolates e old new lent_bucket left begin d new.workspace.want state
  isolates_struck state fell h gate = isolates_so state h.wanting h.wanting_most (λ same. absurd (omega (arith, fell, same))) (struck_after fell h.number h.most state h.state) h.wanted h.once gate

  isolates_clean : (state : State) → d.struck ≡ begin.struck → EndsWell e (CleanStands e (suc old.steps)) (left_of lent_bucket) old.workspace.gate.done (asked + more) (step_result new.workspace (words_of left) state) →
      GateIs old.workspace (step_result new.workspace (words_of left) state) → Halved e new.workspace lent asked new.workspace.want → Isolates e old new lent_bucket left begin d new.workspace.want state
  isolates_clean state none h gate half =
      let twice : 2 * half.0 ≤ asked = half.1 in
      isolates_so state half.0 (omega (arith, twice)) (λ same. omega (arith, twice)) (clean_after none h.number h.most state h.state) half.2 h.once gate

-- by the strikes before the step and in it
module _ (e : CallContext) (trusted : IsTrusted e) (laws : (phase : Phase) → (phase ≡ Guard → ⊥) → PhaseLaws e phase) (guard_struck : StruckLaw e Guard) (lost : LostLaw) (both : BothLaw e) (answered : AnsweredLaw e)
    (begin c d : Counts) (old new : TraversalState) (lent_bucket left : Option BucketWords) (state : State) (now later : ℕ) (small : now < 2 ^ 64) (told : Follows e.clock now) (small_later : later < 2 ^ 64) (told_later : Follows e.clock later)
    (run : Runs any_core (traversal_step (given_with e lent_bucket) now later old.workspace (words_of lent_bucket)) c d (step_result new.workspace (words_of left) state))
    (place : place_of left ≡ place_of lent_bucket) (space : new.space ≡ old.space) (steps : new.steps ≡ one_more old.steps) (sealed : new.workspace.sealed ≡ old.workspace.sealed)
    (lends : LendsWanted old.workspace lent_bucket) (facts : FaultInvariant e old (lent_words lent_bucket) begin c) (few : d.struck ≤ begin.struck + 1) where
  abbrev v : Workspace
  v = unwanting old.workspace

  abbrev x : StepResult
  x = step_result new.workspace (words_of left) state

  abbrev tree : Tree StepResult
  tree = traversal_step (given_with e lent_bucket) now later old.workspace (words_of lent_bucket)

  abbrev IsIsolated : Type 0
  IsIsolated = Isolates e old new lent_bucket left begin d new.workspace.want state

  grown : d.asked < 2 ^ 128 - 1 → c.asked ≤ d.asked
  grown = grows tree c d x run

  steps_at_most : new.steps ≤ suc old.steps
  steps_at_most = subst (λ (n : ℕ). n ≤ suc old.steps) (sym steps) (one_more_at_most old.steps)

  -- what it wants is kept, but where that is stored
  kept : IsNoStore old.workspace.place.phase old.workspace.place.index → new.workspace.wanted ≡ old.workspace.wanted
  kept unstored = always any_core (λ (y : StepResult). y.workspace.wanted ≡ old.workspace.wanted) tree c d x (wanted_step (given_with e lent_bucket) now later old.workspace (words_of lent_bucket) unstored) run

  -- from Enter on, all but the place, the gate and the want is kept
  still : 7 ≤ old.workspace.gate.done → IsRight old.workspace → IsLikeWorkspace old.workspace new.workspace × (lent_words left ≡ lent_words lent_bucket)
  still seven right =
      let u = always any_core (λ (y : StepResult). Untouched old.workspace (words_of lent_bucket) y.workspace y.words) tree c d x (edge_whole_step (given_with e lent_bucket) now later old.workspace (words_of lent_bucket) (omega (arith, seven, right))) run in
      (u.0, same_words lent_bucket left place u.1)

  -- nothing struck it before
  module _ (unstruck : IsUnstruck e old (lent_words lent_bucket) begin c) where
    abbrev asked : ℕ
    asked = unstruck.clean.asked

    clean : CleanIn e v (lent_words lent_bucket) old.steps asked old.workspace.place.phase
    clean = settles e old.workspace Nothing (lent_words lent_bucket) old.steps old.steps asked old.workspace.place.phase (omega arith) unstruck.clean.clean.in_phase

    knows : Knows e v old.workspace.place.phase
    knows = settles_known e old.workspace old.workspace.place.phase unstruck.knows

    gate : old.workspace.gate.done ≡ phase_number old.workspace.place.phase
    gate = clean_gate e v (lent_words lent_bucket) old.steps asked old.workspace.place.phase clean

    seal : new.workspace.sealed ≡ e.sealed
    seal = sealed ∙ clean_sealed e v (lent_words lent_bucket) old.steps asked old.workspace.place.phase clean

    nor_now : d.struck ≡ begin.struck → x ≡ honest tree → (d.asked < 2 ^ 128 - 1 → c.asked + weighed tree ≤ d.asked) → IsIsolated
    nor_now none is risen =
        let well = stays_clean e trusted laws guard_struck lost both answered now later small told small_later told_later lent_bucket v refl old.steps asked clean knows (lends gate) in
        let there = subst (λ (y : StepResult). EndsWell e (CleanStands e (suc old.steps)) (left_of lent_bucket) (phase_number old.workspace.place.phase) (asked + weighed tree) y) (sym is) well in
        let ends = subst (λ (n : ℕ). EndsWell e (CleanStands e (suc old.steps)) (left_of lent_bucket) n (asked + weighed tree) x) (sym gate) there in
        isolates_clean e trusted begin c d old new lent_bucket left asked (weighed tree) place (space ∙ unstruck.clean.space) seal steps_at_most grown unstruck.clean.counted risen lends kept still state none ends (IsRightly gate)
        (halves e trusted old.workspace new.workspace (lent_words lent_bucket) (left_of lent_bucket (words_of left)) old.steps asked ends.wanting (IsAborted state) gate
        (λ seven. let s = still seven gate in (s.0, still_lent lent_bucket left (words_of left) place refl ∙ s.1)) unstruck.clean.clean.in_phase unstruck.knows ends.once ends.wanted)

    now_struck : d.struck ≡ begin.struck + 1 → (n : ℕ) → StruckRun tree x n → (d.asked < 2 ^ 128 - 1 → c.asked + n ≤ d.asked) → IsIsolated
    now_struck fell n strikes risen =
        let well = strikes_well e trusted laws guard_struck lost both answered now later small told small_later told_later lent_bucket v refl old.steps asked clean knows (lends gate) (site_of e.behavior v) x n strikes in
        isolates_struck e trusted begin c d old new lent_bucket left asked n place (space ∙ unstruck.clean.space) seal steps_at_most grown unstruck.clean.counted risen lends kept still state fell
        (subst (λ (m : ℕ). EndsWell e (StruckStands e) (left_of lent_bucket) m (asked + n) x) (sym gate) well) (IsRightly gate)

  -- it was struck before
  was_struck : IsStruck e old (lent_words lent_bucket) begin c → d.struck ≡ begin.struck + 1 → x ≡ honest tree → (d.asked < 2 ^ 128 - 1 → c.asked + weighed tree ≤ d.asked) → IsIsolated
  was_struck struck fell is risen =
      let case = settles_case e old.workspace (lent_words lent_bucket) struck.asked struck.case in
      let well = stays_well e laws lost now later small told lent_bucket v refl struck.asked struck.sealed case lends (site_of e.behavior v) in
      isolates_struck e trusted begin c d old new lent_bucket left struck.asked (weighed tree) place (space ∙ struck.space) (sealed ∙ struck.sealed) steps_at_most grown struck.counted risen lends kept still state fell
      (subst (λ (y : StepResult). EndsWell e (StruckStands e) (left_of lent_bucket) old.workspace.gate.done (struck.asked + weighed tree) y) (sym is) well) (by_gate case)
    where
      by_gate : StruckCase e v (lent_words lent_bucket) struck.asked → GateIs old.workspace x
      by_gate (Right gate stands) = IsRightly gate
      by_gate (Lost gate fit) = IsLost gate (subst (StaysLost old.workspace.gate.done) (sym is) (stays_lost e laws lost now later lent_bucket v refl struck.sealed gate fit (site_of e.behavior v)))

  struck_or : (c.struck ≡ begin.struck) ⊎ (c.struck ≡ begin.struck + 1)
  struck_or = let later : begin.struck ≤ c.struck = facts.later in let fell : c.struck ≤ d.struck = never_falls tree c d x run in grind (arith, later, fell, few)

  by_strikes : Counted tree x c d → (c.struck ≡ begin.struck) ⊎ (c.struck ≡ begin.struck + 1) → IsIsolated
  by_strikes (NoStrike is none risen) (inl same) = nor_now (facts.unstruck same) (none ∙ same) is risen
  by_strikes (NoStrike is none risen) (inr one) = was_struck (facts.struck one) (none ∙ one) is risen
  by_strikes (OneStrike n strikes fell risen) (inl same) = now_struck (facts.unstruck same) (omega (arith, fell, same)) n strikes risen
  by_strikes (OneStrike n strikes fell risen) (inr one) = absurd (omega (arith, fell, one, few))
  by_strikes (MoreStrikes fell) (inl same) = absurd (omega (arith, fell, same, few))
  by_strikes (MoreStrikes fell) (inr one) = absurd (omega (arith, fell, one, few))

  -- what is known of a traversal is known behind each step, where at most one strike fell since it began
  pub isolates : Isolates e old new lent_bucket left begin d new.workspace.want state
  isolates = by_strikes (count tree c d x run) struck_or

-- what is known of a traversal that at most one strike struck, tells its space
invariant_space : (e : CallContext) (t : TraversalState) (lent : Option (List ℕ)) (begin now : Counts) → FaultInvariant e t lent begin now → now.struck ≤ begin.struck + 1 → t.space ≡ e.space
invariant_space e t lent begin now facts few = by_strikes (struck_by begin.struck now.struck facts.later few)
  where
    struck_by : (b n : ℕ) → b ≤ n → n ≤ b + 1 → (n ≡ b) ⊎ (n ≡ b + 1)
    struck_by b n later few = grind (arith, later, few)

    by_strikes : (now.struck ≡ begin.struck) ⊎ (now.struck ≡ begin.struck + 1) → t.space ≡ e.space
    by_strikes (inl same) = (facts.unstruck same).clean.space
    by_strikes (inr one) = (facts.struck one).space

-- for any core that keeps its law, and any clock that is the call context's, of a behavior and an input that are the call context's
module _ (e : CallContext) (trusted : IsTrusted e) (laws : (phase : Phase) → (phase ≡ Guard → ⊥) → PhaseLaws e phase) (guard_struck : StruckLaw e Guard) (lost : LostLaw) (both : BothLaw e) (answered : AnsweredLaw e) where
  pub isolates_told : {S : Type 0} (gives : S → (q : Question) → Answer q → S → Type 0) (counts : S → Counts) →
      ((s : S) (q : Question) (a : Answer q) (t : S) → gives s q a t → Answered (a ≡ honestly_to q) (counts s) (counts t)) →
      (told : Option ℕ) (begin : Counts) (old new : TraversalState) (lent_bucket left : Option BucketWords) (state : State) (s t : S) →
      TimedTwice gives told (λ now later. traversal_step (given_of e.behavior e.input old.space (bucket_of lent_bucket)) now later old.workspace (words_of lent_bucket)) s t (step_result new.workspace (words_of left) state) →
      place_of left ≡ place_of lent_bucket → new.space ≡ old.space → new.steps ≡ one_more old.steps → new.workspace.sealed ≡ old.workspace.sealed →
      TellsAs e.clock told → LendsWanted old.workspace lent_bucket → FaultInvariant e old (lent_words lent_bucket) begin (counts s) → (counts t).struck ≤ begin.struck + 1 →
      Isolates e old new lent_bucket left begin (counts t) new.workspace.want state
  isolates_told gives counts law told begin old new lent_bucket left state s t turned place space steps sealed tells lends facts few =
      let tree : PassSpace → _ = λ g. traversal_step (given_of e.behavior e.input g (bucket_of lent_bucket)) turned.now turned.later old.workspace (words_of lent_bucket) in
      let x = step_result new.workspace (words_of left) state in
      let run = counted_runs gives counts law (tree old.space) s t x turned.runs in
      let fell = never_falls (tree old.space) (counts s) (counts t) x run in
      let same = invariant_space e old (lent_words lent_bucket) begin (counts s) facts (omega (arith, fell, few)) in
      let run_on = subst (λ (g : PassSpace). Runs any_core (tree g) (counts s) (counts t) x) same run in
      let answer = answer_is e.clock told turned.now trusted.clock tells turned.answer in
      let answer_later = answer_is e.clock told turned.later trusted.clock tells turned.answer_later in
      isolates e trusted laws guard_struck lost both answered begin (counts s) (counts t) old new lent_bucket left state turned.now turned.later answer.0 answer.1 answer_later.0 answer_later.1 run_on place space steps sealed lends facts few

  -- the same of a behavior and an input that are the call context's
  pub isolates_given : {S : Type 0} (gives : S → (q : Question) → Answer q → S → Type 0) (counts : S → Counts) →
      ((s : S) (q : Question) (a : Answer q) (t : S) → gives s q a t → Answered (a ≡ honestly_to q) (counts s) (counts t)) →
      (told : Option ℕ) (begin : Counts) (old new : TraversalState) (lent_bucket left : Option BucketWords) (state : State) (s t : S) (behavior : Behavior) (input : List ℕ) →
      e.behavior ≡ behavior → e.input ≡ input →
      TimedTwice gives told (λ now later. traversal_step (given_of behavior input old.space (bucket_of lent_bucket)) now later old.workspace (words_of lent_bucket)) s t (step_result new.workspace (words_of left) state) →
      place_of left ≡ place_of lent_bucket → new.space ≡ old.space → new.steps ≡ one_more old.steps → new.workspace.sealed ≡ old.workspace.sealed →
      TellsAs e.clock told → LendsWanted old.workspace lent_bucket → FaultInvariant e old (lent_words lent_bucket) begin (counts s) → (counts t).struck ≤ begin.struck + 1 →
      Isolates e old new lent_bucket left begin (counts t) new.workspace.want state
  isolates_given gives counts law told begin old new lent_bucket left state s t behavior input f h turned place space steps sealed tells lends facts few =
      isolates_told gives counts law told begin old new lent_bucket left state s t
      (subst (λ (x : Behavior). TimedTwice gives told (λ now later. traversal_step (given_of x e.input old.space (bucket_of lent_bucket)) now later old.workspace (words_of lent_bucket)) s t (step_result new.workspace (words_of left) state)) (sym f)
      (subst (λ (x : List ℕ). TimedTwice gives told (λ now later. traversal_step (given_of behavior x old.space (bucket_of lent_bucket)) now later old.workspace (words_of lent_bucket)) s t (step_result new.workspace (words_of left) state)) (sym h) turned))
      place space steps sealed tells lends facts few
