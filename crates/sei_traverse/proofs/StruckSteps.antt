-- A step of a traversal that was struck, or in which a strike falls.
use Rattle.std.proofs.Common.{◌≡◌, ◌≢◌, ◌⊎◌, inl, inr, ℕ, suc, ◌+◌, ◌^◌, ◌<◌, ◌≤◌, Bool, true, List, Option, Some, None, sym, ap, ◌∙◌, subst, refl, arith}
use Rattle.std.specs.Prelude.{if◌then◌else◌}
use Rattle.sei_fault.specs.declared.cause.AbortCause.TheVariants.{Table}
use Rattle.sei_fault.specs.declared.place.Act.{Act}
use Rattle.sei_fault.specs.declared.place.Act.TheVariants.{Plain}
use Rattle.sei_fault.specs.declared.place.Phase.{Phase}
use Rattle.sei_fault.specs.declared.place.Phase.TheVariants.{Guard, Take, Done}
use Rattle.sei_fault.specs.declared.place.Place.{Place}
use Rattle.sei_fault.specs.declared.place.Times.{Times}
use Rattle.sei_fault.specs.declared.place.Times.TheVariants.{Once, Skip, Twice}
use Rattle.sei_fault.specs.Phases.{phase_number}
use Rattle.sei_fault.specs.StruckRuns.{StruckRun}
use Rattle.sei_fault.specs.Tree.{Tree, bound, honest}
use Rattle.sei_fault.specs.Weights.{weighed}
use Rattle.sei_fault.proofs.Public.{honest_bound, weighed_bound, always_honest, StruckBound, struck_bound}
use Rattle.sei_fault.proofs.PublicStruckRuns.StruckBound.{Before, Behind}
use Rattle.sei_pass.specs.declared.given.Sealed.{Sealed}
use Rattle.sei_pass.specs.Setting.{is_intact}
use Rattle.sei_words.specs.LentBucket.{words_of}
use Rattle.sei_words.specs.Words.{BucketWords}
use Rattle.sei_traverse.specs.declared.turned.State.{State}
use Rattle.sei_traverse.specs.declared.turned.State.TheVariants.{Went, Refused}
use Rattle.sei_traverse.specs.declared.turned.Want.TheVariants.{Nothing}
use Rattle.sei_traverse.specs.declared.workspace.Ending.TheVariants.{Leads, Refuses}
use Rattle.sei_traverse.specs.declared.workspace.Workspace.{Workspace}
use Rattle.sei_traverse.specs.Acts.{Acted, acted, at, next_phase}
use Rattle.sei_traverse.specs.CallContext.{CallContext, Follows}
use Rattle.sei_traverse.specs.FaultInvariant.{Knows, StruckCase, Wanted, IsUnfitInput}
use Rattle.sei_traverse.proofs.ClosesNext.{ClosesNext}
use Rattle.sei_traverse.specs.FaultInvariant.StruckCase.{Right, Lost}
use Rattle.sei_traverse.proofs.ClosesNext.ClosesNext.{Closes}
use Rattle.sei_traverse.specs.OnWay.{lent_words, LendsIn}
use Rattle.sei_traverse.specs.Given.{Given, has_sealed_call}
use Rattle.sei_traverse.specs.Step.{StepResult, step_result, aborted, arrival, act_in, act_tree, is_last, site_of, skipped, goes, goes_on, once, twice, step_as, step_at}
use Rattle.sei_traverse.specs.Struck.{HasCopyOfSome, StruckIn}
use Rattle.sei_traverse.specs.Trusted.{PassesGuard, IsTrusted}
use Rattle.sei_traverse.specs.Unstruck.{NextIn, CleanIn}
use Rattle.sei_traverse.proofs.ActKeeps.{HonestlyKeeps, OnlyCloses}
use Rattle.sei_traverse.proofs.EdgeActs.{Finishes}
use Rattle.sei_traverse.proofs.GoesOn.{GoesOn}
use Rattle.sei_traverse.proofs.HonestStep.{clean_no_end}
use Rattle.sei_traverse.proofs.Likeness.{wanted_like}
use Rattle.sei_traverse.proofs.Onward.{left_of, given_with}
use Rattle.sei_traverse.proofs.PhaseLaws.{ActsWell, PhaseLaws}
use Rattle.sei_traverse.proofs.StepEnds.{small_number, same_or, WantsWell, EndsWell, StruckStands, raised, once_like, wants_nothing, nothing_wanted, comes_well, arrives_well, act_well, clean_gate, clean_sealed, moves_well, moves_at_end, lost_well}
use Rattle.sei_traverse.proofs.StepLaws.{StruckLaw, HonestLaw, LostLaw, StaysOpen, BothLaw, AnsweredLaw, LendsRight, lends_right, lends_again, lent_is_left, guard_or, WantsKind, wants_kind, never_on, CleanAct, clean_act, CleanStands, acts_kept, wanted_kept, next_gate, gate_closed, behind, goes_wants, knows_on, quiet_again, end_kept, end_sends}
use Rattle.sei_traverse.proofs.StepLaws.WantsKind.{Quiet, Stores, Edge}
use Rattle.sei_traverse.proofs.StepLaws.CleanAct.{Goes, Ends, Unfit}

-- An honest act of a traversal that was struck.

module _ (e : CallContext) (laws : (phase : Phase) → (phase ≡ Guard → ⊥) → PhaseLaws e phase) (lent_bucket : Option BucketWords) where
  honest_guard : HonestLaw e Guard
  honest_guard = λ now small told w words asked nothing gate sealed stands. absurd stands

  honest_law : (p : Phase) → HonestLaw e p
  honest_law p = elim (guard_or p) [ inl h ↦ subst (HonestLaw e) (sym h) honest_guard | inr n ↦ (laws p n).honest_on ]

  module _ (clock : ℕ) (u : Workspace) (words : List ℕ) where
    abbrev its_act : Tree Acted
    its_act = act_tree (given_with e lent_bucket) clock u words

    once_is : honest (goes_on (honest its_act)) ≡ honest (once (given_with e lent_bucket) clock u words)
    once_is = sym (honest_bound its_act goes_on)

    once_asks : weighed its_act ≤ weighed (once (given_with e lent_bucket) clock u words)
    once_asks = let sum = weighed_bound its_act goes_on in omega (arith, sum)

    -- where the gate is right
    pub right_once : clock < 2 ^ 64 → Follows e.clock clock → (asked : ℕ) → u.want ≡ Nothing → u.gate.done ≡ phase_number u.place.phase → u.sealed ≡ e.sealed → LendsIn u.wanted u.place.phase lent_bucket → StruckIn e u (left_of lent_bucket words) asked u.place.phase →
        EndsWell e (StruckStands e) (left_of lent_bucket) (phase_number u.place.phase) (asked + weighed (once (given_with e lent_bucket) clock u words)) (honest (once (given_with e lent_bucket) clock u words))
    right_once small told asked nothing gate sealed lends stands =
        let right = lends_right e u.place.phase u.wanted lent_bucket lends in
        let well = honest_law u.place.phase clock small told u words asked nothing gate sealed (subst (λ (lent : Option (List ℕ)). StruckIn e u lent asked u.place.phase) (right.left words) stands) in
        let given = subst (λ (g : Given). ActsWell e u.place.phase (asked + weighed (act_tree g clock u words)) (honest (act_tree g clock u words))) right.given well in
        let ends = act_well e (left_of lent_bucket) u.place.phase right.left (asked + weighed its_act) (honest its_act) given in
        raised e (StruckStands e) (left_of lent_bucket) (phase_number u.place.phase) (asked + weighed its_act) (asked + weighed (once (given_with e lent_bucket) clock u words)) (honest (once (given_with e lent_bucket) clock u words)) (omega (arith, once_asks))
        (subst (λ (x : StepResult). EndsWell e (StruckStands e) (left_of lent_bucket) (phase_number u.place.phase) (asked + weighed its_act) x) once_is ends)

    module _ (lost : LostLaw) (gate : u.gate.done ≢ phase_number u.place.phase) (fit : u.place.phase ≡ Guard → PassesGuard e) (sealed : u.sealed ≡ e.sealed) where
      guards : u.place.phase ≡ Guard → (is_intact u.sealed e.input ≡ true) × (has_sealed_call (given_with e lent_bucket) u.sealed ≡ true)
      guards h = (ap (λ (s : Sealed). is_intact s e.input) sealed ∙ (fit h).intact, ap (λ (s : Sealed). has_sealed_call (given_with e lent_bucket) s) sealed ∙ (fit h).has)

      pub stays_open : StaysOpen u.place.phase u (honest its_act)
      stays_open = lost (given_with e lent_bucket) clock u.place.phase u words gate guards

      -- where it is not
      pub lost_once : (before asked : ℕ) → WantsWell e (left_of lent_bucket (honest its_act).words) before asked (honest its_act).workspace →
          EndsWell e (StruckStands e) (left_of lent_bucket) before asked (honest (once (given_with e lent_bucket) clock u words))
      lost_once before asked wants =
          subst (λ (x : StepResult). EndsWell e (StruckStands e) (left_of lent_bucket) before asked x) once_is
          (lost_well e (left_of lent_bucket) before asked u.place.phase fit (honest its_act).workspace (honest its_act).words (honest its_act).ending stays_open.ends
          (never_on (given_with e lent_bucket) clock u.place.phase u.place.index u words gate)
          (λ same. gate (sym stays_open.gate ∙ same)) wants)

      pub lost_quietly : (asked : ℕ) → u.want ≡ Nothing → EndsWell e (StruckStands e) (left_of lent_bucket) u.gate.done asked (honest (once (given_with e lent_bucket) clock u words))
      lost_quietly asked none =
          lost_once u.gate.done asked (wants_nothing e (left_of lent_bucket (honest its_act).words) u.gate.done asked (honest its_act).workspace (stays_open.want ∙ none) stays_open.gate)

-- A step in which a strike falls.

module _ (e : CallContext) (trusted : IsTrusted e) (laws : (phase : Phase) → (phase ≡ Guard → ⊥) → PhaseLaws e phase) (guard_struck : StruckLaw e Guard) (lost : LostLaw) (both : BothLaw e) (answered : AnsweredLaw e)
    (now later : ℕ) (small : now < 2 ^ 64) (told : Follows e.clock now) (small_later : later < 2 ^ 64) (told_later : Follows e.clock later) (lent_bucket : Option BucketWords) (w : Workspace) (nothing : w.want ≡ Nothing) (steps asked : ℕ)
    (clean : CleanIn e w (lent_words lent_bucket) steps asked w.place.phase) (knows : Knows e w w.place.phase) (lends : LendsIn w.wanted w.place.phase lent_bucket) where
  abbrev p : Phase
  p = w.place.phase

  abbrev words : List ℕ
  words = words_of lent_bucket

  abbrev g : Given
  g = given_with e lent_bucket

  abbrev EndsAs : ℕ → StepResult → Type 0
  EndsAs n x = EndsWell e (StruckStands e) (left_of lent_bucket) (phase_number w.place.phase) (asked + n) x

  gate : w.gate.done ≡ phase_number w.place.phase
  gate = clean_gate e w (lent_words lent_bucket) steps asked w.place.phase clean

  struck_law : (q : Phase) → StruckLaw e q
  struck_law q = elim (guard_or q) [ inl h ↦ subst (StruckLaw e) (sym h) guard_struck | inr n ↦ (laws q n).struck ]

  right : LendsRight e w.place.phase w.wanted lent_bucket
  right = lends_right e w.place.phase w.wanted lent_bucket lends

  -- the strike falls in the act
  in_act : (y : Acted) (n : ℕ) → StruckRun (act_tree g now w words) y n → EndsAs n (honest (goes_on y))
  in_act y n run =
      let lent = subst (λ (l : Option (List ℕ)). CleanIn e w l steps asked w.place.phase) (lent_is_left lent_bucket ∙ right.left words) clean in
      let run_on = subst (λ (h : Given). StruckRun (act_tree h now w words) y n) (sym right.given) run in
      act_well e (left_of lent_bucket) w.place.phase right.left (asked + n) y (struck_law w.place.phase now small told w words steps asked n y nothing lent knows run_on)

  module _ (fit : PassesGuard e) (a : GoesOn e (given_with e lent_bucket) now w.place.phase w (words_of lent_bucket) (left_of lent_bucket) steps asked) where
    abbrev next : Workspace
    next = record a.workspace { place = a.to }

    knows_next : Knows e next a.to.phase
    knows_next = knows_on e trusted both answered now lent_bucket w steps asked w.place.phase fit knows clean a

    not_guard : a.to.phase ≡ Guard → ⊥
    not_guard = behind e trusted both answered now lent_bucket w steps asked w.place.phase a

    wants : WantsWell e (left_of lent_bucket a.left) (phase_number w.place.phase) asked a.workspace
    wants = goes_wants e trusted both answered now lent_bucket w steps asked w.place.phase fit knows clean lends a

    moved : (index : ℕ) → StruckIn e (record a.workspace { place = at a.to.phase index }) (left_of lent_bucket a.left) (asked + a.more) a.to.phase
    moved index = (laws a.to.phase not_guard).moved next (left_of lent_bucket a.left) (suc steps) (asked + a.more) index a.clean knows_next

    -- the act is honest, and the step goes to any place
    goes_anywhere : (n : ℕ) (to : Place) → a.more ≤ n → EndsAs n (step_result (record a.workspace { place = to }) a.left (arrival a.workspace.place.phase to a.workspace.gate.done))
    goes_anywhere n to le =
        comes_well e (StruckStands e) (left_of lent_bucket) (phase_number w.place.phase) (asked + n) (asked + a.more) asked a.workspace a.left to (arrival a.workspace.place.phase to a.workspace.gate.done) (omega (arith, le)) (omega arith)
        (moves_well e next (left_of lent_bucket a.left) (suc steps) (asked + a.more) a.to.phase not_guard moved a.clean knows_next a.workspace.place.phase to) wants

    kept : HonestlyKeeps w (acted a.workspace a.left (Leads a.to))
    kept = acts_kept e trusted both answered now lent_bucket w steps asked w.place.phase a

    gate_there : a.workspace.gate.done ≡ phase_number a.to.phase
    gate_there = next_gate e trusted both answered now lent_bucket w steps asked w.place.phase a

    -- the act once more, in the same phase
    same_again : a.to.phase ≡ w.place.phase → EndsAs (a.more + weighed (once g later a.workspace a.left)) (honest (once g later a.workspace a.left))
    same_again same =
        let u : Workspace = a.workspace in
        let quiet : u.want ≡ Nothing = a.want ∙ quiet_again e trusted both answered now lent_bucket w steps asked w.place.phase a gate same in
        let place : u.place ≡ w.place = kept.place in
        let there : StruckIn e (record u { place = w.place }) (left_of lent_bucket a.left) (asked + a.more) w.place.phase =
        subst (λ (q : Phase). StruckIn e (record u { place = at q w.place.index }) (left_of lent_bucket a.left) (asked + a.more) q) same (moved w.place.index) in
        let stands : StruckIn e u (left_of lent_bucket a.left) (asked + a.more) u.place.phase =
        subst (λ (r : Place). StruckIn e (record u { place = r }) (left_of lent_bucket a.left) (asked + a.more) r.phase) (sym place) there in
        let gate_is : u.gate.done ≡ phase_number u.place.phase = gate_there ∙ ap phase_number same ∙ ap (λ (r : Place). phase_number r.phase) (sym place) in
        let lent = lends_again w.place.phase w.place.index w.wanted u.wanted lent_bucket (wanted_kept e trusted both answered now lent_bucket w steps asked w.place.phase a) lends in
        let lent_on : LendsIn u.wanted u.place.phase lent_bucket = subst (λ (r : Place). LendsIn u.wanted r.phase lent_bucket) (sym place) lent in
        let ends = right_once e laws lent_bucket later u a.left small_later told_later (asked + a.more) quiet gate_is (kept.sealed ∙ clean_sealed e w (lent_words lent_bucket) steps asked w.place.phase clean) lent_on stands in
        let n : ℕ = a.more + weighed (once g later u a.left) in
        let all : EndsWell e (StruckStands e) (left_of lent_bucket) (phase_number u.place.phase) (asked + n) (honest (once g later u a.left)) =
        raised e (StruckStands e) (left_of lent_bucket) (phase_number u.place.phase) (asked + a.more + weighed (once g later u a.left)) (asked + n) (honest (once g later u a.left)) (omega arith) ends in
        subst (λ (r : Place). EndsWell e (StruckStands e) (left_of lent_bucket) (phase_number r.phase) (asked + n) (honest (once g later u a.left))) place all

    -- what the first act wants is so behind the second one, which closes nothing
    wants_again : phase_number a.to.phase ≢ phase_number w.place.phase → StaysOpen a.workspace.place.phase a.workspace (honest (act_tree g later a.workspace a.left)) → WantsKind e w w.place.phase →
        WantsWell e (left_of lent_bucket (honest (act_tree g later a.workspace a.left)).words) (phase_number w.place.phase) asked (honest (act_tree g later a.workspace a.left)).workspace
    wants_again apart still (Quiet quiet none) =
        let y : Acted = honest (act_tree g later a.workspace a.left) in
        let want : y.workspace.want ≡ Nothing = still.want ∙ a.want ∙ quiet in
        record {
          wanted = nothing_wanted e (left_of lent_bucket y.words) asked y.workspace want;
          once = Closes w.place.phase refl (still.gate ∙ gate_closed e trusted both answered now lent_bucket w steps asked w.place.phase a gate apart) (want ∙ sym (none y.workspace));
        }
    wants_again apart still (Stores take index) =
        let stays : a.to.phase ≡ Take = subst (λ (n : ℕ). NextIn Take n a.to.phase) index (subst (λ (q : Phase). NextIn q w.place.index a.to.phase) take a.next) in
        absurd (apart (ap phase_number (stays ∙ sym take)))
    wants_again apart still (Edge closes) =
        let u : Workspace = a.workspace in
        let y : Acted = honest (act_tree g later u a.left) in
        let place : u.place ≡ w.place = kept.place in
        let there : OnlyCloses u a.left (honest (act_in g later w.place.phase w.place.index u a.left)) =
        always_honest (OnlyCloses u a.left) (act_in g later w.place.phase w.place.index u a.left) (closes g later u a.left) in
        let only : OnlyCloses u a.left y = subst (λ (r : Place). OnlyCloses u a.left (honest (act_in g later r.phase r.index u a.left))) (sym place) there in
        let wanted : Wanted e y.workspace (left_of lent_bucket a.left) asked u.want = wanted_like e u y.workspace only.like (left_of lent_bucket a.left) asked u.want wants.wanted in
        let wanted_on = subst (λ (left : List ℕ). Wanted e y.workspace (left_of lent_bucket left) asked u.want) (sym only.words_are) wanted in
        record {
          wanted = subst (λ n. Wanted e y.workspace (left_of lent_bucket y.words) asked n) (sym still.want) wanted_on;
          once = once_like e (phase_number w.place.phase) u y.workspace ⊥ ⊥ only.like still.gate still.want (λ none. none) wants.once;
        }

    -- the act once more, behind its phase
    lost_again : phase_number a.to.phase ≢ phase_number w.place.phase → EndsAs 0 (honest (once g later a.workspace a.left))
    lost_again apart =
        let u : Workspace = a.workspace in
        let place : u.place ≡ w.place = kept.place in
        let sealed : u.sealed ≡ e.sealed = kept.sealed ∙ clean_sealed e w (lent_words lent_bucket) steps asked w.place.phase clean in
        let wrong : u.gate.done ≢ phase_number u.place.phase = λ h. apart (sym gate_there ∙ h ∙ ap (λ (r : Place). phase_number r.phase) place) in
        let still = stays_open e laws lent_bucket later u a.left lost wrong (λ h. fit) sealed in
        raised e (StruckStands e) (left_of lent_bucket) (phase_number w.place.phase) asked (asked + 0) (honest (once g later u a.left)) (omega arith)
        (lost_once e laws lent_bucket later u a.left lost wrong (λ h. fit) sealed (phase_number w.place.phase) asked (wants_again apart still (wants_kind e w w.place.phase)))

    goes_again : (n : ℕ) → a.more + weighed (once g later a.workspace a.left) ≤ n → EndsAs n (honest (once g later a.workspace a.left))
    goes_again n le = by_phase (same_or a.to.phase w.place.phase)
      where
        by_phase : (a.to.phase ≡ w.place.phase) ⊎ (phase_number a.to.phase ≢ phase_number w.place.phase) → EndsAs n (honest (once g later a.workspace a.left))
        by_phase (inl same) = raised e (StruckStands e) (left_of lent_bucket) (phase_number w.place.phase) (asked + (a.more + weighed (once g later a.workspace a.left))) (asked + n) (honest (once g later a.workspace a.left)) (omega (arith, le)) (same_again same)
        by_phase (inr apart) = raised e (StruckStands e) (left_of lent_bucket) (phase_number w.place.phase) (asked + 0) (asked + n) (honest (once g later a.workspace a.left)) (omega arith) (lost_again apart)

  module _ (fit : PassesGuard e) (last : w.place.phase ≡ Done) (f : Finishes e (given_with e lent_bucket) now w.place.phase w (words_of lent_bucket) steps asked) where
    sends : HasCopyOfSome e (record f.workspace { place = at Done 1 }) asked
    sends = end_sends e answered now lent_bucket w steps asked w.place.phase last knows f

    end_is_kept : HonestlyKeeps w (acted f.workspace f.left (Leads (at Done 1)))
    end_is_kept = end_kept e answered now lent_bucket w steps asked w.place.phase last knows f

    end_closes : (v : Workspace) → v.gate.done ≡ 11 → v.want ≡ Nothing → ClosesNext e (phase_number w.place.phase) v ⊥
    end_closes v eleven none = Closes Done (ap phase_number last) (let ten : phase_number w.place.phase ≡ 10 = ap phase_number last in omega (arith, ten, eleven)) none

    end_wants : WantsWell e (left_of lent_bucket f.left) (phase_number w.place.phase) asked f.workspace
    end_wants = record { wanted = nothing_wanted e (left_of lent_bucket f.left) asked f.workspace f.want; once = end_closes f.workspace f.finished.gate f.want }

    ends_anywhere : (n : ℕ) (to : Place) → EndsAs n (step_result (record f.workspace { place = to }) f.left (arrival f.workspace.place.phase to f.workspace.gate.done))
    ends_anywhere n to =
        comes_well e (StruckStands e) (left_of lent_bucket) (phase_number w.place.phase) (asked + n) asked asked f.workspace f.left to (arrival f.workspace.place.phase to f.workspace.gate.done) (omega arith) (omega arith)
        (moves_at_end e (record f.workspace { place = at Done 1 }) (left_of lent_bucket f.left) asked fit f.finished.gate sends f.workspace.place.phase to) end_wants

    -- the last act once more closes nothing
    ends_again : (n : ℕ) → EndsAs n (honest (once g later f.workspace f.left))
    ends_again n =
        let u : Workspace = f.workspace in
        let y : Acted = honest (act_tree g later u f.left) in
        let wrong : u.gate.done ≢ phase_number u.place.phase = λ h. let few : phase_number u.place.phase ≤ 10 = small_number u.place.phase in let eleven : u.gate.done ≡ 11 = f.finished.gate in omega (arith, few, eleven, h) in
        let sealed : u.sealed ≡ e.sealed = end_is_kept.sealed ∙ clean_sealed e w (lent_words lent_bucket) steps asked w.place.phase clean in
        let still = stays_open e laws lent_bucket later u f.left lost wrong (λ h. fit) sealed in
        let want : y.workspace.want ≡ Nothing = still.want ∙ f.want in
        raised e (StruckStands e) (left_of lent_bucket) (phase_number w.place.phase) asked (asked + n) (honest (once g later u f.left)) (omega arith)
        (lost_once e laws lent_bucket later u f.left lost wrong (λ h. fit) sealed (phase_number w.place.phase) asked
        (record { wanted = nothing_wanted e (left_of lent_bucket y.words) asked y.workspace want; once = end_closes y.workspace (still.gate ∙ f.finished.gate) want }))

  -- a step that refuses, or that goes elsewhere and wants nothing
  stays_here : (n : ℕ) (to : Place) (state : State) → StruckStands e asked (record w { place = to }) (left_of lent_bucket words) state → EndsAs n (step_result (record w { place = to }) words state)
  stays_here n to state stands =
      comes_well e (StruckStands e) (left_of lent_bucket) (phase_number w.place.phase) (asked + n) asked asked w words to state (omega arith) (omega arith) stands
      (wants_nothing e (left_of lent_bucket words) (phase_number w.place.phase) asked w nothing gate)

  refuses_here : (n : ℕ) → w.place.phase ≡ Guard → EndsAs n (step_result w words Refused)
  refuses_here n h =
      let none : w.gate.done ≡ 0 = gate ∙ ap phase_number h in
      stays_here n w.place Refused (omega (arith, none))

  -- the act is left out

  guard_skips : (q : Phase) (index : ℕ) (act : Act) → q ≡ Guard → (if is_last w q index act then at (next_phase q) 0 else at q (index + 1)).phase ≡ Take
  guard_skips q index act h = subst (λ (r : Phase). (if is_last w r index act then at (next_phase r) 0 else at r (index + 1)).phase ≡ Take) (sym h) refl

  skips : (n : ℕ) (act : Act) → EndsAs n (honest (goes w words (skipped w act)))
  skips n act =
      stays_here n (skipped w act) (arrival w.place.phase (skipped w act) w.gate.done)
      (subst (λ (lent : Option (List ℕ)). StruckStands e asked (record w { place = skipped w act }) lent (arrival w.place.phase (skipped w act) w.gate.done)) (lent_is_left lent_bucket) (by_guard (guard_or w.place.phase)))
    where
      to : Place
      to = skipped w act

      by_guard : (w.place.phase ≡ Guard) ⊎ (w.place.phase ≡ Guard → ⊥) → StruckStands e asked (record w { place = skipped w act }) (lent_words lent_bucket) (arrival w.place.phase (skipped w act) w.gate.done)
      by_guard (inr n) =
          moves_well e w (lent_words lent_bucket) steps asked w.place.phase n (λ index. (laws w.place.phase n).moved w (lent_words lent_bucket) steps asked index clean knows) clean knows w.place.phase (skipped w act)
      by_guard (inl h) =
          let take : (skipped w act).phase ≡ Take = guard_skips w.place.phase w.place.index act h in
          let none : w.gate.done ≡ 0 = gate ∙ ap phase_number h in
          let one : phase_number (skipped w act).phase ≡ 1 = ap phase_number take in
          arrives_well e (lent_words lent_bucket) asked (record w { place = skipped w act }) w.place.phase (skipped w act) w.gate.done
          (λ no. Lost (λ same. omega (arith, none, one, same)) (λ guard. let zero_is : phase_number (skipped w act).phase ≡ 0 = ap phase_number guard in absurd (omega (arith, one, zero_is))))
          (λ end eleven. absurd (omega (arith, none, eleven)))

  -- the act is made

  acts_there : CleanAct e now w lent_bucket steps asked w.place.phase
  acts_there = clean_act e trusted now small told lent_bucket w nothing steps asked w.place.phase clean knows lends

  -- the strike falls in where the step goes on from the honest act
  in_going : (y : Acted) → honest (act_tree g now w words) ≡ y → (x : StepResult) (n : ℕ) → StruckRun (goes_on (honest (act_tree g now w words))) x n → StruckRun (goes_on y) x n
  in_going y is x n run = subst (λ (z : Acted). StruckRun (goes_on z) x n) is run

  -- the question of where it goes is the only one
  anywhere : (u : Workspace) (left : List ℕ) (to : Place) (x : StepResult) (n : ℕ) → StruckRun (goes u left to) x n → (P : StepResult → Type 0) →
      ((r : Place) → P (step_result (record u { place = r }) left (arrival u.place.phase r u.gate.done))) → P x
  anywhere u left to x n (inl h) P all = subst P (sym h.end) (all h.answer)
  anywhere u left to x n (inr (m, is, s)) P all = absurd s

  goes_struck : (x : StepResult) (n : ℕ) → StruckRun (goes_on (honest (act_tree g now w words))) x n → CleanAct e now w lent_bucket steps asked w.place.phase → EndsAs (weighed (act_tree g now w words) + n) x
  goes_struck x n run (Goes fit a) =
      anywhere a.workspace a.left a.to x n (in_going (acted a.workspace a.left (Leads a.to)) a.acts x n run) (λ (y : StepResult). EndsAs (weighed (act_tree g now w words) + n) y)
      (λ r. goes_anywhere fit a (weighed (act_tree g now w words) + n) r (omega (arith, a.asks)))
  goes_struck x n run (Ends fit last f) =
      anywhere f.workspace f.left (at Done 1) x n (in_going (acted f.workspace f.left (Leads (at Done 1))) f.acts x n run) (λ (y : StepResult). EndsAs (weighed (act_tree g now w words) + n) y)
      (λ r. ends_anywhere fit last f (weighed (act_tree g now w words) + n) r)
  goes_struck x n run (Unfit guard unfit site acts) = absurd (in_going (acted w words Refuses) acts x n run)

  -- the act is made once
  made_once : CleanAct e now w lent_bucket steps asked w.place.phase → EndsAs (weighed (once g now w words)) (honest (once g now w words))
  made_once act = subst (λ (x : StepResult). EndsAs (weighed (once g now w words)) x) (sym (honest_bound (act_tree g now w words) goes_on)) (by_act act)
    where
      enough : (n : ℕ) → n ≤ weighed (act_tree g now w words) → n ≤ weighed (once g now w words)
      enough n le = let sum = weighed_bound (act_tree g now w words) goes_on in omega (arith, le, sum)

      by_act : CleanAct e now w lent_bucket steps asked w.place.phase → EndsAs (weighed (once g now w words)) (honest (goes_on (honest (act_tree g now w words))))
      by_act (Goes fit a) = subst (λ (y : Acted). EndsAs (weighed (once g now w words)) (honest (goes_on y))) (sym a.acts) (goes_anywhere fit a (weighed (once g now w words)) a.to (enough a.more a.asks))
      by_act (Ends fit last f) = subst (λ (y : Acted). EndsAs (weighed (once g now w words)) (honest (goes_on y))) (sym f.acts) (ends_anywhere fit last f (weighed (once g now w words)) (at Done 1))
      by_act (Unfit guard unfit site acts) = subst (λ (y : Acted). EndsAs (weighed (once g now w words)) (honest (goes_on y))) (sym acts) (refuses_here (weighed (once g now w words)) guard)

  -- the act is made twice
  made_twice : CleanAct e now w lent_bucket steps asked w.place.phase → EndsAs (weighed (bound (act_tree g now w words) (twice g later))) (honest (bound (act_tree g now w words) (twice g later)))
  made_twice act = subst (λ (x : StepResult). EndsAs all x) (sym (honest_bound (act_tree g now w words) (twice g later))) (by_act act)
    where
      all : ℕ
      all = weighed (bound (act_tree g now w words) (twice g later))

      sum : all ≡ weighed (act_tree g now w words) + weighed (twice g later (honest (act_tree g now w words)))
      sum = weighed_bound (act_tree g now w words) (twice g later)

      by_act : CleanAct e now w lent_bucket steps asked w.place.phase → EndsAs all (honest (twice g later (honest (act_tree g now w words))))
      by_act (Goes fit a) =
          let first : a.more ≤ weighed (act_tree g now w words) = a.asks in
          let second : weighed (twice g later (honest (act_tree g now w words))) ≡ weighed (once g later a.workspace a.left) = ap (λ (y : Acted). weighed (twice g later y)) a.acts in
          subst (λ (y : Acted). EndsAs all (honest (twice g later y))) (sym a.acts) (goes_again fit a all (omega (arith, first, second, sum)))
      by_act (Ends fit last f) = subst (λ (y : Acted). EndsAs all (honest (twice g later y))) (sym f.acts) (ends_again fit last f all)
      by_act (Unfit guard unfit site acts) = subst (λ (y : Acted). EndsAs all (honest (twice g later y))) (sym acts) (refuses_here all guard)

  often : (act : Act) (times : Times) → EndsAs (weighed (step_as g now later w words act times)) (honest (step_as g now later w words act times))
  often act Once = made_once acts_there
  often act Skip = skips 0 act
  often act Twice = made_twice acts_there

  in_once : (x : StepResult) (n : ℕ) → StruckBound (act_tree g now w words) goes_on x n → EndsAs n x
  in_once x n (Before y m run is number) =
      subst (λ (z : StepResult). EndsAs n z) (sym is)
      (raised e (StruckStands e) (left_of lent_bucket) (phase_number w.place.phase) (asked + m) (asked + n) (honest (goes_on y)) (omega (arith, number)) (in_act y m run))
  in_once x n (Behind m run number) = subst (λ (k : ℕ). EndsAs k x) (sym number) (goes_struck x m run acts_there)

  -- a step in which a strike falls ends well
  pub strikes_well : (site : Option Act) (x : StepResult) (n : ℕ) → StruckRun (step_at site g now later w words) x n → EndsAs n x
  strikes_well None x n run = absurd run
  strikes_well (Some act) x n (inl h) =
      let number : n ≡ 0 + weighed (step_as g now later w words act h.answer) = h.asked in
      subst (λ (y : StepResult). EndsAs n y) (sym h.end)
      (raised e (StruckStands e) (left_of lent_bucket) (phase_number w.place.phase) (asked + weighed (step_as g now later w words act h.answer)) (asked + n) (honest (step_as g now later w words act h.answer)) (omega (arith, number)) (often act h.answer))
  strikes_well (Some act) x n (inr (m, is, run)) =
      raised e (StruckStands e) (left_of lent_bucket) (phase_number w.place.phase) (asked + m) (asked + n) x (omega (arith, is)) (in_once x m (struck_bound (act_tree g now w words) goes_on x m run))

  -- and so does one in which none falls

  abbrev CleanEndsAs : ℕ → StepResult → Type 0
  CleanEndsAs n x = EndsWell e (CleanStands e (suc steps)) (left_of lent_bucket) (phase_number w.place.phase) (asked + n) x

  clean_goes : (fit : PassesGuard e) (a : GoesOn e (given_with e lent_bucket) now w.place.phase w (words_of lent_bucket) (left_of lent_bucket) steps asked) (n : ℕ) → a.more ≤ n → CleanEndsAs n (honest (goes a.workspace a.left a.to))
  clean_goes fit a n le =
      let u : Workspace = record a.workspace { place = a.to } in
      let lent = left_of lent_bucket a.left in
      let no_end = clean_no_end e u lent (suc steps) (asked + a.more) a.clean in
      comes_well e (CleanStands e (suc steps)) (left_of lent_bucket) (phase_number w.place.phase) (asked + n) (asked + a.more) asked a.workspace a.left a.to (arrival a.workspace.place.phase a.to a.workspace.gate.done) (omega (arith, le)) (omega arith)
      (subst (λ (b : Bool). CleanStands e (suc steps) (asked + a.more) u lent (if b then arrival a.workspace.place.phase (at Done 1) a.workspace.gate.done else Went)) (sym no_end) (a.clean, knows_next fit a)) (wants fit a)

  clean_ends : (fit : PassesGuard e) (last : w.place.phase ≡ Done) (f : Finishes e (given_with e lent_bucket) now w.place.phase w (words_of lent_bucket) steps asked) (n : ℕ) → CleanEndsAs n (honest (goes f.workspace f.left (at Done 1)))
  clean_ends fit last f n =
      comes_well e (CleanStands e (suc steps)) (left_of lent_bucket) (phase_number w.place.phase) (asked + n) asked asked f.workspace f.left (at Done 1) (arrival f.workspace.place.phase (at Done 1) f.workspace.gate.done) (omega arith) (omega arith)
      (subst (λ (done : ℕ). CleanStands e (suc steps) asked (record f.workspace { place = at Done 1 }) (left_of lent_bucket f.left) (arrival f.workspace.place.phase (at Done 1) done)) (sym f.finished.gate) (f.finished.gate, sends fit last f, f.finished)) (end_wants fit last f)

  clean_refuses : (n : ℕ) → w.place.phase ≡ Guard → IsUnfitInput e → CleanEndsAs n (step_result w words Refused)
  clean_refuses n guard unfit =
      let none : w.gate.done ≡ 0 = gate ∙ ap phase_number guard in
      comes_well e (CleanStands e (suc steps)) (left_of lent_bucket) (phase_number w.place.phase) (asked + n) asked asked w words w.place Refused (omega arith) (omega arith) (omega (arith, none), unfit)
      (wants_nothing e (left_of lent_bucket words) (phase_number w.place.phase) asked w nothing gate)

  -- a step at this site whose act ends so
  by_site : (site : Option Act) (act : Act) (y : Acted) → site ≡ Some act → honest (act_tree g now w words) ≡ y → CleanEndsAs (weighed (act_tree g now w words)) (honest (goes_on y)) →
      CleanEndsAs (weighed (step_at site g now later w words)) (honest (step_at site g now later w words))
  by_site site act y is acts well =
      let sum = weighed_bound (act_tree g now w words) goes_on in
      let ends : honest (goes_on y) ≡ honest (once g now w words) = sym (honest_bound (act_tree g now w words) goes_on ∙ ap (λ (z : Acted). honest (goes_on z)) acts) in
      let n : ℕ = 0 + weighed (once g now w words) in
      let more = raised e (CleanStands e (suc steps)) (left_of lent_bucket) (phase_number w.place.phase) (asked + weighed (act_tree g now w words)) (asked + n) (honest (goes_on y)) (omega (arith, sum)) well in
      subst (λ (o : Option Act). CleanEndsAs (weighed (step_at o g now later w words)) (honest (step_at o g now later w words))) (sym is)
      (subst (λ (x : StepResult). CleanEndsAs n x) ends more)

  pub stays_clean : CleanEndsAs (weighed (step_at (site_of e.behavior w) g now later w words)) (honest (step_at (site_of e.behavior w) g now later w words))
  stays_clean = by_act acts_there
    where
      by_act : CleanAct e now w lent_bucket steps asked w.place.phase → CleanEndsAs (weighed (step_at (site_of e.behavior w) g now later w words)) (honest (step_at (site_of e.behavior w) g now later w words))
      by_act (Goes fit a) = by_site (site_of e.behavior w) a.act (acted a.workspace a.left (Leads a.to)) a.site a.acts (clean_goes fit a (weighed (act_tree g now w words)) a.asks)
      by_act (Ends fit last f) = by_site (site_of e.behavior w) f.act (acted f.workspace f.left (Leads (at Done 1))) f.site f.acts (clean_ends fit last f (weighed (act_tree g now w words)))
      by_act (Unfit guard unfit site acts) = by_site (site_of e.behavior w) Plain (acted w words Refuses) site acts (clean_refuses (weighed (act_tree g now w words)) guard unfit)

-- A step behind a strike.

module _ (e : CallContext) (laws : (phase : Phase) → (phase ≡ Guard → ⊥) → PhaseLaws e phase) (lost : LostLaw) (now later : ℕ) (small : now < 2 ^ 64) (told : Follows e.clock now) (lent_bucket : Option BucketWords) (w : Workspace) (nothing : w.want ≡ Nothing) (asked : ℕ)
    (sealed : w.sealed ≡ e.sealed) where
  abbrev StruckEndsAs : ℕ → StepResult → Type 0
  StruckEndsAs n x = EndsWell e (StruckStands e) (left_of lent_bucket) w.gate.done (asked + n) x

  one_act : StruckCase e w (lent_words lent_bucket) asked → (w.gate.done ≡ phase_number w.place.phase → LendsIn w.wanted w.place.phase lent_bucket) →
      StruckEndsAs (weighed (once (given_with e lent_bucket) now w (words_of lent_bucket))) (honest (once (given_with e lent_bucket) now w (words_of lent_bucket)))
  one_act (Right gate stands) lends =
      subst (λ (n : ℕ). EndsWell e (StruckStands e) (left_of lent_bucket) n (asked + weighed (once (given_with e lent_bucket) now w (words_of lent_bucket))) (honest (once (given_with e lent_bucket) now w (words_of lent_bucket)))) (sym gate)
      (right_once e laws lent_bucket now w (words_of lent_bucket) small told asked nothing gate sealed (lends gate)
      (subst (λ (lent : Option (List ℕ)). StruckIn e w lent asked w.place.phase) (lent_is_left lent_bucket) stands))
  one_act (Lost gate fit) lends =
      raised e (StruckStands e) (left_of lent_bucket) w.gate.done asked (asked + weighed (once (given_with e lent_bucket) now w (words_of lent_bucket))) (honest (once (given_with e lent_bucket) now w (words_of lent_bucket))) (omega arith)
      (lost_quietly e laws lent_bucket now w (words_of lent_bucket) lost gate fit sealed asked nothing)

  pub stays_well : StruckCase e w (lent_words lent_bucket) asked → (w.gate.done ≡ phase_number w.place.phase → LendsIn w.wanted w.place.phase lent_bucket) → (site : Option Act) →
      StruckEndsAs (weighed (step_at site (given_with e lent_bucket) now later w (words_of lent_bucket))) (honest (step_at site (given_with e lent_bucket) now later w (words_of lent_bucket)))
  stays_well stands lends None =
      comes_well e (StruckStands e) (left_of lent_bucket) w.gate.done (asked + 0) asked asked w (words_of lent_bucket) w.place (aborted w.place.phase (Table w.place.index)) (omega arith) (omega arith) tt
      (wants_nothing e (left_of lent_bucket (words_of lent_bucket)) w.gate.done asked w nothing refl)
  stays_well stands lends (Some act) =
      raised e (StruckStands e) (left_of lent_bucket) w.gate.done (asked + weighed (once (given_with e lent_bucket) now w (words_of lent_bucket))) (asked + (0 + weighed (once (given_with e lent_bucket) now w (words_of lent_bucket))))
      (honest (once (given_with e lent_bucket) now w (words_of lent_bucket))) (omega arith) (one_act stands lends)
