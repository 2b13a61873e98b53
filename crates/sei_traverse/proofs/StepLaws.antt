-- A step of a traversal under one strike, from the laws of the phases.
use Rattle.std.proofs.Common.{◌≡◌, ◌≢◌, ◌⊎◌, inl, inr, ℕ, zero, suc, ◌+◌, ◌^◌, ◌<◌, ◌≤◌, Bool, true, false, List, [], ◌∷◌, Option, Some, None, sym, ap, ◌∙◌, subst, refl, arith}
use Rattle.std.specs.Prelude.{if◌then◌else◌}
use Rattle.sei_fault.specs.declared.cause.AbortCause.TheVariants.{Gate}
use Rattle.sei_fault.specs.declared.place.Act.TheVariants.{Plain}
use Rattle.sei_fault.specs.declared.place.Phase.{Phase}
use Rattle.sei_fault.specs.declared.place.Phase.TheVariants.{Guard, Take, First, Restore, Second, Compare, Verify, Enter, Give, Send, Done}
use Rattle.sei_fault.specs.declared.place.Place.{Place}
use Rattle.sei_fault.specs.Phases.{phase_number}
use Rattle.sei_fault.specs.StruckRuns.{StruckRun}
use Rattle.sei_fault.specs.Tree.{Tree, Always, honest}
use Rattle.sei_fault.specs.Weights.{weighed}
use Rattle.sei_fault.proofs.Public.{always_honest}
use Rattle.sei_gate.specs.Closing.{risen}
use Rattle.sei_pass.specs.declared.given.Sealed.{Sealed}
use Rattle.sei_pass.specs.Setting.{is_intact}
use Rattle.sei_pass.specs.State.{PassState}
use Rattle.sei_stmt.specs.Machine.{Machine}
use Rattle.sei_words.specs.LentBucket.{words_of}
use Rattle.sei_words.specs.Words.{BucketWords}
use Rattle.sei_traverse.specs.declared.turned.State.{State}
use Rattle.sei_traverse.specs.declared.turned.State.TheVariants.{Went, Finished as AtEnd, Refused, Aborted}
use Rattle.sei_traverse.specs.declared.turned.Want.{Want}
use Rattle.sei_traverse.specs.declared.turned.Want.TheVariants.{Nothing, Take as WantTake, Enter as WantEnter, Give as WantGive, Send as WantSend}
use Rattle.sei_traverse.specs.declared.workspace.Ending.{Ending}
use Rattle.sei_traverse.specs.declared.workspace.Ending.TheVariants.{Leads, Refuses, Aborts}
use Rattle.sei_traverse.specs.declared.workspace.Workspace.{Workspace}
use Rattle.sei_traverse.specs.Acts.{Acted, acted, ends, at, closes}
use Rattle.sei_traverse.specs.CallContext.{CallContext, IsFitContext, Follows, given_in}
use Rattle.sei_traverse.specs.FaultInvariant.{Knows, Wanted, IsUnfitInput}
use Rattle.sei_traverse.proofs.ClosesNext.{ClosesNext}
use Rattle.sei_traverse.proofs.ClosesNext.ClosesNext.{Stays, Closes}
use Rattle.sei_traverse.specs.OnWay.{lent_words, LendsBucket, Lends, LendsBucketOf, LendsIn}
use Rattle.sei_traverse.specs.Phases.{reply_of, send_want, closing_tree, closing_want}
use Rattle.sei_traverse.specs.Given.{Given, given_of, has_sealed_call}
use Rattle.sei_traverse.specs.Step.{act_in, site_in}
use Rattle.sei_traverse.specs.Struck.{IsAimed, IsHonestResult, OnLent, HasCopyOfSome, StruckIn}
use Rattle.sei_traverse.specs.Trusted.{PassesGuard, IsTrusted}
use Rattle.sei_traverse.specs.Unstruck.{take_want, want_in, NextIn, IsLent, WantedAt, InTake, InEnter, InGive, InSend, InBoth, HasOutput, CleanIn, IsFinished}
use Rattle.sei_traverse.proofs.ActKeeps.{IsNoStore, Keeps, HonestlyKeeps, keeps, honestly_kept, OnlyCloses, closes_only, take_only}
use Rattle.sei_traverse.proofs.Branches.{other}
use Rattle.sei_traverse.proofs.Closes.{closes_then}
use Rattle.sei_traverse.proofs.EdgeActs.{Finishes, refused}
use Rattle.sei_traverse.proofs.GoesOn.{GoesOn}
use Rattle.sei_traverse.proofs.Likeness.{answers_like, send_like}
use Rattle.sei_traverse.proofs.Onward.{left_of, given_with, ActsOn, acts_on}
use Rattle.sei_traverse.proofs.PhaseLaws.{lent_in, given_for, ActsWell}
use Rattle.sei_traverse.proofs.StepEnds.{small_number, same_or, WantsWell, nothing_wanted, knows_fit, aimed_knows, clean_gate, StaysIn}

-- The laws of the phases.

abbrev pub StruckLaw : CallContext → Phase → Type 0
StruckLaw e phase = (now : ℕ) → now < 2 ^ 64 → Follows e.clock now → (w : Workspace) (words : List ℕ) (steps asked n : ℕ) (y : Acted) → w.want ≡ Nothing →
    CleanIn e w (lent_in phase words) steps asked phase → Knows e w phase →
    StruckRun (act_in (given_for e phase w.wanted) now phase w.place.index w words) y n → ActsWell e phase (asked + n) y

abbrev pub HonestLaw : CallContext → Phase → Type 0
HonestLaw e phase = (now : ℕ) → now < 2 ^ 64 → Follows e.clock now → (w : Workspace) (words : List ℕ) (asked : ℕ) → w.want ≡ Nothing → w.gate.done ≡ phase_number phase → w.sealed ≡ e.sealed →
    StruckIn e w (lent_in phase words) asked phase →
    ActsWell e phase (asked + weighed (act_in (given_for e phase w.wanted) now phase w.place.index w words))
    (honest (act_in (given_for e phase w.wanted) now phase w.place.index w words))

-- an act that closed no phase and wants nothing more
pub record StaysOpen (phase : Phase) (w : Workspace) (y : Acted) : Type 0 where
  pub want : y.workspace.want ≡ w.want
  pub gate : y.workspace.gate.done ≡ w.gate.done
  pub ends : StaysIn phase y.ending

abbrev pub LostLaw : Type 0
LostLaw = (g : Given) (now : ℕ) (phase : Phase) (w : Workspace) (words : List ℕ) → w.gate.done ≢ phase_number phase →
    (phase ≡ Guard → (is_intact w.sealed g.input ≡ true) × (has_sealed_call g w.sealed ≡ true)) → StaysOpen phase w (honest (act_in g now phase w.place.index w words))

-- what clean passes answer
abbrev pub BothLaw : CallContext → Type 0
BothLaw e = (w : Workspace) (words : List ℕ) (time made : ℕ) (end : Machine) (asked : ℕ) → IsAimed e w → InBoth e w (Some words) time made end asked → IsHonestResult e w words asked

abbrev pub AnsweredLaw : CallContext → Type 0
AnsweredLaw e = (w : Workspace) (time made : ℕ) (end : Machine) (asked : ℕ) → IsAimed e w → HasOutput e w time made end asked → HasCopyOfSome e w asked

-- What is lent.

pub record LendsRight (e : CallContext) (p : Phase) (wanted : ℕ) (lent_bucket : Option BucketWords) : Type 0 where
  pub given : given_for e p wanted ≡ given_with e lent_bucket
  pub left : (words : List ℕ) → left_of lent_bucket words ≡ lent_in p words

none_right : (e : CallContext) (p : Phase) (wanted : ℕ) (lent_bucket : Option BucketWords) → lent_bucket ≡ None → given_for e p wanted ≡ given_with e None → ((words : List ℕ) → None ≡ lent_in p words) → LendsRight e p wanted lent_bucket
none_right e p wanted lent_bucket h given left = subst (LendsRight e p wanted) (sym h) (record { given = given; left = left })

bucket_right : (e : CallContext) (p : Phase) (wanted : ℕ) (lent_bucket : Option BucketWords) → LendsBucketOf wanted lent_bucket → given_for e p wanted ≡ given_of e.behavior e.input e.space (Some wanted) →
    ((words : List ℕ) → lent_in p words ≡ Some words) → LendsRight e p wanted lent_bucket
bucket_right e p wanted None h given left = absurd h
bucket_right e p wanted (Some b) h given left =
    record { given = given ∙ ap (λ (n : ℕ). given_of e.behavior e.input e.space (Some n)) (sym h); left = λ words. sym (left words) }

pub lends_right : (e : CallContext) (p : Phase) (wanted : ℕ) (lent_bucket : Option BucketWords) → LendsIn wanted p lent_bucket → LendsRight e p wanted lent_bucket
lends_right e Guard wanted lent_bucket h = none_right e Guard wanted lent_bucket h refl (λ words. refl)
lends_right e Take wanted lent_bucket h = none_right e Take wanted lent_bucket h refl (λ words. refl)
lends_right e Send wanted lent_bucket h = none_right e Send wanted lent_bucket h refl (λ words. refl)
lends_right e Done wanted lent_bucket h = none_right e Done wanted lent_bucket h refl (λ words. refl)
lends_right e First wanted lent_bucket h = bucket_right e First wanted lent_bucket h refl (λ words. refl)
lends_right e Restore wanted lent_bucket h = bucket_right e Restore wanted lent_bucket h refl (λ words. refl)
lends_right e Second wanted lent_bucket h = bucket_right e Second wanted lent_bucket h refl (λ words. refl)
lends_right e Compare wanted lent_bucket h = bucket_right e Compare wanted lent_bucket h refl (λ words. refl)
lends_right e Verify wanted lent_bucket h = bucket_right e Verify wanted lent_bucket h refl (λ words. refl)
lends_right e Enter wanted lent_bucket h = bucket_right e Enter wanted lent_bucket h refl (λ words. refl)
lends_right e Give wanted lent_bucket h = bucket_right e Give wanted lent_bucket h refl (λ words. refl)

-- where the wanted bucket is the call's, the call context's bucket is lent
of_call : (e : CallContext) (w : Workspace) (lent_bucket : Option BucketWords) → IsAimed e w → LendsBucketOf w.wanted lent_bucket → LendsBucket e lent_bucket
of_call e w None a h = absurd h
of_call e w (Some b) a h = h ∙ a.wanted

lends_clean : (e : CallContext) (w : Workspace) (p : Phase) (lent_bucket : Option BucketWords) → Knows e w p → LendsIn w.wanted p lent_bucket → Lends e p lent_bucket
lends_clean e w Guard lent_bucket k h = h
lends_clean e w Take lent_bucket k h = h
lends_clean e w Send lent_bucket k h = h
lends_clean e w Done lent_bucket k h = h
lends_clean e w First lent_bucket k h = of_call e w lent_bucket k h
lends_clean e w Restore lent_bucket k h = of_call e w lent_bucket k h
lends_clean e w Second lent_bucket k h = of_call e w lent_bucket k h
lends_clean e w Compare lent_bucket k h = of_call e w lent_bucket k h
lends_clean e w Verify lent_bucket k h = of_call e w lent_bucket k h
lends_clean e w Enter lent_bucket k h = of_call e w lent_bucket k h
lends_clean e w Give lent_bucket k h = of_call e w lent_bucket k h

-- an act that doesn't store the wanted bucket leaves what is to be lent
pub lends_again : (p : Phase) (index a b : ℕ) (lent_bucket : Option BucketWords) → (IsNoStore p index → b ≡ a) → LendsIn a p lent_bucket → LendsIn b p lent_bucket
lends_again Guard index a b lent_bucket n h = h
lends_again Take index a b lent_bucket n h = h
lends_again Send index a b lent_bucket n h = h
lends_again Done index a b lent_bucket n h = h
lends_again First index a b lent_bucket n h = subst (λ (wanted : ℕ). LendsBucketOf wanted lent_bucket) (sym (n tt)) h
lends_again Restore index a b lent_bucket n h = subst (λ (wanted : ℕ). LendsBucketOf wanted lent_bucket) (sym (n tt)) h
lends_again Second index a b lent_bucket n h = subst (λ (wanted : ℕ). LendsBucketOf wanted lent_bucket) (sym (n tt)) h
lends_again Compare index a b lent_bucket n h = subst (λ (wanted : ℕ). LendsBucketOf wanted lent_bucket) (sym (n tt)) h
lends_again Verify index a b lent_bucket n h = subst (λ (wanted : ℕ). LendsBucketOf wanted lent_bucket) (sym (n tt)) h
lends_again Enter index a b lent_bucket n h = subst (λ (wanted : ℕ). LendsBucketOf wanted lent_bucket) (sym (n tt)) h
lends_again Give index a b lent_bucket n h = subst (λ (wanted : ℕ). LendsBucketOf wanted lent_bucket) (sym (n tt)) h

-- the words that are lent are those of the lent bucket
pub lent_is_left : (lent_bucket : Option BucketWords) → lent_words lent_bucket ≡ left_of lent_bucket (words_of lent_bucket)
lent_is_left None = refl
lent_is_left (Some b) = refl

-- words are lent where a bucket is
is_lent : (wanted : ℕ) (lent_bucket : Option BucketWords) (left : List ℕ) → LendsBucketOf wanted lent_bucket → left_of lent_bucket left ≡ Some left
is_lent wanted None left h = absurd h
is_lent wanted (Some b) left h = refl

-- The phase behind a step without a strike.

other_than_guard : (p q : Phase) → q ≡ p → phase_number p ≢ 0 → (q ≡ Guard → ⊥)
other_than_guard p q h n guard = n (ap phase_number (sym h ∙ guard))

lent_not_guard : (q : Phase) → IsLent q → (q ≡ Guard → ⊥)
lent_not_guard q h guard = subst IsLent guard h

next_not_guard : (p : Phase) (index : ℕ) (q : Phase) → NextIn p index q → (q ≡ Guard → ⊥)
next_not_guard Guard index q h = other_than_guard Take q h (λ n. omega (arith, n))
next_not_guard Take zero q h = other_than_guard Take q h (λ n. omega (arith, n))
next_not_guard Take (suc index) q h = other_than_guard First q h (λ n. omega (arith, n))
next_not_guard Give index q h = other_than_guard Send q h (λ n. omega (arith, n))
next_not_guard Send index q h = other_than_guard Done q h (λ n. omega (arith, n))
next_not_guard Done index q h = other_than_guard Done q h (λ n. omega (arith, n))
next_not_guard First index q h = lent_not_guard q h
next_not_guard Restore index q h = lent_not_guard q h
next_not_guard Second index q h = lent_not_guard q h
next_not_guard Compare index q h = lent_not_guard q h
next_not_guard Verify index q h = lent_not_guard q h
next_not_guard Enter index q h = lent_not_guard q h

pub guard_or : (p : Phase) → (p ≡ Guard) ⊎ (p ≡ Guard → ⊥)
guard_or p = elim (same_or p Guard) [ inl h ↦ inl h | inr n ↦ inr (λ h. n (ap phase_number h)) ]

-- an act of a phase that wants nothing, or one that stores the wanted bucket, or one that only closes its phase
pub data WantsKind (e : CallContext) (w : Workspace) (p : Phase) : Type 0 where
  Quiet : want_in e w p ≡ Nothing → ((v : Workspace) → closing_want v p ≡ Nothing) → WantsKind e w p
  Stores : p ≡ Take → w.place.index ≡ 0 → WantsKind e w p
  Edge : ((g : Given) (clock : ℕ) (u : Workspace) (words : List ℕ) → Always (OnlyCloses u words) (act_in g clock p w.place.index u words)) → WantsKind e w p

take_kind : (e : CallContext) (w : Workspace) (index : ℕ) → w.place.index ≡ index → WantsKind e w Take
take_kind e w zero h = Stores refl h
take_kind e w (suc index) h = Edge (λ g clock u words. subst (λ (n : ℕ). Always (OnlyCloses u words) (act_in g clock Take n u words)) (sym h) (take_only g index u words))

pub wants_kind : (e : CallContext) (w : Workspace) (p : Phase) → WantsKind e w p
wants_kind e w Guard = Quiet refl (λ v. refl)
wants_kind e w Take = take_kind e w w.place.index refl
wants_kind e w First = Quiet refl (λ v. refl)
wants_kind e w Restore = Quiet refl (λ v. refl)
wants_kind e w Second = Quiet refl (λ v. refl)
wants_kind e w Compare = Quiet refl (λ v. refl)
wants_kind e w Verify = Quiet refl (λ v. refl)
wants_kind e w Enter = Edge (λ g clock u words. closes_only Enter u words WantEnter (at Give 0))
wants_kind e w Give = Edge (λ g clock u words. closes_only Give u words WantGive (at Send 0))
wants_kind e w Send = Edge (λ g clock u words. closes_only Send u words (send_want (reply_of u)) (at Done 0))
wants_kind e w Done = Quiet refl (λ v. refl)

-- the last act doesn't lead on at a gate that is not right
pub never_on : (g : Given) (clock : ℕ) (p : Phase) (index : ℕ) (w : Workspace) (words : List ℕ) → w.gate.done ≢ phase_number p → p ≡ Done → (to : Place) → (honest (act_in g clock p index w words)).ending ≡ Leads to → ⊥
never_on g clock p index w words gate last to leads =
    let wrong : (w.gate.done ≡ 10 → ⊥) = λ same. gate (same ∙ ap phase_number (sym last)) in
    let aborts : (honest (closing_tree Done w words)).ending ≡ Aborts (Gate w.gate.done) =
    ap (λ (b : Bool). (honest (closed_or w words b)).ending) (other w.gate.done 10 wrong) in
    let on : (honest (closing_tree Done w words)).ending ≡ Leads to = subst (λ (q : Phase). (honest (act_in g clock q index w words)).ending ≡ Leads to) last leads in
    let clash : Aborts (Gate w.gate.done) ≡ Leads to = sym aborts ∙ on in
    let z : ⊥ = cc in z
  where
    closed_or : Workspace → List ℕ → Bool → Tree Acted
    closed_or u left b =
        let v : Workspace = record u { gate = record { done = if b then risen u.gate.done else u.gate.done } } in
        if b then ends (record v { want = Nothing }) left (Leads (at Done 1)) else ends v left (Aborts (Gate (if b then risen u.gate.done else u.gate.done)))

-- The act of a clean traversal: it goes on, or to the end, or Guard refuses an input that is not fit.
pub data CleanAct (e : CallContext) (now : ℕ) (w : Workspace) (lent_bucket : Option BucketWords) (steps asked : ℕ) (p : Phase) : Type 0 where
  Goes : PassesGuard e → GoesOn e (given_with e lent_bucket) now p w (words_of lent_bucket) (left_of lent_bucket) steps asked → CleanAct e now w lent_bucket steps asked p
  Ends : PassesGuard e → p ≡ Done → Finishes e (given_with e lent_bucket) now p w (words_of lent_bucket) steps asked → CleanAct e now w lent_bucket steps asked p
  Unfit : p ≡ Guard → IsUnfitInput e → site_in e.behavior w p w.place.index ≡ Some Plain → honest (act_in (given_with e lent_bucket) now p w.place.index w (words_of lent_bucket)) ≡ acted w (words_of lent_bucket) Refuses →
      CleanAct e now w lent_bucket steps asked p

-- where a traversal stands that nothing struck
abbrev pub CleanStands : CallContext → ℕ → ℕ → Workspace → Option (List ℕ) → State → Type 0
CleanStands e steps number w lent Went = CleanIn e w lent steps number w.place.phase × Knows e w w.place.phase
CleanStands e steps number w lent AtEnd = (w.gate.done ≡ 11) × HasCopyOfSome e w number × IsFinished e w steps number
CleanStands e steps number w lent Refused = (w.gate.done ≤ 1) × IsUnfitInput e
CleanStands e steps number w lent (Aborted abort) = ⊥

module _ (e : CallContext) (trusted : IsTrusted e) where
  trusted_context : PassesGuard e → IsFitContext e
  trusted_context f = record {
    intact = f.intact;
    has = f.has;
    called = f.called;
    bucket = trusted.bucket f;
    clock = trusted.clock;
    ends = trusted.ends f;
  }

  -- an input is fit, or it isn't
  fit_or : PassesGuard e ⊎ IsUnfitInput e
  fit_or = by_intact (is_intact e.sealed e.input) refl
    where
      by_has : is_intact e.sealed e.input ≡ true → (b : Bool) → has_sealed_call (given_in e) e.sealed ≡ b → PassesGuard e ⊎ IsUnfitInput e
      by_has intact true has = inl (record { intact = intact; has = has; called = trusted.has_called has })
      by_has intact false has = inr (inr has)

      by_intact : (b : Bool) → is_intact e.sealed e.input ≡ b → PassesGuard e ⊎ IsUnfitInput e
      by_intact true intact = by_has intact (has_sealed_call (given_in e) e.sealed) refl
      by_intact false intact = inr (inl intact)

-- only the act of the last phase leads to the end
module _ (e : CallContext) (now : ℕ) (lent_bucket : Option BucketWords) (w : Workspace) (steps asked : ℕ) where
  send_elsewhere : w.gate.done ≡ phase_number Send → Finishes e (given_with e lent_bucket) now Send w (words_of lent_bucket) steps asked → ⊥
  send_elsewhere gate f =
      let want : Want = send_want (reply_of w) in
      let end = closes_then Send w (words_of lent_bucket) (λ v. ends (record v { want = want }) (words_of lent_bucket) (Leads (at Done 0))) gate in
      let same : Leads (at Done 0) ≡ Leads (at Done 1) = ap (λ (y : Acted). y.ending) (sym end ∙ f.acts) in
      let index : 0 ≡ 1 = ap (λ (x : Ending). index_of x) same in
      omega (arith, index)
    where
      index_of : Ending → ℕ
      index_of (Leads to) = to.index
      index_of Refuses = 0
      index_of (Aborts cause) = 0

  apart : (p q : Phase) → phase_number p ≢ phase_number q → p ≡ q → ⊥
  apart p q n h = n (ap phase_number h)

  last_only : (p : Phase) → CleanIn e w (lent_words lent_bucket) steps asked p → Finishes e (given_with e lent_bucket) now p w (words_of lent_bucket) steps asked → NextIn p w.place.index Done → p ≡ Done
  last_only Done clean f h = refl
  last_only Send clean f h = absurd (send_elsewhere clean.is.gate f)
  last_only Guard clean f h = absurd (apart Done Take (λ n. omega (arith, n)) h)
  last_only Take clean f h = absurd (never_take w.place.index h)
    where
      never_take : (index : ℕ) → NextIn Take index Done → ⊥
      never_take zero n = apart Done Take (λ m. omega (arith, m)) n
      never_take (suc index) n = apart Done First (λ m. omega (arith, m)) n
  last_only Give clean f h = absurd (apart Done Send (λ n. omega (arith, n)) h)
  last_only First clean f h = absurd h
  last_only Restore clean f h = absurd h
  last_only Second clean f h = absurd h
  last_only Compare clean f h = absurd h
  last_only Verify clean f h = absurd h
  last_only Enter clean f h = absurd h

module _ (e : CallContext) (trusted : IsTrusted e) (now : ℕ) (small : now < 2 ^ 64) (told : Follows e.clock now) (lent_bucket : Option BucketWords) (w : Workspace) (nothing : w.want ≡ Nothing) (steps asked : ℕ) where
  of_context : (p : Phase) → PassesGuard e → CleanIn e w (lent_words lent_bucket) steps asked p → ActsOn e now w lent_bucket steps asked p → CleanAct e now w lent_bucket steps asked p
  of_context p fit clean (inl a) = Goes fit a
  of_context p fit clean (inr a) = Ends fit (last_only e now lent_bucket w steps asked p clean a.0 a.2) a.0

  fits : (p : Phase) → PassesGuard e → Knows e w p → CleanIn e w (lent_words lent_bucket) steps asked p → LendsIn w.wanted p lent_bucket → CleanAct e now w lent_bucket steps asked p
  fits p fit knows clean lends = of_context p fit clean (acts_on e (trusted_context e trusted fit) now small told w nothing steps asked lent_bucket p (lends_clean e w p lent_bucket knows lends) clean)

  in_guard : CleanIn e w (lent_words lent_bucket) steps asked Guard → LendsIn w.wanted Guard lent_bucket → CleanAct e now w lent_bucket steps asked Guard
  in_guard clean lends = by_fit (fit_or e trusted)
    where
      fails : IsUnfitInput e → (is_intact w.sealed e.input ≡ false) ⊎ (has_sealed_call (given_with e lent_bucket) w.sealed ≡ false)
      fails (inl h) = inl (ap (λ (s : Sealed). is_intact s e.input) clean.is.sealed ∙ h)
      fails (inr h) = inr (ap (λ (s : Sealed). has_sealed_call (given_with e lent_bucket) s) clean.is.sealed ∙ h)

      by_fit : PassesGuard e ⊎ IsUnfitInput e → CleanAct e now w lent_bucket steps asked Guard
      by_fit (inl fit) = fits Guard fit tt clean lends
      by_fit (inr unfit) = let r = refused (given_with e lent_bucket) w (words_of lent_bucket) clean.index (fails unfit) in Unfit refl unfit r.0 r.1

  pub clean_act : (p : Phase) → CleanIn e w (lent_words lent_bucket) steps asked p → Knows e w p → LendsIn w.wanted p lent_bucket → CleanAct e now w lent_bucket steps asked p
  clean_act p clean knows lends = by_guard (guard_or p)
    where
      by_guard : (p ≡ Guard) ⊎ (p ≡ Guard → ⊥) → CleanAct e now w lent_bucket steps asked p
      by_guard (inl h) = subst (λ (q : Phase). CleanAct e now w lent_bucket steps asked q) (sym h)
          (in_guard (subst (λ (q : Phase). CleanIn e w (lent_words lent_bucket) steps asked q) h clean) (subst (λ (q : Phase). LendsIn w.wanted q lent_bucket) h lends))
      by_guard (inr n) = fits p (knows_fit e w p n knows) knows clean lends

-- What is so behind an act that goes on.

module _ (e : CallContext) (trusted : IsTrusted e) (both : BothLaw e) (answered : AnsweredLaw e) (now : ℕ) (lent_bucket : Option BucketWords) (w : Workspace) (steps asked : ℕ) (p : Phase)
    (a : GoesOn e (given_with e lent_bucket) now p w (words_of lent_bucket) (left_of lent_bucket) steps asked) where
  -- the workspace at its next place
  abbrev next_workspace : Workspace
  next_workspace = record a.workspace { place = a.to }

  pub acts_kept : HonestlyKeeps w (acted a.workspace a.left (Leads a.to))
  acts_kept = subst (HonestlyKeeps w) a.acts (honestly_kept (given_with e lent_bucket) now w (words_of lent_bucket) p w.place.index)

  pub wanted_kept : IsNoStore p w.place.index → a.workspace.wanted ≡ w.wanted
  wanted_kept n = (subst (Keeps w) a.acts (always_honest (Keeps w) (act_in (given_with e lent_bucket) now p w.place.index w (words_of lent_bucket)) (keeps (given_with e lent_bucket) now w (words_of lent_bucket) p w.place.index n))).wanted

  only_closes : ((g : Given) (clock : ℕ) (u : Workspace) (words : List ℕ) → Always (OnlyCloses u words) (act_in g clock p w.place.index u words)) → OnlyCloses w (words_of lent_bucket) (acted a.workspace a.left (Leads a.to))
  only_closes k = subst (OnlyCloses w (words_of lent_bucket)) a.acts
      (always_honest (OnlyCloses w (words_of lent_bucket)) (act_in (given_with e lent_bucket) now p w.place.index w (words_of lent_bucket)) (k (given_with e lent_bucket) now w (words_of lent_bucket)))

  pub next_gate : a.workspace.gate.done ≡ phase_number a.to.phase
  next_gate = clean_gate e next_workspace (left_of lent_bucket a.left) (suc steps) (asked + a.more) a.to.phase a.clean

  -- where it leads to another phase, its own was closed
  pub gate_closed : w.gate.done ≡ phase_number p → phase_number a.to.phase ≢ phase_number p → a.workspace.gate.done ≡ phase_number p + 1
  gate_closed gate apart = by_gate acts_kept.gate
    where
      by_gate : (a.workspace.gate.done ≡ w.gate.done) ⊎ (a.workspace.gate.done ≡ risen w.gate.done) → a.workspace.gate.done ≡ phase_number p + 1
      by_gate (inl stays) = absurd (apart (sym next_gate ∙ stays ∙ gate))
      by_gate (inr rises) = let few : phase_number p ≤ 10 = small_number p in omega (arith, rises, gate, few)

  pub behind : a.to.phase ≡ Guard → ⊥
  behind = next_not_guard p w.place.index a.to.phase a.next

  -- what is wanted is so, by what it is
  wanted_this : (want : Want) → a.workspace.want ≡ want → Wanted e a.workspace (left_of lent_bucket a.left) asked want → Wanted e a.workspace (left_of lent_bucket a.left) asked a.workspace.want
  wanted_this want is wanted = subst (λ (n : Want). Wanted e a.workspace (left_of lent_bucket a.left) asked n) (sym is) wanted

  wanted_none : a.workspace.want ≡ Nothing → Wanted e a.workspace (left_of lent_bucket a.left) asked a.workspace.want
  wanted_none none = nothing_wanted e (left_of lent_bucket a.left) asked a.workspace none

  -- the answers of clean passes, as the bucket's words are wanted
  wants_answers : LendsBucketOf w.wanted lent_bucket → OnlyCloses w (words_of lent_bucket) (acted a.workspace a.left (Leads a.to)) → IsHonestResult e w (words_of lent_bucket) asked →
      OnLent (left_of lent_bucket a.left) (λ (words : List ℕ). IsHonestResult e a.workspace words asked)
  wants_answers lends only answers =
      let here : IsHonestResult e a.workspace a.left asked = subst (λ (words : List ℕ). IsHonestResult e a.workspace words asked) (sym only.words_are) (answers_like e w a.workspace only.like (words_of lent_bucket) asked answers) in
      subst (λ (lent : Option (List ℕ)). OnLent lent (λ (words : List ℕ). IsHonestResult e a.workspace words asked)) (sym (is_lent w.wanted lent_bucket a.left lends)) here

  answers_here : (time made : ℕ) (end : Machine) → IsAimed e w → LendsBucketOf w.wanted lent_bucket → InBoth e w (lent_words lent_bucket) time made end asked → IsHonestResult e w (words_of lent_bucket) asked
  answers_here time made end aimed lends i =
      both w (words_of lent_bucket) time made end asked aimed
      (subst (λ (lent : Option (List ℕ)). InBoth e w lent time made end asked) (lent_is_left lent_bucket ∙ is_lent w.wanted lent_bucket (words_of lent_bucket) lends) i)

module _ (e : CallContext) (trusted : IsTrusted e) (both : BothLaw e) (answered : AnsweredLaw e) (now : ℕ) (lent_bucket : Option BucketWords) (w : Workspace) (steps asked : ℕ) where
  abbrev On_from : Phase → Type 0
  On_from p = GoesOn e (given_with e lent_bucket) now p w (words_of lent_bucket) (left_of lent_bucket) steps asked

  abbrev Wanted_on : (p : Phase) → On_from p → Type 0
  Wanted_on p a = Wanted e a.workspace (left_of lent_bucket a.left) asked a.workspace.want

  take_wanted : PassesGuard e → InTake e w steps asked → (a : On_from Take) → (index : ℕ) → w.place.index ≡ index → Wanted_on Take a
  take_wanted fit i a zero h = wanted_none e trusted both answered now lent_bucket w steps asked Take a (a.want ∙ ap (take_want e) h)
  take_wanted fit i a (suc index) h =
      let call : w.wanted ≡ e.call.bucket = subst (λ (n : ℕ). WantedAt e n w.wanted) h i.wanted in
      let kept : a.workspace.wanted ≡ w.wanted = wanted_kept e trusted both answered now lent_bucket w steps asked Take a (subst (λ (n : ℕ). IsNoStore Take n) (sym h) tt) in
      wanted_this e trusted both answered now lent_bucket w steps asked Take a (WantTake e.call.bucket) (a.want ∙ ap (take_want e) h) (sym (kept ∙ call), trusted.bucket fit)

  enter_wanted : IsAimed e w → InEnter e w (lent_words lent_bucket) steps asked → LendsBucketOf w.wanted lent_bucket → (a : On_from Enter) → Wanted_on Enter a
  enter_wanted aimed i lends a =
      wanted_this e trusted both answered now lent_bucket w steps asked Enter a WantEnter a.want
      (wants_answers e trusted both answered now lent_bucket w steps asked Enter a lends (only_closes e trusted both answered now lent_bucket w steps asked Enter a (λ g clock u words. closes_only Enter u words WantEnter (at Give 0)))
      (answers_here e trusted both answered now lent_bucket w steps asked Enter a i.time i.made i.end aimed lends i.both))

  give_wanted : IsAimed e w → InGive e w (lent_words lent_bucket) steps asked → LendsBucketOf w.wanted lent_bucket → (a : On_from Give) → Wanted_on Give a
  give_wanted aimed i lends a =
      wanted_this e trusted both answered now lent_bucket w steps asked Give a WantGive a.want
      (wants_answers e trusted both answered now lent_bucket w steps asked Give a lends (only_closes e trusted both answered now lent_bucket w steps asked Give a (λ g clock u words. closes_only Give u words WantGive (at Send 0)))
      (answers_here e trusted both answered now lent_bucket w steps asked Give a i.time i.made i.end aimed lends i.both))

  -- the acts of Send leave the second pass
  send_only : (a : On_from Send) → OnlyCloses w (words_of lent_bucket) (acted a.workspace a.left (Leads a.to))
  send_only a = only_closes e trusted both answered now lent_bucket w steps asked Send a (λ g clock u words. closes_only Send u words (send_want (reply_of u)) (at Done 0))

  send_wanted : IsAimed e w → InSend e w (lent_words lent_bucket) steps asked → (a : On_from Send) → (bytes : List ℕ) → reply_of w ≡ bytes → Wanted_on Send a
  send_wanted aimed i a [] h = wanted_none e trusted both answered now lent_bucket w steps asked Send a (a.want ∙ ap send_want h)
  send_wanted aimed i a (byte ∷ bytes) h =
      let only = send_only a in
      let sends = send_like e w a.workspace only.like asked (answered w i.time i.made i.end asked aimed i.answered) in
      let reply : reply_of a.workspace ≡ byte ∷ bytes = ap (λ (q : PassState). q.bytes.items) only.like.second ∙ h in
      wanted_this e trusted both answered now lent_bucket w steps asked Send a WantSend (a.want ∙ ap send_want h) (sends, λ none. let clash : [] ≡ byte ∷ bytes = sym none ∙ reply in let z : ⊥ = cc in z)

  -- what an act wants that goes on is so
  goes_wanted : (p : Phase) → PassesGuard e → Knows e w p → CleanIn e w (lent_words lent_bucket) steps asked p → LendsIn w.wanted p lent_bucket → (a : On_from p) → Wanted_on p a
  goes_wanted Guard fit knows i lends a = wanted_none e trusted both answered now lent_bucket w steps asked Guard a a.want
  goes_wanted Take fit knows i lends a = take_wanted fit i a w.place.index refl
  goes_wanted First fit knows i lends a = wanted_none e trusted both answered now lent_bucket w steps asked First a a.want
  goes_wanted Restore fit knows i lends a = wanted_none e trusted both answered now lent_bucket w steps asked Restore a a.want
  goes_wanted Second fit knows i lends a = wanted_none e trusted both answered now lent_bucket w steps asked Second a a.want
  goes_wanted Compare fit knows i lends a = wanted_none e trusted both answered now lent_bucket w steps asked Compare a a.want
  goes_wanted Verify fit knows i lends a = wanted_none e trusted both answered now lent_bucket w steps asked Verify a a.want
  goes_wanted Enter fit knows i lends a = enter_wanted knows i lends a
  goes_wanted Give fit knows i lends a = give_wanted knows i lends a
  goes_wanted Send fit knows i lends a = send_wanted knows i a (reply_of w) refl
  goes_wanted Done fit knows i lends a = wanted_none e trusted both answered now lent_bucket w steps asked Done a a.want

  -- where it closes its phase, it wants what is wanted there

  take_closing : InTake e w steps asked → (a : On_from Take) → phase_number a.to.phase ≢ phase_number Take → (index : ℕ) → w.place.index ≡ index → a.workspace.want ≡ closing_want a.workspace Take
  take_closing i a apart zero h = let stays : a.to.phase ≡ Take = subst (λ (n : ℕ). NextIn Take n a.to.phase) h a.next in absurd (apart (ap phase_number stays))
  take_closing i a apart (suc index) h =
      let call : w.wanted ≡ e.call.bucket = subst (λ (n : ℕ). WantedAt e n w.wanted) h i.wanted in
      let kept : a.workspace.wanted ≡ w.wanted = wanted_kept e trusted both answered now lent_bucket w steps asked Take a (subst (λ (n : ℕ). IsNoStore Take n) (sym h) tt) in
      a.want ∙ ap (take_want e) h ∙ ap WantTake (sym (kept ∙ call))

  pub goes_closing : (p : Phase) → CleanIn e w (lent_words lent_bucket) steps asked p → (a : On_from p) → phase_number a.to.phase ≢ phase_number p → a.workspace.want ≡ closing_want a.workspace p
  goes_closing Guard i a apart = a.want
  goes_closing Take i a apart = take_closing i a apart w.place.index refl
  goes_closing First i a apart = a.want
  goes_closing Restore i a apart = a.want
  goes_closing Second i a apart = a.want
  goes_closing Compare i a apart = a.want
  goes_closing Verify i a apart = a.want
  goes_closing Enter i a apart = a.want
  goes_closing Give i a apart = a.want
  goes_closing Send i a apart = a.want ∙ ap (λ (q : PassState). send_want q.bytes.items) (sym (send_only a).like.second)
  goes_closing Done i a apart = a.want

  aims_on : (p : Phase) (a : On_from p) → IsAimed e w → IsNoStore p w.place.index → Knows e (record a.workspace { place = a.to }) a.to.phase
  aims_on p a aimed n = aimed_knows e (record a.workspace { place = a.to }) a.to.phase (record { fit = aimed.fit; wanted = wanted_kept e trusted both answered now lent_bucket w steps asked p a n ∙ aimed.wanted })

  take_knows : PassesGuard e → InTake e w steps asked → (a : On_from Take) → (index : ℕ) → w.place.index ≡ index → Knows e (record a.workspace { place = a.to }) a.to.phase
  take_knows fit i a zero h = subst (λ (q : Phase). Knows e (record a.workspace { place = a.to }) q) (sym (subst (λ (n : ℕ). NextIn Take n a.to.phase) h a.next)) fit
  take_knows fit i a (suc index) h =
      aims_on Take a (record { fit = fit; wanted = subst (λ (n : ℕ). WantedAt e n w.wanted) h i.wanted }) (subst (λ (n : ℕ). IsNoStore Take n) (sym h) tt)

  -- what is known is known at the next place
  pub knows_on : (p : Phase) → PassesGuard e → Knows e w p → CleanIn e w (lent_words lent_bucket) steps asked p → (a : On_from p) → Knows e (record a.workspace { place = a.to }) a.to.phase
  knows_on Guard fit knows i a = subst (λ (q : Phase). Knows e (record a.workspace { place = a.to }) q) (sym a.next) fit
  knows_on Take fit knows i a = take_knows fit i a w.place.index refl
  knows_on First fit knows i a = aims_on First a knows tt
  knows_on Restore fit knows i a = aims_on Restore a knows tt
  knows_on Second fit knows i a = aims_on Second a knows tt
  knows_on Compare fit knows i a = aims_on Compare a knows tt
  knows_on Verify fit knows i a = aims_on Verify a knows tt
  knows_on Enter fit knows i a = aims_on Enter a knows tt
  knows_on Give fit knows i a = aims_on Give a knows tt
  knows_on Send fit knows i a = aims_on Send a knows tt
  knows_on Done fit knows i a = aims_on Done a knows tt

  -- the gate behind a phase that is only closed
  gate_behind : (p : Phase) (a : On_from p) (want : Want) (to : Place) → act_in (given_with e lent_bucket) now p w.place.index w (words_of lent_bucket) ≡ closes p w (words_of lent_bucket) want to → w.gate.done ≡ phase_number p →
      a.workspace.gate.done ≡ risen (phase_number p)
  gate_behind p a want to is gate =
      let end = closes_then p w (words_of lent_bucket) (λ v. ends (record v { want = want }) (words_of lent_bucket) (Leads to)) gate in
      ap (λ (y : Acted). y.workspace.gate.done) (sym a.acts ∙ ap honest is ∙ end) ∙ ap risen gate

  -- an act that leads to its own phase wants nothing
  pub quiet_again : (p : Phase) (a : On_from p) → w.gate.done ≡ phase_number p → a.to.phase ≡ p → want_in e w p ≡ Nothing
  quiet_again Guard a gate same = refl
  quiet_again Take a gate same = take_again w.place.index a.next
    where
      take_again : (index : ℕ) → NextIn Take index a.to.phase → take_want e index ≡ Nothing
      take_again zero n = refl
      take_again (suc index) n = let h : phase_number Take ≡ phase_number First = ap phase_number (sym same ∙ n) in absurd (omega (arith, h))
  quiet_again First a gate same = refl
  quiet_again Restore a gate same = refl
  quiet_again Second a gate same = refl
  quiet_again Compare a gate same = refl
  quiet_again Verify a gate same = refl
  quiet_again Enter a gate same =
      let seven : a.workspace.gate.done ≡ 7 = next_gate e trusted both answered now lent_bucket w steps asked Enter a ∙ ap phase_number same in
      let eight : a.workspace.gate.done ≡ risen 7 = gate_behind Enter a WantEnter (at Give 0) refl gate in
      absurd (omega (arith, seven, eight))
  quiet_again Give a gate same = let h : phase_number Give ≡ phase_number Send = ap phase_number (sym same ∙ a.next) in absurd (omega (arith, h))
  quiet_again Send a gate same = let h : phase_number Send ≡ phase_number Done = ap phase_number (sym same ∙ a.next) in absurd (omega (arith, h))
  quiet_again Done a gate same = refl

  -- and so each is wanted once
  pub goes_wants : (p : Phase) → PassesGuard e → Knows e w p → CleanIn e w (lent_words lent_bucket) steps asked p → LendsIn w.wanted p lent_bucket → (a : On_from p) → WantsWell e (left_of lent_bucket a.left) (phase_number p) asked a.workspace
  goes_wants p fit knows i lends a = record { wanted = goes_wanted p fit knows i lends a; once = by_phase (same_or a.to.phase p) }
    where
      gate : w.gate.done ≡ phase_number p
      gate = clean_gate e w (lent_words lent_bucket) steps asked p i

      by_phase : (a.to.phase ≡ p) ⊎ (phase_number a.to.phase ≢ phase_number p) → ClosesNext e (phase_number p) a.workspace ⊥
      by_phase (inl same) = Stays (next_gate e trusted both answered now lent_bucket w steps asked p a ∙ ap phase_number same) (a.want ∙ quiet_again p a gate same)
      by_phase (inr apart) = Closes p refl (gate_closed e trusted both answered now lent_bucket w steps asked p a gate apart) (goes_closing p i a apart)

-- What is so behind an act that leads to the end.

module _ (e : CallContext) (answered : AnsweredLaw e) (now : ℕ) (lent_bucket : Option BucketWords) (w : Workspace) (steps asked : ℕ) (p : Phase) (last : p ≡ Done) (knows : Knows e w p)
    (f : Finishes e (given_with e lent_bucket) now p w (words_of lent_bucket) steps asked) where
  pub end_kept : HonestlyKeeps w (acted f.workspace f.left (Leads (at Done 1)))
  end_kept = subst (HonestlyKeeps w) f.acts (honestly_kept (given_with e lent_bucket) now w (words_of lent_bucket) p w.place.index)

  end_wanted : f.workspace.wanted ≡ w.wanted
  end_wanted = (subst (Keeps w) f.acts (always_honest (Keeps w) (act_in (given_with e lent_bucket) now p w.place.index w (words_of lent_bucket))
      (keeps (given_with e lent_bucket) now w (words_of lent_bucket) p w.place.index (subst (λ (q : Phase). IsNoStore q w.place.index) (sym last) tt)))).wanted

  pub end_sends : HasCopyOfSome e (record f.workspace { place = at Done 1 }) asked
  end_sends =
      let aimed : IsAimed e w = subst (λ (q : Phase). Knows e w q) last knows in
      answered (record f.workspace { place = at Done 1 }) f.finished.time f.finished.made f.finished.end asked (record { fit = aimed.fit; wanted = end_wanted ∙ aimed.wanted }) f.finished.answered
