-- A caller who follows the wants lends what the next step asks for.
use Rattle.std.proofs.Common.{◌≡◌, ℕ, ◌+◌, List, [], ◌∷◌, Option, Some, None, sym, ap, ◌∙◌, subst, refl, arith}
use Rattle.sei_fault.specs.declared.place.Phase.{Phase}
use Rattle.sei_fault.specs.declared.place.Phase.TheVariants.{Guard, Take, First, Restore, Second, Compare, Verify, Enter, Give, Send, Done}
use Rattle.sei_fault.specs.Phases.{phase_number}
use Rattle.sei_words.specs.LentBucket.{words_of, place_of, Place as LentPlace}
use Rattle.sei_words.specs.Words.{BucketWords}
use Rattle.sei_traverse.specs.declared.turned.State.{State}
use Rattle.sei_traverse.specs.declared.turned.State.TheVariants.{Went}
use Rattle.sei_traverse.specs.declared.workspace.Workspace.{Workspace}
use Rattle.sei_traverse.specs.CallContext.{CallContext}
use Rattle.sei_traverse.specs.FaultInvariant.{IsRight, LendsWanted, LendsOn, WantsBucket, Wanted, ClosesOnce, IsAborted}
use Rattle.sei_traverse.specs.FaultInvariant.ClosesOnce.{Stays, Closes, Lacks}
use Rattle.sei_traverse.specs.OnWay.{lent_words, LendsBucket, LendsBucketOf, LendsIn}
use Rattle.sei_traverse.specs.Phases.{reply_of, send_want, closing_want}
use Rattle.sei_traverse.specs.Struck.{IsHonestResult, OnLent}
use Rattle.sei_traverse.proofs.ActKeeps.{IsNoStore}
use Rattle.sei_traverse.proofs.ClosesNext.{ClosesNext}
use Rattle.sei_traverse.proofs.ClosesNext.ClosesNext.{Stays as StaysAt, Closes as ClosesAt, Lacks as LacksAt}
use Rattle.sei_traverse.proofs.Onward.{left_of, still_lent}
use Rattle.sei_traverse.proofs.StepEnds.{same_phase, small_number}
use Rattle.sei_traverse.proofs.StepLaws.{lends_again, lent_is_left}

-- What is left of a lent bucket.

none_left : (lent_bucket left : Option BucketWords) → place_of left ≡ place_of lent_bucket → lent_bucket ≡ None → left ≡ None
none_left lent_bucket None place h = refl
none_left None (Some b) place h = absurd cc
none_left (Some a) (Some b) place h = absurd cc

bucket_at : Option LentPlace → ℕ
bucket_at None = 0
bucket_at (Some p) = p.bucket

same_bucket : (a b : BucketWords) → place_of (Some b) ≡ place_of (Some a) → b.bucket ≡ a.bucket
unfolding bucket_at
same_bucket a b place = ap bucket_at place

bucket_left : (wanted : ℕ) (lent_bucket left : Option BucketWords) → place_of left ≡ place_of lent_bucket → LendsBucketOf wanted lent_bucket → LendsBucketOf wanted left
bucket_left wanted None left place h = absurd h
bucket_left wanted (Some a) None place h = absurd cc
bucket_left wanted (Some a) (Some b) place h = same_bucket a b place ∙ h

lends_left : (p : Phase) (wanted : ℕ) (lent_bucket left : Option BucketWords) → place_of left ≡ place_of lent_bucket → LendsIn wanted p lent_bucket → LendsIn wanted p left
lends_left Guard wanted lent_bucket left place h = none_left lent_bucket left place h
lends_left Take wanted lent_bucket left place h = none_left lent_bucket left place h
lends_left Send wanted lent_bucket left place h = none_left lent_bucket left place h
lends_left Done wanted lent_bucket left place h = none_left lent_bucket left place h
lends_left First wanted lent_bucket left place h = bucket_left wanted lent_bucket left place h
lends_left Restore wanted lent_bucket left place h = bucket_left wanted lent_bucket left place h
lends_left Second wanted lent_bucket left place h = bucket_left wanted lent_bucket left place h
lends_left Compare wanted lent_bucket left place h = bucket_left wanted lent_bucket left place h
lends_left Verify wanted lent_bucket left place h = bucket_left wanted lent_bucket left place h
lends_left Enter wanted lent_bucket left place h = bucket_left wanted lent_bucket left place h
lends_left Give wanted lent_bucket left place h = bucket_left wanted lent_bucket left place h

-- what is left of the same words is the same
pub same_words : (lent_bucket left : Option BucketWords) → place_of left ≡ place_of lent_bucket → words_of left ≡ words_of lent_bucket → lent_words left ≡ lent_words lent_bucket
same_words lent_bucket left place h = sym (still_lent lent_bucket left (words_of left) place refl) ∙ ap (left_of lent_bucket) h ∙ sym (lent_is_left lent_bucket)

-- Where the gate is right.

module _ (e : CallContext) (old new : Workspace) (right : IsRight old) (lent_bucket left : Option BucketWords) (place : place_of left ≡ place_of lent_bucket) (lends : LendsWanted old lent_bucket)
    (kept : IsNoStore old.place.phase old.place.index → new.wanted ≡ old.wanted) where
  -- only the phase of the place is closed
  pub closes_once : (ended : Type 0) → ClosesNext e old.gate.done new ended → ClosesOnce e old new ended
  closes_once ended (StaysAt gate none) = Stays gate none
  closes_once ended (ClosesAt phase is gate want) = Closes phase (same_phase old.place.phase phase (sym right ∙ is)) is gate want
  closes_once ended (LacksAt is gate none lacks at) = Lacks is gate none lacks at

  -- what is left is what its phase asks for
  still_lends : LendsIn new.wanted old.place.phase left
  still_lends = lends_left old.place.phase new.wanted lent_bucket left place (lends_again old.place.phase old.place.index old.wanted new.wanted lent_bucket kept (lends right))

  -- in the next phase
  next_lends : (q : Phase) → LendsIn new.wanted q left → new.gate.done ≡ phase_number q → LendsWanted new left
  next_lends q h gate = λ here. subst (λ (r : Phase). LendsIn new.wanted r left) (same_phase q new.place.phase (sym gate ∙ here)) h

  sends_on : (bytes : List ℕ) → LendsWanted new left → LendsOn new left (send_want bytes)
  sends_on [] h = h
  sends_on (byte ∷ bytes) h = h

  closing_lends : (p : Phase) → LendsIn new.wanted p left → new.gate.done ≡ phase_number p + 1 → LendsOn new left (closing_want new p)
  closing_lends Guard h gate = next_lends Take h gate
  closing_lends Take h gate = λ b is here. subst (λ (r : Phase). LendsIn new.wanted r (Some b)) (same_phase First new.place.phase (sym gate ∙ here)) is
  closing_lends First h gate = next_lends Restore h gate
  closing_lends Restore h gate = next_lends Second h gate
  closing_lends Second h gate = next_lends Compare h gate
  closing_lends Compare h gate = next_lends Verify h gate
  closing_lends Verify h gate = next_lends Enter h gate
  closing_lends Enter h gate = next_lends Give h gate
  closing_lends Give h gate = λ here. subst (λ (r : Phase). LendsIn new.wanted r None) (same_phase Send new.place.phase (sym gate ∙ here)) refl
  closing_lends Send h gate = sends_on (reply_of new) (next_lends Done h gate)
  closing_lends Done h gate = λ here. let small = small_number new.place.phase in absurd (omega (arith, small, here, gate))

  pub lends_on : (state : State) → ClosesOnce e old new (IsAborted state) → state ≡ Went → LendsOn new left new.want
  lends_on state (Stays gate none) went = subst (LendsOn new left) (sym none) (next_lends old.place.phase still_lends (gate ∙ right))
  lends_on state (Closes phase at is gate want) went =
      subst (LendsOn new left) (sym want) (closing_lends phase (subst (λ (r : Phase). LendsIn new.wanted r left) at still_lends) (omega (arith, gate, is)))
  lends_on state (Lacks is gate none lacks ended) went = absurd (subst IsAborted went ended)

  -- the lent bucket is the call's

  of_answers : (lent : Option BucketWords) (asked : ℕ) → LendsBucketOf new.wanted lent → OnLent (lent_words lent) (λ words. IsHonestResult e new words asked) → LendsBucket e lent
  of_answers None asked h answers = absurd h
  of_answers (Some b) asked h answers = h ∙ answers.aimed.wanted

  sends_bucket : (bytes : List ℕ) → WantsBucket e left (send_want bytes)
  sends_bucket [] = tt
  sends_bucket (byte ∷ bytes) = tt

  closing_bucket : (p : Phase) (asked : ℕ) → LendsIn new.wanted p left → Wanted e new (lent_words left) asked (closing_want new p) → WantsBucket e left (closing_want new p)
  closing_bucket Guard asked h wanted = tt
  closing_bucket Take asked h wanted = tt
  closing_bucket First asked h wanted = tt
  closing_bucket Restore asked h wanted = tt
  closing_bucket Second asked h wanted = tt
  closing_bucket Compare asked h wanted = tt
  closing_bucket Verify asked h wanted = tt
  closing_bucket Enter asked h wanted = of_answers left asked h wanted
  closing_bucket Give asked h wanted = of_answers left asked h wanted
  closing_bucket Send asked h wanted = sends_bucket (reply_of new)
  closing_bucket Done asked h wanted = tt

  pub wants_bucket : (ended : Type 0) (asked : ℕ) → ClosesOnce e old new ended → Wanted e new (lent_words left) asked new.want → WantsBucket e left new.want
  wants_bucket ended asked (Stays gate none) wanted = subst (WantsBucket e left) (sym none) tt
  wants_bucket ended asked (Closes phase at is gate want) wanted =
      subst (WantsBucket e left) (sym want)
      (closing_bucket phase asked (subst (λ (r : Phase). LendsIn new.wanted r left) at still_lends) (subst (Wanted e new (lent_words left) asked) want wanted))
  wants_bucket ended asked (Lacks is gate none lacks at) wanted = subst (WantsBucket e left) (sym none) tt
