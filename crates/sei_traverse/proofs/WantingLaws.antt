-- Over all steps of a traversal, each is wanted once at most.
use Rattle.std.proofs.Common.{◌≡◌, ◌≢◌, ◌⊎◌, inl, inr, ℕ, ◌+◌, ◌≤◌, List, [], ◌∷◌, ◌++◌, Option, Some, None, append-nil, sym, ap, ◌∙◌, subst, refl, length, arith}
use Rattle.std.proofs.lemmas.List.Elements.{filter-append}
use Rattle.sei_fault.specs.Counts.{Counts}
use Rattle.sei_fault.specs.Phases.{phase_number}
use Rattle.sei_fault.specs.declared.place.Phase.{Phase}
use Rattle.sei_fault.specs.declared.place.Phase.TheVariants.{Guard, Take, First, Restore, Second, Compare, Verify, Enter, Give, Send, Done}
use Rattle.sei_log.proofs.Public.{equal_or}
use Rattle.sei_pass.specs.State.{PassState}
use Rattle.sei_words.specs.Words.{BucketWords}
use Rattle.sei_traverse.specs.declared.turned.State.{State}
use Rattle.sei_traverse.specs.declared.turned.State.TheVariants.{Went, Finished, Refused, Aborted}
use Rattle.sei_traverse.specs.declared.turned.Want.{Want}
use Rattle.sei_traverse.specs.declared.turned.Want.TheVariants.{Nothing, Take as WantTake, Enter as WantEnter, Give as WantGive}
use Rattle.sei_traverse.specs.declared.workspace.Workspace.{Workspace}
use Rattle.sei_traverse.specs.CallContext.{CallContext}
use Rattle.sei_traverse.specs.FaultInvariant.{IsRight, Wanted, ClosesOnce, IsAborted, Isolates}
use Rattle.sei_traverse.specs.FaultInvariant.ClosesOnce.{Stays, Closes, Lacks}
use Rattle.sei_traverse.specs.OnWay.{lent_words}
use Rattle.sei_traverse.specs.Phases.{reply_of, send_want, closing_want}
use Rattle.sei_traverse.specs.State.{TraversalState}
use Rattle.sei_traverse.specs.Struck.{IsHonestResult, OnLent}
use Rattle.sei_traverse.specs.Wanting.{Steps, is_wanted, wanted_in, all_wants, WantsOnce}
use Rattle.sei_traverse.specs.Wanting.StepsFrom.{Here, GoesOn}

-- what was wanted so far, by the number of closed phases. Where it is right still, the wanted bucket is the one of which
-- Take was closed, and the reply the one of which Send was closed
data WantedTo (e : CallContext) (w : Workspace) (right : Type 0) (wanted : List Want) : Type 0 where
  ToNone : w.gate.done ≤ 1 → wanted ≡ [] → WantedTo e w right wanted
  ToTake : (bucket : ℕ) → 2 ≤ w.gate.done → w.gate.done ≤ 7 → wanted ≡ WantTake bucket ∷ [] → (right → w.wanted ≡ bucket) → WantedTo e w right wanted
  ToEnter : w.gate.done ≡ 8 → wanted ≡ WantTake e.call.bucket ∷ WantEnter ∷ [] → WantedTo e w right wanted
  ToGive : w.gate.done ≡ 9 → wanted ≡ WantTake e.call.bucket ∷ WantEnter ∷ WantGive ∷ [] → WantedTo e w right wanted
  ToAll : (reply : List ℕ) → 10 ≤ w.gate.done → wanted ≡ all_wants e.call.bucket reply → (right → reply_of w ≡ reply) → WantedTo e w right wanted

-- and with one more want

wants_more : (wants : List Want) (want : Want) (wanted : List Want) → wanted_in wants ≡ wanted → wanted_in (wants ++ want ∷ []) ≡ wanted ++ wanted_in (want ∷ [])
wants_more wants want wanted h = filter-append is_wanted wants (want ∷ []) ∙ ap (λ (xs : List Want). xs ++ wanted_in (want ∷ [])) h

wants_none : (wants : List Want) (wanted : List Want) → wanted_in wants ≡ wanted → wanted_in (wants ++ Nothing ∷ []) ≡ wanted
wants_none wants wanted h = wants_more wants Nothing wanted h ∙ append-nil wanted

-- what was wanted is a beginning of all wants

none_once : (e : CallContext) (wants : List Want) → wanted_in wants ≡ [] → WantsOnce e wants
none_once e wants is = record {
  bucket = e.call.bucket;
  reply = [];
  rest = all_wants e.call.bucket [];
  order = ap (λ (xs : List Want). xs ++ all_wants e.call.bucket []) is;
  aimed = λ two. refl;
}

all_once : (e : CallContext) (wants : List Want) (reply : List ℕ) → wanted_in wants ≡ all_wants e.call.bucket reply → WantsOnce e wants
all_once e wants reply is = record { bucket = e.call.bucket; reply = reply; rest = []; order = append-nil (wanted_in wants) ∙ is; aimed = λ two. refl }

wanted_once : (e : CallContext) (w : Workspace) (right : Type 0) (wants : List Want) → WantedTo e w right (wanted_in wants) → WantsOnce e wants
wanted_once e w right wants (ToNone gate is) = none_once e wants is
wanted_once e w right wants (ToTake bucket from to is aimed) =
    let one : length (wanted_in wants) ≡ 1 = ap length is in
    record {
      bucket = bucket;
      reply = [];
      rest = WantEnter ∷ WantGive ∷ [];
      order = ap (λ (xs : List Want). xs ++ WantEnter ∷ WantGive ∷ []) is;
      aimed = λ two. absurd (omega (arith, two, one));
    }
wanted_once e w right wants (ToEnter gate is) =
    record { bucket = e.call.bucket; reply = []; rest = WantGive ∷ []; order = ap (λ (xs : List Want). xs ++ WantGive ∷ []) is; aimed = λ two. refl }
wanted_once e w right wants (ToGive gate is) = record { bucket = e.call.bucket; reply = []; rest = []; order = ap (λ (xs : List Want). xs ++ []) is; aimed = λ two. refl }
wanted_once e w right wants (ToAll reply gate is same) = all_once e wants reply is

-- what was wanted, by the number of closed phases

module _ (e : CallContext) (w : Workspace) (right : Type 0) (wanted : List Want) where
  none_before : WantedTo e w right wanted → w.gate.done ≤ 1 → wanted ≡ []
  none_before (ToNone gate is) before = is
  none_before (ToTake bucket from to is aimed) before = absurd (omega (arith, from, before))
  none_before (ToEnter gate is) before = absurd (omega (arith, gate, before))
  none_before (ToGive gate is) before = absurd (omega (arith, gate, before))
  none_before (ToAll reply gate is same) before = absurd (omega (arith, gate, before))

  taken_before : WantedTo e w right wanted → 2 ≤ w.gate.done → w.gate.done ≤ 7 → (bucket : ℕ) × (wanted ≡ WantTake bucket ∷ []) × (right → w.wanted ≡ bucket)
  taken_before (ToNone gate is) after before = absurd (omega (arith, gate, after))
  taken_before (ToTake bucket from to is aimed) after before = (bucket, is, aimed)
  taken_before (ToEnter gate is) after before = absurd (omega (arith, gate, before))
  taken_before (ToGive gate is) after before = absurd (omega (arith, gate, before))
  taken_before (ToAll reply gate is same) after before = absurd (omega (arith, gate, before))

  entered_before : WantedTo e w right wanted → w.gate.done ≡ 8 → wanted ≡ WantTake e.call.bucket ∷ WantEnter ∷ []
  entered_before (ToNone gate is) at = absurd (omega (arith, gate, at))
  entered_before (ToTake bucket from to is aimed) at = absurd (omega (arith, to, at))
  entered_before (ToEnter gate is) at = is
  entered_before (ToGive gate is) at = absurd (omega (arith, gate, at))
  entered_before (ToAll reply gate is same) at = absurd (omega (arith, gate, at))

  given_before : WantedTo e w right wanted → w.gate.done ≡ 9 → wanted ≡ WantTake e.call.bucket ∷ WantEnter ∷ WantGive ∷ []
  given_before (ToNone gate is) at = absurd (omega (arith, gate, at))
  given_before (ToTake bucket from to is aimed) at = absurd (omega (arith, to, at))
  given_before (ToEnter gate is) at = absurd (omega (arith, gate, at))
  given_before (ToGive gate is) at = is
  given_before (ToAll reply gate is same) at = absurd (omega (arith, gate, at))

  all_before : WantedTo e w right wanted → 10 ≤ w.gate.done → (reply : List ℕ) × (wanted ≡ all_wants e.call.bucket reply) × (right → reply_of w ≡ reply)
  all_before (ToNone gate is) after = absurd (omega (arith, gate, after))
  all_before (ToTake bucket from to is aimed) after = absurd (omega (arith, to, after))
  all_before (ToEnter gate is) after = absurd (omega (arith, gate, after))
  all_before (ToGive gate is) after = absurd (omega (arith, gate, after))
  all_before (ToAll reply gate is same) after = (reply, is, same)

-- A step.

-- where the words are those of an honest run, the wanted bucket is the call's
aimed_on : (e : CallContext) (w : Workspace) (lent : Option (List ℕ)) (asked : ℕ) → OnLent lent (λ words. IsHonestResult e w words asked) → w.wanted ≡ e.call.bucket
aimed_on e w None asked h = absurd h
aimed_on e w (Some words) asked h = h.aimed.wanted

module _ (e : CallContext) (old new : Workspace) (wants : List Want) (h : WantedTo e old (IsRight old) (wanted_in wants)) (aims : 2 ≤ old.gate.done → IsRight old → new.wanted ≡ old.wanted)
    (still : 7 ≤ old.gate.done → IsRight old → reply_of new ≡ reply_of old) where
  abbrev After : Want → Type 0
  After want = WantedTo e new (IsRight old) (wanted_in (wants ++ want ∷ []))

  -- no phase is closed
  stays_by : WantedTo e old (IsRight old) (wanted_in wants) → new.gate.done ≡ old.gate.done → After Nothing
  stays_by (ToNone gate is) same = ToNone (omega (arith, gate, same)) (wants_none wants _ is)
  stays_by (ToTake bucket from to is aimed) same =
      ToTake bucket (omega (arith, from, same)) (omega (arith, to, same)) (wants_none wants _ is) (λ right. aims from right ∙ aimed right)
  stays_by (ToEnter gate is) same = ToEnter (same ∙ gate) (wants_none wants _ is)
  stays_by (ToGive gate is) same = ToGive (same ∙ gate) (wants_none wants _ is)
  stays_by (ToAll reply gate is reply_is) same =
      ToAll reply (omega (arith, gate, same)) (wants_none wants _ is) (λ right. still (omega (arith, gate)) right ∙ reply_is right)

  -- one from First to Verify is
  between : 2 ≤ old.gate.done → old.gate.done ≤ 6 → new.gate.done ≡ old.gate.done + 1 → After Nothing
  between from to more =
      let t = taken_before e old (IsRight old) (wanted_in wants) h from (omega (arith, to)) in
      ToTake t.0 (omega (arith, from, more)) (omega (arith, to, more)) (wants_none wants _ t.1) (λ right. aims from right ∙ t.2 right)

  -- any other is; where Enter is wanted, the wanted bucket is the call's
  closes : (phase : Phase) → IsRight old → old.gate.done ≡ phase_number phase → new.gate.done ≡ old.gate.done + 1 → (lent : Option (List ℕ)) (asked : ℕ) →
      Wanted e new lent asked (closing_want new phase) → After (closing_want new phase)
  closes Guard right gate more lent asked so = ToNone (omega (arith, gate, more)) (wants_none wants _ (none_before e old (IsRight old) (wanted_in wants) h (omega (arith, gate))))
  closes Take right gate more lent asked so =
      ToTake new.wanted (omega (arith, gate, more)) (omega (arith, gate, more))
      (wants_more wants (WantTake new.wanted) [] (none_before e old (IsRight old) (wanted_in wants) h (omega (arith, gate)))) (λ right. refl)
  closes First right gate more lent asked so = between (omega (arith, gate)) (omega (arith, gate)) more
  closes Restore right gate more lent asked so = between (omega (arith, gate)) (omega (arith, gate)) more
  closes Second right gate more lent asked so = between (omega (arith, gate)) (omega (arith, gate)) more
  closes Compare right gate more lent asked so = between (omega (arith, gate)) (omega (arith, gate)) more
  closes Verify right gate more lent asked so = between (omega (arith, gate)) (omega (arith, gate)) more
  closes Enter right gate more lent asked so =
      let t = taken_before e old (IsRight old) (wanted_in wants) h (omega (arith, gate)) (omega (arith, gate)) in
      let bucket : t.0 ≡ e.call.bucket = sym (t.2 right) ∙ sym (aims (omega (arith, gate)) right) ∙ aimed_on e new lent asked so in
      ToEnter (omega (arith, gate, more)) (wants_more wants WantEnter (WantTake e.call.bucket ∷ []) (t.1 ∙ ap (λ (b : ℕ). let xs : List Want = WantTake b ∷ [] in xs) bucket))
  closes Give right gate more lent asked so =
      ToGive (omega (arith, gate, more)) (wants_more wants WantGive _ (entered_before e old (IsRight old) (wanted_in wants) h gate))
  closes Send right gate more lent asked so =
      ToAll (reply_of new) (omega (arith, gate, more)) (wants_more wants (send_want (reply_of new)) _ (given_before e old (IsRight old) (wanted_in wants) h gate)) (λ right. refl)
  closes Done right gate more lent asked so =
      let t = all_before e old (IsRight old) (wanted_in wants) h (omega (arith, gate)) in
      ToAll t.0 (omega (arith, gate, more)) (wants_none wants _ t.1) (λ right. still (omega (arith, gate)) right ∙ t.2 right)

-- Behind the steps.

-- where the traversal goes on, and where it ended
abbrev IsWanted : CallContext → List Want → TraversalState → State → Type 0
IsWanted e wants t Went = WantedTo e t.workspace (IsRight t.workspace) (wanted_in wants)
IsWanted e wants t Finished = wanted_in wants ≡ all_wants e.call.bucket (reply_of t.workspace)
IsWanted e wants t Refused = wanted_in wants ≡ []
IsWanted e wants t (Aborted abort) = WantsOnce e wants

-- an equation of numbers that is not refuted holds
pub unrefuted : (m n : ℕ) → ((m ≡ n → ⊥) → ⊥) → m ≡ n
unrefuted m n h = by_case (equal_or m n)
  where
    by_case : (m ≡ n) ⊎ (m ≢ n) → m ≡ n
    by_case (inl same) = same
    by_case (inr other) = absurd (h (λ same. other same))

-- where it is right behind a step only if it was so before
still_right : (e : CallContext) (old new : Workspace) (wanted : List Want) → (IsRight new → IsRight old) → WantedTo e new (IsRight old) wanted → WantedTo e new (IsRight new) wanted
still_right e old new wanted was (ToNone gate is) = ToNone gate is
still_right e old new wanted was (ToTake bucket from to is aimed) = ToTake bucket from to is (λ right. aimed (was right))
still_right e old new wanted was (ToEnter gate is) = ToEnter gate is
still_right e old new wanted was (ToGive gate is) = ToGive gate is
still_right e old new wanted was (ToAll reply gate is same) = ToAll reply gate is (λ right. same (was right))

module _ (e : CallContext) (begin now : Counts) (wants : List Want) (old new : TraversalState) (lent_bucket left : Option BucketWords) (h : WantedTo e old.workspace (IsRight old.workspace) (wanted_in wants)) (state : State)
    (i : Isolates e old new lent_bucket left begin now new.workspace.want state) where
  abbrev so_far : List Want
  so_far = wants ++ new.workspace.want ∷ []

  still_reply : 7 ≤ old.workspace.gate.done → IsRight old.workspace → reply_of new.workspace ≡ reply_of old.workspace
  still_reply seven right = ap (λ (p : PassState). p.bytes.items) (i.still seven right).0.second

  -- where Take is not closed without its want
  goes_by : ClosesOnce e old.workspace new.workspace (IsAborted state) → WantedTo e new.workspace (IsRight old.workspace) (wanted_in so_far) ⊎ ((wanted_in so_far ≡ []) × IsAborted state)
  goes_by (Stays same none) =
      inl (subst (λ (w : Want). WantedTo e new.workspace (IsRight old.workspace) (wanted_in (wants ++ w ∷ []))) (sym none) (stays_by e old.workspace new.workspace wants h i.aims still_reply h same))
  goes_by (Closes phase at gate more want) =
      inl (subst (λ (w : Want). WantedTo e new.workspace (IsRight old.workspace) (wanted_in (wants ++ w ∷ []))) (sym want)
      (closes e old.workspace new.workspace wants h i.aims still_reply phase (gate ∙ ap phase_number (sym at)) gate more (lent_words left) i.wants.asked
      (subst (Wanted e new.workspace (lent_words left) i.wants.asked) want i.wants.wanted)))
  goes_by (Lacks was is none lacks ended) =
      inr (subst (λ (w : Want). wanted_in (wants ++ w ∷ []) ≡ []) (sym none) (wants_none wants [] (none_before e old.workspace (IsRight old.workspace) (wanted_in wants) h (omega (arith, was)))), ended)

module _ (e : CallContext) (begin now : Counts) (wants : List Want) (old new : TraversalState) (lent_bucket left : Option BucketWords) where
  goes_to : (state : State) → Isolates e old new lent_bucket left begin now new.workspace.want state →
      WantedTo e new.workspace (IsRight old.workspace) (wanted_in (wants ++ new.workspace.want ∷ [])) ⊎ ((wanted_in (wants ++ new.workspace.want ∷ []) ≡ []) × IsAborted state) → IsWanted e (wants ++ new.workspace.want ∷ []) new state
  goes_to Went i (inl w) = still_right e old.workspace new.workspace _ (λ right. unrefuted _ _ (λ wrong. i.lost wrong refl right)) w
  goes_to Finished i (inl w) =
      let gate : new.workspace.gate.done ≡ 11 = i.goes.gate in
      let a = all_before e new.workspace (IsRight old.workspace) _ w (omega (arith, gate)) in
      a.1 ∙ ap (all_wants e.call.bucket) (sym (a.2 (i.finishes refl)))
  goes_to Refused i (inl w) = none_before e new.workspace (IsRight old.workspace) _ w i.goes.gate
  goes_to (Aborted abort) i (inl w) = wanted_once e new.workspace (IsRight old.workspace) (wants ++ new.workspace.want ∷ []) w
  goes_to Went i (inr w) = absurd w.1
  goes_to Finished i (inr w) = absurd w.1
  goes_to Refused i (inr w) = absurd w.1
  goes_to (Aborted abort) i (inr w) = none_once e (wants ++ new.workspace.want ∷ []) w.0

are_wanted : (e : CallContext) (begin : Counts) (wants : List Want) (t : TraversalState) (left : Option BucketWords) (state : State) → Steps e begin wants t left state → IsWanted e wants t state
are_wanted e begin wants t left state Here = ToNone (omega arith) refl
are_wanted e begin wants t left state (GoesOn before old new lent_bucket next last now state' steps lends i) =
    goes_to e begin now before old new next last state i (goes_by e begin now before old new next last (are_wanted e begin before old lent_bucket Went steps) state i i.once)

-- The clauses.

pub wanted_at_most_once : (e : CallContext) (begin : Counts) (wants : List Want) (t : TraversalState) (left : Option BucketWords) (state : State) → Steps e begin wants t left state → WantsOnce e wants
wanted_at_most_once e begin wants t left state steps = by_state state (are_wanted e begin wants t left state steps)
  where
    by_state : (s : State) → IsWanted e wants t s → WantsOnce e wants
    by_state Went h = wanted_once e t.workspace (IsRight t.workspace) wants h
    by_state Finished h = all_once e wants (reply_of t.workspace) h
    by_state Refused h = none_once e wants h
    by_state (Aborted abort) h = h

pub finished_wants : (e : CallContext) (begin : Counts) (wants : List Want) (t : TraversalState) (left : Option BucketWords) → Steps e begin wants t left Finished → wanted_in wants ≡ all_wants e.call.bucket (reply_of t.workspace)
finished_wants e begin wants t left steps = are_wanted e begin wants t left Finished steps

pub refused_wants : (e : CallContext) (begin : Counts) (wants : List Want) (t : TraversalState) (left : Option BucketWords) → Steps e begin wants t left Refused → wanted_in wants ≡ []
refused_wants e begin wants t left steps = are_wanted e begin wants t left Refused steps
