-- What is entered stays as it is up to the end.
use Rattle.std.proofs.Common.{◌≡◌, ◌⊎◌, inl, inr, ℕ, ◌+◌, ◌≤◌, List, [], ◌∷◌, ◌++◌, Option, Some, None, refl, sym, ap, ◌∙◌, subst, arith}
use Rattle.std.specs.Prelude.{⊤}
use Rattle.sei_fault.specs.Counts.{Counts}
use Rattle.sei_fault.specs.Phases.{phase_number}
use Rattle.sei_fault.specs.declared.place.Phase.{Phase}
use Rattle.sei_fault.specs.declared.place.Phase.TheVariants.{Guard, Take, First, Restore, Second, Compare, Verify, Enter, Give, Send, Done}
use Rattle.sei_pass.specs.State.{PassState}
use Rattle.sei_words.specs.Words.{BucketWords}
use Rattle.sei_traverse.specs.declared.turned.State.{State}
use Rattle.sei_traverse.specs.declared.turned.State.TheVariants.{Went, Finished, Refused, Aborted}
use Rattle.sei_traverse.specs.declared.turned.Want.{Want}
use Rattle.sei_traverse.specs.declared.turned.Want.TheVariants.{Nothing, Enter as WantEnter, Give as WantGive, Send as WantSend}
use Rattle.sei_traverse.specs.declared.workspace.Workspace.{Workspace}
use Rattle.sei_traverse.specs.CallContext.{CallContext}
use Rattle.sei_traverse.specs.FaultInvariant.{IsRight, ClosesOnce, IsAborted, Isolates}
use Rattle.sei_traverse.specs.FaultInvariant.ClosesOnce.{Stays, Closes, Lacks}
use Rattle.sei_traverse.specs.OnWay.{lent_words}
use Rattle.sei_traverse.specs.Phases.{reply_of, send_want, closing_want}
use Rattle.sei_traverse.specs.State.{TraversalState}
use Rattle.sei_traverse.specs.Wanting.{StepsFrom, LendsNext, LendsAny, EntersAt}
use Rattle.sei_traverse.specs.Wanting.StepsFrom.{Here, GoesOn}
use Rattle.sei_traverse.proofs.WantingLaws.{unrefuted}

-- Which phase a step closed, by what it wants.

send_no_enter : (reply : List ℕ) → send_want reply ≡ WantEnter → ⊥
send_no_enter [] is = let z : ⊥ = cc in z
send_no_enter (byte ∷ bytes) is = let z : ⊥ = cc in z

send_no_give : (reply : List ℕ) → send_want reply ≡ WantGive → ⊥
send_no_give [] is = let z : ⊥ = cc in z
send_no_give (byte ∷ bytes) is = let z : ⊥ = cc in z

entering : (w : Workspace) (p : Phase) → closing_want w p ≡ WantEnter → phase_number p + 1 ≡ 8
entering w Take is = absurd (let z : ⊥ = cc in z)
entering w Enter is = refl
entering w Give is = absurd (let z : ⊥ = cc in z)
entering w Send is = absurd (send_no_enter (reply_of w) is)
entering w p is = absurd (let z : ⊥ = cc in z)

giving : (w : Workspace) (p : Phase) → closing_want w p ≡ WantGive → phase_number p + 1 ≡ 9
giving w Take is = absurd (let z : ⊥ = cc in z)
giving w Enter is = absurd (let z : ⊥ = cc in z)
giving w Give is = refl
giving w Send is = absurd (send_no_give (reply_of w) is)
giving w p is = absurd (let z : ⊥ = cc in z)

sending : (w : Workspace) (p : Phase) → closing_want w p ≡ WantSend → phase_number p + 1 ≡ 10
sending w Take is = absurd (let z : ⊥ = cc in z)
sending w Enter is = absurd (let z : ⊥ = cc in z)
sending w Give is = absurd (let z : ⊥ = cc in z)
sending w Send is = refl
sending w p is = absurd (let z : ⊥ = cc in z)

-- a step that closed the phase whose number is one less, where the gate was right
record ClosesAt (old new : Workspace) (n : ℕ) : Type 0 where
  before : old.gate.done + 1 ≡ n
  after : new.gate.done ≡ n
  right : IsRight old

module _ (e : CallContext) (old new : Workspace) (ended : Type 0) where
  -- no phase is opened again
  never_falls : ClosesOnce e old new ended → old.gate.done ≤ new.gate.done
  never_falls (Stays same none) = omega (arith, same)
  never_falls (Closes phase at gate more want) = omega (arith, more)
  never_falls (Lacks was is none lacks end) = omega (arith, was, is)

  -- from Enter on, and as long as Give is not closed, nothing is wanted but Enter
  wants_enter : ClosesOnce e old new ended → 7 ≤ old.gate.done → new.gate.done ≤ 8 → (new.want ≡ Nothing) ⊎ (new.want ≡ WantEnter)
  wants_enter (Stays same none) from to = inl none
  wants_enter (Lacks was is none lacks end) from to = inl none
  wants_enter (Closes phase at gate more want) from to = by_phase phase gate want
    where
      by_phase : (p : Phase) → old.gate.done ≡ phase_number p → new.want ≡ closing_want new p → (new.want ≡ Nothing) ⊎ (new.want ≡ WantEnter)
      by_phase Take g w = absurd (omega (arith, from, g))
      by_phase Enter g w = inr w
      by_phase Give g w = absurd (omega (arith, to, more, g))
      by_phase Send g w = absurd (omega (arith, to, more, g))
      by_phase p g w = inl w

  -- what is wanted is wanted where its phase is closed
  closed_by : (wanted : Want) (n : ℕ) → ((p : Phase) → closing_want new p ≡ wanted → phase_number p + 1 ≡ n) → (Nothing ≡ wanted → ⊥) → ClosesOnce e old new ended → new.want ≡ wanted → ClosesAt old new n
  closed_by wanted n which some (Stays same none) is = absurd (some (sym none ∙ is))
  closed_by wanted n which some (Lacks was here none lacks end) is = absurd (some (sym none ∙ is))
  closed_by wanted n which some (Closes phase at gate more want) is =
      let before : old.gate.done + 1 ≡ n = ap (λ (k : ℕ). k + 1) gate ∙ which phase (sym want ∙ is) in
      record { before = before; after = more ∙ before; right = gate ∙ ap phase_number (sym at) }

-- what is lent next is what is left, if nothing or Enter was wanted
same_lending : (want : Want) (left next : Option BucketWords) → (want ≡ Nothing) ⊎ (want ≡ WantEnter) → LendsNext want left next → next ≡ left
same_lending want left next (inl none) lends = subst (λ (w : Want). LendsNext w left next) none lends
same_lending want left next (inr enter) lends = subst (λ (w : Want). LendsNext w left next) enter lends

module _ (e : CallContext) (begin : Counts) (x : TraversalState) (lent : Option BucketWords) (entered : 8 ≤ x.workspace.gate.done) (enters : x.workspace.want ≡ WantEnter) where
  -- what is known behind steps from x on: as long as the gate is right, the reply and the words are those at x
  record Known (y : TraversalState) (left : Option BucketWords) : Type 0 where
    gate : 8 ≤ y.workspace.gate.done
    wants : y.workspace.gate.done ≤ 8 → (y.workspace.want ≡ Nothing) ⊎ (y.workspace.want ≡ WantEnter)
    reply : IsRight y.workspace → reply_of y.workspace ≡ reply_of x.workspace
    words : IsRight y.workspace → y.workspace.gate.done ≤ 8 → lent_words left ≡ lent_words lent

  abbrev KnownAfter : TraversalState → Option BucketWords → State → Type 0
  KnownAfter y left Went = Known y left
  KnownAfter y left Finished = reply_of y.workspace ≡ reply_of x.workspace
  KnownAfter y left Refused = ⊤
  KnownAfter y left (Aborted abort) = ⊤

  module _ (old new : TraversalState) (left next last : Option BucketWords) (now : Counts) (state : State) (k : Known old left) (lends : LendsNext old.workspace.want left next)
      (i : Isolates e old new next last begin now new.workspace.want state) where
    -- a step where the gate is right keeps both
    step_reply : IsRight old.workspace → reply_of new.workspace ≡ reply_of x.workspace
    step_reply right = ap (λ (p : PassState). p.bytes.items) (i.still (omega (arith, k.gate)) right).0.second ∙ k.reply right

    step_words : IsRight old.workspace → old.workspace.gate.done ≤ 8 → lent_words last ≡ lent_words lent
    step_words right to = (i.still (omega (arith, k.gate)) right).1 ∙ ap lent_words (same_lending old.workspace.want left next (k.wants to) lends) ∙ k.words right to

  goes : (old new : TraversalState) (left next last : Option BucketWords) (now : Counts) (state : State) → Known old left → LendsNext old.workspace.want left next →
      Isolates e old new next last begin now new.workspace.want state → KnownAfter new last state
  goes old new left next last now Went k lends i =
      let was : IsRight new.workspace → IsRight old.workspace = λ right. unrefuted _ _ (λ wrong. i.lost wrong refl right) in
      let rises = never_falls e old.workspace new.workspace (IsAborted Went) i.once in
      record {
        gate = omega (arith, k.gate, rises);
        wants = wants_enter e old.workspace new.workspace (IsAborted Went) i.once (omega (arith, k.gate));
        reply = λ right. step_reply old new left next last now Went k lends i (was right);
        words = λ right to. step_words old new left next last now Went k lends i (was right) (omega (arith, to, rises));
      }
  goes old new left next last now Finished k lends i = step_reply old new left next last now Finished k lends i (i.finishes refl)
  goes old new left next last now Refused k lends i = tt
  goes old new left next last now (Aborted abort) k lends i = tt

  known : (wants : List Want) (y : TraversalState) (left : Option BucketWords) (state : State) → StepsFrom LendsNext e begin x lent wants y left state → KnownAfter y left state
  known wants y left state Here = record { gate = entered; wants = λ to. inr enters; reply = λ right. refl; words = λ right to. refl }
  known wants y left state (GoesOn before old new lent_bucket next last now state' steps lends i) = goes old new lent_bucket next last now state (known before old lent_bucket Went steps) lends i

  no_give : x.workspace.want ≡ WantGive → ⊥
  no_give is = let z : ⊥ = cc in z

  no_send : x.workspace.want ≡ WantSend → ⊥
  no_send is = let z : ⊥ = cc in z

  gives : (wants : List Want) (y : TraversalState) (left : Option BucketWords) (state : State) → StepsFrom LendsNext e begin x lent wants y left state → y.workspace.want ≡ WantGive → lent_words left ≡ lent_words lent
  gives wants y left state Here is = absurd (no_give is)
  gives wants y left state (GoesOn before old new lent_bucket next last now state' steps lends i) is =
      let c = closed_by e old.workspace new.workspace (IsAborted state) WantGive 9 (giving new.workspace) (λ f. let z : ⊥ = cc in z) i.once is in
      step_words old new lent_bucket next last now state (known before old lent_bucket Went steps) lends i c.right (omega (arith, c.before))

  sends : (wants : List Want) (y : TraversalState) (left : Option BucketWords) (state : State) → StepsFrom LendsNext e begin x lent wants y left state → y.workspace.want ≡ WantSend → reply_of y.workspace ≡ reply_of x.workspace
  sends wants y left state Here is = absurd (no_send is)
  sends wants y left state (GoesOn before old new lent_bucket next last now state' steps lends i) is =
      let c = closed_by e old.workspace new.workspace (IsAborted state) WantSend 10 (sending new.workspace) (λ f. let z : ⊥ = cc in z) i.once is in
      step_reply old new lent_bucket next last now state (known before old lent_bucket Went steps) lends i c.right

-- where Enter was wanted, it was closed
entered_gate : (e : CallContext) (begin : Counts) (from : TraversalState) (lent : Option BucketWords) → from.workspace.want ≡ Nothing → (wants : List Want) (x : TraversalState) (left : Option BucketWords) (state : State) →
    StepsFrom LendsAny e begin from lent wants x left state → x.workspace.want ≡ WantEnter → 8 ≤ x.workspace.gate.done
entered_gate e begin from lent none wants x left state Here is = absurd (let z : ⊥ = cc in z)
entered_gate e begin from lent none wants x left state (GoesOn before old new lent_bucket next last now state' steps lends i) is =
    let c = closed_by e old.workspace new.workspace (IsAborted state) WantEnter 8 (entering new.workspace) (λ f. let z : ⊥ = cc in z) i.once is in
    omega (arith, c.after)

module _ (e : CallContext) (begin : Counts) (x y : TraversalState) (lent left : Option BucketWords) where
  gate_of : (state : State) → EntersAt e begin x lent y left state → 8 ≤ x.workspace.gate.done
  gate_of state a = entered_gate e begin _ None refl a.wants x lent Went a.steps a.enters

  pub entered_given : (state : State) → EntersAt e begin x lent y left state → y.workspace.want ≡ WantGive → lent_words left ≡ lent_words lent
  entered_given state a = gives e begin x lent (gate_of state a) a.enters a.more y left state a.later

  pub entered_sent : (state : State) → EntersAt e begin x lent y left state → y.workspace.want ≡ WantSend → reply_of y.workspace ≡ reply_of x.workspace
  entered_sent state a = sends e begin x lent (gate_of state a) a.enters a.more y left state a.later

  pub entered_finished : (state : State) → EntersAt e begin x lent y left state → state ≡ Finished → reply_of y.workspace ≡ reply_of x.workspace
  entered_finished state a is = subst (λ (o : State). KnownAfter e begin x lent (gate_of state a) a.enters y left o) is (known e begin x lent (gate_of state a) a.enters a.more y left state a.later)
