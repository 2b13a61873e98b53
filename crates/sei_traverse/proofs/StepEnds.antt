-- How a step ends, from how its act ends.
use Rattle.std.proofs.Common.{◌≡◌, ◌≢◌, ◌⊎◌, inl, inr, ℕ, zero, suc, ◌≤◌, Bool, true, false, List, Option, sym, ap, ◌∙◌, subst, refl, arith}
use Rattle.std.specs.Prelude.{⊤, ◌==◌, ◌&&◌, if◌then◌else◌}
use Rattle.std.proofs.lemmas.Bool.Decides.{nat_tests}
use Rattle.sei_fault.specs.declared.cause.AbortCause.TheVariants.{Gate, Range}
use Rattle.sei_fault.specs.declared.place.Phase.{Phase}
use Rattle.sei_fault.specs.declared.place.Phase.TheVariants.{Guard, Take, First, Restore, Second, Compare, Verify, Enter, Give, Send, Done}
use Rattle.sei_fault.specs.declared.place.Place.{Place}
use Rattle.sei_fault.specs.Phases.{phase_number}
use Rattle.sei_fault.specs.Tree.{honest}
use Rattle.sei_pass.specs.State.{PassState}
use Rattle.sei_log.proofs.Public.{equal_or}
use Rattle.sei_traverse.specs.declared.turned.State.{State}
use Rattle.sei_traverse.specs.declared.turned.State.TheVariants.{Went, Finished, Refused, Aborted}
use Rattle.sei_traverse.specs.declared.turned.Want.TheVariants.{Nothing, Take as WantTake}
use Rattle.sei_traverse.specs.declared.workspace.Ending.{Ending}
use Rattle.sei_traverse.specs.declared.workspace.Ending.TheVariants.{Leads, Refuses, Aborts}
use Rattle.sei_traverse.specs.declared.workspace.Workspace.{Workspace}
use Rattle.sei_traverse.specs.Acts.{Acted, at}
use Rattle.sei_traverse.specs.CallContext.{CallContext}
use Rattle.sei_traverse.specs.FaultInvariant.{Knows, StruckCase, Wanted, IsAborted}
use Rattle.sei_traverse.proofs.ClosesNext.{ClosesNext}
use Rattle.sei_traverse.specs.FaultInvariant.StruckCase.{Right, Lost}
use Rattle.sei_traverse.proofs.ClosesNext.ClosesNext.{Stays, Closes, Lacks}
use Rattle.sei_traverse.specs.Phases.{send_want, closing_want}
use Rattle.sei_traverse.specs.Step.{StepResult, step_result, aborted, is_end, arrival, goes_from, goes_on}
use Rattle.sei_traverse.specs.Struck.{IsAimed, HasCopyOfSome, StruckIn}
use Rattle.sei_traverse.specs.Trusted.{PassesGuard}
use Rattle.sei_traverse.specs.Unstruck.{CleanIn}
use Rattle.sei_traverse.proofs.ActKeeps.{IsLike}
use Rattle.sei_traverse.proofs.Likeness.{send_like, wanted_like}
use Rattle.sei_traverse.proofs.PhaseLaws.{lent_in, LeadsWell, EndsRight, ActsWell}
use Rattle.sei_traverse.proofs.PhaseLaws.LeadsWell.{Onward, ToEnd}

-- Phases by their numbers.

phase_at : ℕ → Phase
phase_at zero = Guard
phase_at (suc zero) = Take
phase_at (suc (suc zero)) = First
phase_at (suc (suc (suc zero))) = Restore
phase_at (suc (suc (suc (suc zero)))) = Second
phase_at (suc (suc (suc (suc (suc zero))))) = Compare
phase_at (suc (suc (suc (suc (suc (suc zero)))))) = Verify
phase_at (suc (suc (suc (suc (suc (suc (suc zero))))))) = Enter
phase_at (suc (suc (suc (suc (suc (suc (suc (suc zero)))))))) = Give
phase_at (suc (suc (suc (suc (suc (suc (suc (suc (suc zero))))))))) = Send
phase_at (suc (suc (suc (suc (suc (suc (suc (suc (suc (suc n)))))))))) = Done

back_to : (p : Phase) → phase_at (phase_number p) ≡ p
unfolding phase_at
back_to Guard = refl
back_to Take = refl
back_to First = refl
back_to Restore = refl
back_to Second = refl
back_to Compare = refl
back_to Verify = refl
back_to Enter = refl
back_to Give = refl
back_to Send = refl
back_to Done = refl

-- phases of the same number are the same
pub same_phase : (p q : Phase) → phase_number p ≡ phase_number q → p ≡ q
same_phase p q h = sym (back_to p) ∙ ap phase_at h ∙ back_to q

pub small_number : (p : Phase) → phase_number p ≤ 10
small_number Guard = omega arith
small_number Take = omega arith
small_number First = omega arith
small_number Restore = omega arith
small_number Second = omega arith
small_number Compare = omega arith
small_number Verify = omega arith
small_number Enter = omega arith
small_number Give = omega arith
small_number Send = omega arith
small_number Done = omega arith

-- two phases are the same, or their numbers differ
pub same_or : (p q : Phase) → (p ≡ q) ⊎ (phase_number p ≢ phase_number q)
same_or p q = elim (equal_or (phase_number p) (phase_number q)) [ inl h ↦ inl (same_phase p q h) | inr n ↦ inr n ]

left_side : (a b : Bool) → (a && b) ≡ true → a ≡ true
left_side true b h = refl
left_side false b h = h

is_ten : (n : ℕ) → (n == 10) ≡ true → n ≡ 10
is_ten n h = grind (arith, nat_tests)

is_eleven : (n : ℕ) → (n == 11) ≡ true → n ≡ 11
is_eleven n h = grind (arith, nat_tests)

-- the end stands in the last phase
pub end_number : (p : Place) → is_end p ≡ true → phase_number p.phase ≡ 10
end_number p h = is_ten (phase_number p.phase) (left_side (phase_number p.phase == 10) (p.index == 1) h)

-- How a step ends.

-- what a workspace wants is so, and is wanted once
pub record WantsWell (e : CallContext) (lent : Option (List ℕ)) (before asked : ℕ) (w : Workspace) : Type 0 where
  pub wanted : Wanted e w lent asked w.want
  pub once : ClosesNext e before w ⊥

-- at so many questions, or fewer, it stands where it may, and what it wants is so
pub record EndsWell (e : CallContext) (Stands : ℕ → Workspace → Option (List ℕ) → State → Type 0) (after : List ℕ → Option (List ℕ)) (before asked : ℕ) (x : StepResult) : Type 0 where
  pub number : ℕ
  pub most : number ≤ asked
  pub state : Stands number x.workspace (after x.words) x.state
  pub wanting : ℕ
  pub wanting_most : wanting ≤ asked
  pub wanted : Wanted e x.workspace (after x.words) wanting x.workspace.want
  pub once : ClosesNext e before x.workspace (IsAborted x.state)

-- where a traversal stands that was struck
abbrev pub StruckStands : CallContext → ℕ → Workspace → Option (List ℕ) → State → Type 0
StruckStands e number w lent Went = StruckCase e w lent number
StruckStands e number w lent Finished = (w.gate.done ≡ 11) × HasCopyOfSome e w number
StruckStands e number w lent Refused = w.gate.done ≤ 1
StruckStands e number w lent (Aborted abort) = ⊤

pub raised : (e : CallContext) (Stands : ℕ → Workspace → Option (List ℕ) → State → Type 0) (after : List ℕ → Option (List ℕ)) (before asked more : ℕ) (x : StepResult) → asked ≤ more →
    EndsWell e Stands after before asked x → EndsWell e Stands after before more x
raised e Stands after before asked more x le h =
    let most : h.number ≤ asked = h.most in
    let wanting_most : h.wanting ≤ asked = h.wanting_most in
    record { number = h.number; most = omega (arith, le, most); state = h.state; wanting = h.wanting; wanting_most = omega (arith, le, wanting_most); wanted = h.wanted; once = h.once }

-- workspaces that are like each other want the same where a phase is closed
closing_same : (phase : Phase) (w v : Workspace) → IsLike w v → closing_want v phase ≡ closing_want w phase
closing_same Guard w v l = refl
closing_same Take w v l = ap WantTake l.wanted
closing_same First w v l = refl
closing_same Restore w v l = refl
closing_same Second w v l = refl
closing_same Compare w v l = refl
closing_same Verify w v l = refl
closing_same Enter w v l = refl
closing_same Give w v l = refl
closing_same Send w v l = ap (λ (q : PassState). send_want q.bytes.items) l.second
closing_same Done w v l = refl

pub once_like : (e : CallContext) (before : ℕ) (w v : Workspace) (E F : Type 0) → IsLike w v → v.gate.done ≡ w.gate.done → v.want ≡ w.want → (E → F) → ClosesNext e before w E → ClosesNext e before v F
once_like e before w v E F l gate want f (Stays at none) = Stays (gate ∙ at) (want ∙ none)
once_like e before w v E F l gate want f (Closes phase is at wants) = Closes phase is (gate ∙ at) (want ∙ wants ∙ sym (closing_same phase w v l))
once_like e before w v E F l gate want f (Lacks is at none lacks ended) = Lacks is (gate ∙ at) (want ∙ none) (subst (λ (n : ℕ). e.space.geometry.buckets ≤ n) (sym l.wanted) lacks) (f ended)

pub nothing_wanted : (e : CallContext) (lent : Option (List ℕ)) (asked : ℕ) (w : Workspace) → w.want ≡ Nothing → Wanted e w lent asked w.want
nothing_wanted e lent asked w none = subst (λ n. Wanted e w lent asked n) (sym none) tt

pub wants_nothing : (e : CallContext) (lent : Option (List ℕ)) (before asked : ℕ) (w : Workspace) → w.want ≡ Nothing → w.gate.done ≡ before → WantsWell e lent before asked w
wants_nothing e lent before asked w none gate = record { wanted = nothing_wanted e lent asked w none; once = Stays gate none }

-- at another place
elsewhere : (w : Workspace) (p : Place) → IsLike w (record w { place = p })
elsewhere w p = record { wanted = refl; notes = refl; second = refl; wire = refl }

wanted_elsewhere : (e : CallContext) (lent : Option (List ℕ)) (asked : ℕ) (w : Workspace) (p : Place) → Wanted e w lent asked w.want → Wanted e (record w { place = p }) lent asked w.want
wanted_elsewhere e lent asked w p h = wanted_like e w (record w { place = p }) (elsewhere w p) lent asked w.want h

once_elsewhere : (e : CallContext) (before : ℕ) (w : Workspace) (p : Place) (E F : Type 0) → (E → F) → ClosesNext e before w E → ClosesNext e before (record w { place = p }) F
once_elsewhere e before w p E F f h = once_like e before w (record w { place = p }) E F (elsewhere w p) refl refl f h

-- a step that ends there, from a workspace that wants well
pub comes_well : (e : CallContext) (Stands : ℕ → Workspace → Option (List ℕ) → State → Type 0) (after : List ℕ → Option (List ℕ)) (before asked number wanting : ℕ) (w : Workspace) (words : List ℕ) (p : Place) (state : State) →
    number ≤ asked → wanting ≤ asked → Stands number (record w { place = p }) (after words) state → WantsWell e (after words) before wanting w →
    EndsWell e Stands after before asked (step_result (record w { place = p }) words state)
comes_well e Stands after before asked number wanting w words p state most wanting_most stands wants = record {
  number = number;
  most = most;
  state = stands;
  wanting = wanting;
  wanting_most = wanting_most;
  wanted = wanted_elsewhere e (after words) wanting w p wants.wanted;
  once = once_elsewhere e before w p ⊥ (IsAborted state) (λ none. absurd none) wants.once;
}

-- at a place that is the end, the step finishes where all phases are closed, or aborts; at each other one it goes on
pub arrives_well : (e : CallContext) (lent : Option (List ℕ)) (asked : ℕ) (w : Workspace) (phase : Phase) (p : Place) (done : ℕ) → (is_end p ≡ false → StruckCase e w lent asked) →
    (is_end p ≡ true → done ≡ 11 → (w.gate.done ≡ 11) × HasCopyOfSome e w asked) → StruckStands e asked w lent (arrival phase p done)
arrives_well e lent asked w phase p done went finished = by_end (is_end p) refl
  where
    by_done : is_end p ≡ true → (b : Bool) → (done == 11) ≡ b → StruckStands e asked w lent (if b then Finished else aborted phase (Gate done))
    by_done h true eleven = finished h (is_eleven done eleven)
    by_done h false eleven = tt

    by_end : (b : Bool) → is_end p ≡ b → StruckStands e asked w lent (if b then (if done == 11 then Finished else aborted phase (Gate done)) else Went)
    by_end true h = by_done h (done == 11) refl
    by_end false h = went h

-- an act that ends well, and an honest answer to where it goes
module _ (e : CallContext) (after : List ℕ → Option (List ℕ)) (p : Phase) (same : (words : List ℕ) → after words ≡ lent_in p words) where
  leads_well : (u : Workspace) (words : List ℕ) (asked : ℕ) (to : Place) → LeadsWell e p u words asked to → StruckStands e asked (record u { place = to }) (after words) (arrival u.place.phase to u.gate.done)
  leads_well u words asked to (Onward gate stands) =
      arrives_well e (after words) asked (record u { place = to }) u.place.phase to u.gate.done
      (λ h. Right gate (subst (λ (lent : Option (List ℕ)). StruckIn e (record u { place = to }) lent asked to.phase) (sym (same words)) stands))
      (λ h eleven. let ten : phase_number to.phase ≡ 10 = end_number to h in absurd (omega (arith, ten, eleven, gate)))
  leads_well u words asked to (ToEnd last is gate sends) =
      arrives_well e (after words) asked (record u { place = to }) u.place.phase to u.gate.done
      (λ h. let no : true ≡ false = subst (λ (r : Place). is_end r ≡ false) is h in let z : ⊥ = cc in absurd z)
      (λ h eleven. (gate, send_like e u (record u { place = to }) (elsewhere u to) asked sends))

  ending_well : (u : Workspace) (words : List ℕ) (asked : ℕ) (ending : Ending) → EndsRight e p u words asked ending → Wanted e u (after words) asked u.want →
      ClosesNext e (phase_number p) u (ending ≡ Aborts (Range u.wanted)) → EndsWell e (StruckStands e) after (phase_number p) asked (honest (goes_from u words ending))
  ending_well u words asked (Leads to) h wanted once = record {
    number = asked;
    most = omega arith;
    state = leads_well u words asked to h;
    wanting = asked;
    wanting_most = omega arith;
    wanted = wanted_elsewhere e (after words) asked u to wanted;
    once = once_elsewhere e (phase_number p) u to (Leads to ≡ Aborts (Range u.wanted)) (IsAborted (arrival u.place.phase to u.gate.done)) (λ clash. let z : ⊥ = cc in absurd z) once;
  }
  ending_well u words asked Refuses h wanted once =
      let gate : u.gate.done ≡ 0 = h.1 in
      record {
        number = asked;
        most = omega arith;
        state = omega (arith, gate);
        wanting = asked;
        wanting_most = omega arith;
        wanted = wanted;
        once = once_elsewhere e (phase_number p) u u.place (Refuses ≡ Aborts (Range u.wanted)) ⊥ (λ clash. let z : ⊥ = cc in z) once;
      }
  ending_well u words asked (Aborts cause) h wanted once = record {
    number = asked;
    most = omega arith;
    state = tt;
    wanting = asked;
    wanting_most = omega arith;
    wanted = wanted;
    once = once_elsewhere e (phase_number p) u u.place (Aborts cause ≡ Aborts (Range u.wanted)) ⊤ (λ same. tt) once;
  }

  pub act_well : (asked : ℕ) (y : Acted) → ActsWell e p asked y → EndsWell e (StruckStands e) after (phase_number p) asked (honest (goes_on y))
  act_well asked y h = ending_well y.workspace y.words asked y.ending h.ends (subst (λ (lent : Option (List ℕ)). Wanted e y.workspace lent asked y.workspace.want) (sym (same y.words)) h.wants) h.once

-- What is known behind Guard.

pub knows_fit : (e : CallContext) (w : Workspace) (p : Phase) → (p ≡ Guard → ⊥) → Knows e w p → PassesGuard e
knows_fit e w Guard n k = absurd (n refl)
knows_fit e w Take n k = k
knows_fit e w First n k = k.fit
knows_fit e w Restore n k = k.fit
knows_fit e w Second n k = k.fit
knows_fit e w Compare n k = k.fit
knows_fit e w Verify n k = k.fit
knows_fit e w Enter n k = k.fit
knows_fit e w Give n k = k.fit
knows_fit e w Send n k = k.fit
knows_fit e w Done n k = k.fit

pub aimed_knows : (e : CallContext) (w : Workspace) (p : Phase) → IsAimed e w → Knows e w p
aimed_knows e w Guard a = tt
aimed_knows e w Take a = a.fit
aimed_knows e w First a = a
aimed_knows e w Restore a = a
aimed_knows e w Second a = a
aimed_knows e w Compare a = a
aimed_knows e w Verify a = a
aimed_knows e w Enter a = a
aimed_knows e w Give a = a
aimed_knows e w Send a = a
aimed_knows e w Done a = a

-- the gate of a clean traversal, and what it has sealed
pub clean_gate : (e : CallContext) (w : Workspace) (lent : Option (List ℕ)) (steps asked : ℕ) (p : Phase) → CleanIn e w lent steps asked p → w.gate.done ≡ phase_number p
clean_gate e w lent steps asked Guard c = c.is.gate
clean_gate e w lent steps asked Take c = c.is.gate
clean_gate e w lent steps asked First c = c.is.gate
clean_gate e w lent steps asked Restore c = c.is.gate
clean_gate e w lent steps asked Second c = c.is.gate
clean_gate e w lent steps asked Compare c = c.is.gate
clean_gate e w lent steps asked Verify c = c.is.gate
clean_gate e w lent steps asked Enter c = c.is.gate
clean_gate e w lent steps asked Give c = c.is.gate
clean_gate e w lent steps asked Send c = c.is.gate
clean_gate e w lent steps asked Done c = c.is.gate

pub clean_sealed : (e : CallContext) (w : Workspace) (lent : Option (List ℕ)) (steps asked : ℕ) (p : Phase) → CleanIn e w lent steps asked p → w.sealed ≡ e.sealed
clean_sealed e w lent steps asked Guard c = c.is.sealed
clean_sealed e w lent steps asked Take c = c.is.sealed
clean_sealed e w lent steps asked First c = c.is.sealed
clean_sealed e w lent steps asked Restore c = c.is.sealed
clean_sealed e w lent steps asked Second c = c.is.sealed
clean_sealed e w lent steps asked Compare c = c.is.sealed
clean_sealed e w lent steps asked Verify c = c.is.sealed
clean_sealed e w lent steps asked Enter c = c.is.sealed
clean_sealed e w lent steps asked Give c = c.is.sealed
clean_sealed e w lent steps asked Send c = c.is.sealed
clean_sealed e w lent steps asked Done c = c.is.sealed

-- A clean traversal that a strike moves to any place.

pub moves_well : (e : CallContext) (w : Workspace) (lent : Option (List ℕ)) (steps asked : ℕ) (p : Phase) → (p ≡ Guard → ⊥) →
    ((index : ℕ) → StruckIn e (record w { place = at p index }) lent asked p) → CleanIn e w lent steps asked p → Knows e w p →
    (phase : Phase) (to : Place) → StruckStands e asked (record w { place = to }) lent (arrival phase to w.gate.done)
moves_well e w lent steps asked p behind moved clean knows phase to =
    arrives_well e lent asked (record w { place = to }) phase to w.gate.done (λ h. by_phase (same_or to.phase p))
    (λ h eleven. let small : phase_number p ≤ 10 = small_number p in absurd (omega (arith, small, eleven, gate)))
  where
    gate : w.gate.done ≡ phase_number p
    gate = clean_gate e w lent steps asked p clean

    by_phase : (to.phase ≡ p) ⊎ (phase_number to.phase ≢ phase_number p) → StruckCase e (record w { place = to }) lent asked
    by_phase (inl h) = Right (gate ∙ ap phase_number (sym h)) (subst (λ (q : Phase). StruckIn e (record w { place = at q to.index }) lent asked q) (sym h) (moved to.index))
    by_phase (inr n) = Lost (λ same. n (sym same ∙ gate)) (λ guard. knows_fit e w p behind knows)

-- behind the last phase it is lost at each place but the end
pub moves_at_end : (e : CallContext) (w : Workspace) (lent : Option (List ℕ)) (asked : ℕ) → PassesGuard e → w.gate.done ≡ 11 → HasCopyOfSome e w asked →
    (phase : Phase) (to : Place) → StruckStands e asked (record w { place = to }) lent (arrival phase to w.gate.done)
moves_at_end e w lent asked fit gate sends phase to =
    arrives_well e lent asked (record w { place = to }) phase to w.gate.done
    (λ h. Lost (λ same. let small : phase_number to.phase ≤ 10 = small_number to.phase in omega (arith, small, same, gate)) (λ guard. fit))
    (λ h eleven. (gate, send_like e w (record w { place = to }) (elsewhere w to) asked sends))

-- An act that closes no phase, at a gate that is not right.

abbrev pub StaysIn : Phase → Ending → Type 0
StaysIn phase (Leads to) = to.phase ≡ phase
StaysIn phase Refuses = ⊥
StaysIn phase (Aborts cause) = ⊤

-- at a place where the gate is not right a traversal stays lost; in the last phase it aborts
pub lost_well : (e : CallContext) (after : List ℕ → Option (List ℕ)) (before asked : ℕ) (p : Phase) → (p ≡ Guard → PassesGuard e) → (u : Workspace) (words : List ℕ) (ending : Ending) →
    StaysIn p ending → (p ≡ Done → (to : Place) → ending ≡ Leads to → ⊥) → u.gate.done ≢ phase_number p → WantsWell e (after words) before asked u →
    EndsWell e (StruckStands e) after before asked (honest (goes_from u words ending))
lost_well e after before asked p fit u words (Leads to) stays never gate wants =
    comes_well e (StruckStands e) after before asked asked asked u words to (arrival u.place.phase to u.gate.done) (omega arith) (omega arith)
    (arrives_well e (after words) asked (record u { place = to }) u.place.phase to u.gate.done
    (λ h. Lost (λ same. gate (same ∙ ap phase_number stays)) (λ guard. fit (sym stays ∙ guard)))
    (λ h eleven. absurd (never (same_phase p Done (ap phase_number (sym stays) ∙ end_number to h)) to refl))) wants
lost_well e after before asked p fit u words Refuses stays never gate wants = absurd stays
lost_well e after before asked p fit u words (Aborts cause) stays never gate wants =
    comes_well e (StruckStands e) after before asked asked asked u words u.place (aborted u.place.phase cause) (omega arith) (omega arith) tt wants
