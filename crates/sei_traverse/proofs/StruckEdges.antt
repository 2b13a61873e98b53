-- The acts of Guard, Take, Enter, Give, Send and Done under one strike, and behind one.
use Rattle.std.proofs.Common.{◌≡◌, ◌≢◌, ℕ, ◌+◌, ◌^◌, ◌<◌, ◌≤◌, Bool, true, false, List, [], ◌∷◌, Option, Some, None, ap, sym, ◌∙◌, arith, refl, subst}
use Rattle.std.specs.Prelude.{if◌then◌else◌, nat_lt, ◌==◌}
use Rattle.std.proofs.lemmas.Bool.{ltb-true, ltb-false}
use Rattle.sei_fault.specs.declared.cause.AbortCause.{AbortCause}
use Rattle.sei_fault.specs.declared.cause.AbortCause.TheVariants.{Gate, Range}
use Rattle.sei_fault.specs.declared.place.Phase.{Phase}
use Rattle.sei_fault.specs.declared.place.Phase.TheVariants.{Guard, Take, First, Enter, Give, Send, Done}
use Rattle.sei_fault.specs.declared.place.Place.{Place}
use Rattle.sei_fault.specs.Phases.{phase_number}
use Rattle.sei_fault.specs.StruckRuns.{StruckRun}
use Rattle.sei_fault.specs.Tree.{Tree, Always, honest}
use Rattle.sei_fault.specs.Weights.{weighed}
use Rattle.sei_fault.proofs.Public.{always_honest, always_struck}
use Rattle.sei_gate.specs.Closing.{risen}
use Rattle.sei_log.specs.declared.notes.Notes.{Notes}
use Rattle.sei_pass.specs.State.{PassState}
use Rattle.sei_stmt.specs.Machine.{Machine}
use Rattle.sei_traverse.specs.declared.turned.Want.{Want}
use Rattle.sei_traverse.specs.declared.turned.Want.TheVariants.{Nothing, Take as WantTake, Enter as WantEnter, Give as WantGive}
use Rattle.sei_traverse.specs.declared.workspace.Ending.TheVariants.{Leads, Refuses, Aborts}
use Rattle.sei_traverse.specs.declared.workspace.Workspace.{Workspace}
use Rattle.sei_traverse.specs.Acts.{Acted, acted, ends, at, closed_to, closing_then, closes}
use Rattle.sei_traverse.specs.CallContext.{CallContext, Follows}
use Rattle.sei_traverse.specs.FaultInvariant.{Knows, Wanted}
use Rattle.sei_traverse.proofs.ClosesNext.ClosesNext.{Stays, Closes, Lacks}
use Rattle.sei_traverse.specs.Phases.{reply_of, guard_tree, guard_call, take_tree, take_wanted, store_wanted, send_want, closing_want, closing_place, closing_tree}
use Rattle.sei_traverse.specs.Given.{Given}
use Rattle.sei_traverse.specs.Step.{act_in}
use Rattle.sei_traverse.specs.Struck.{IsAimed, IsHonestResult, StruckInTake, HasCopy, HasCopyOfSome, OnLent, StruckIn}
use Rattle.sei_traverse.specs.Trusted.{IsTrusted}
use Rattle.sei_traverse.specs.Unstruck.{InGuard, InTake, InBoth, HasOutput, CleanIn}
use Rattle.sei_traverse.proofs.CleanAnswers.{answers_whole}
use Rattle.sei_traverse.proofs.Closes.{closed_workspace}
use Rattle.sei_traverse.proofs.PhaseLaws.{lent_in, given_for, LeadsWell, ActsWell, PhaseLaws}
use Rattle.sei_traverse.proofs.PhaseLaws.LeadsWell.{Onward, ToEnd}

-- What holds of a workspace holds of another one with the same parts, behind more questions.

pub answers_at : (e : CallContext) (w v : Workspace) (words : List ℕ) (asked more : ℕ) → v.wanted ≡ w.wanted → v.notes ≡ w.notes → v.second ≡ w.second → asked ≤ more → IsHonestResult e w words asked → IsHonestResult e v words more
answers_at e w v words asked more wanted notes second le a = record {
  aimed = record { fit = a.aimed.fit; wanted = wanted ∙ a.aimed.wanted };
  time = a.time;
  slot = a.slot;
  end = a.end;
  made = a.made;
  noted = ap (λ (n : Notes). n.now) notes ∙ a.noted;
  small = a.small;
  told = a.told;
  run = a.run;
  words_are = a.words_are;
  reply = ap (λ (p : PassState). p.bytes.items) second ∙ a.reply;
  questions = omega (arith, a.questions, le);
}

pub enter_at : (e : CallContext) (w v : Workspace) (words : List ℕ) (asked more : ℕ) → v.wanted ≡ w.wanted → v.notes ≡ w.notes → v.second ≡ w.second → v.wire ≡ w.wire → asked ≤ more →
    HasCopy e w words asked → HasCopy e v words more
enter_at e w v words asked more wanted notes second wire le s = record {
  answers = answers_at e w v words asked more wanted notes second le s.answers;
  wire = ap (λ k. k.items) wire ∙ s.wire ∙ sym (ap (λ (p : PassState). p.bytes.items) second);
}

send_at : (e : CallContext) (w v : Workspace) (asked more : ℕ) → v.wanted ≡ w.wanted → v.notes ≡ w.notes → v.second ≡ w.second → v.wire ≡ w.wire → asked ≤ more → HasCopyOfSome e w asked → HasCopyOfSome e v more
send_at e w v asked more wanted notes second wire le s = record { words = s.words; answered = enter_at e w v s.words asked more wanted notes second wire le s.answered }

pub on_map : (P Q : List ℕ → Type 0) (lent : Option (List ℕ)) → ((words : List ℕ) → P words → Q words) → OnLent lent P → OnLent lent Q
on_map P Q None f h = h
on_map P Q (Some words) f h = f words h

pub not_less : (asked : ℕ) → asked ≤ asked
not_less asked = omega arith

pub no_less : (asked n : ℕ) → asked ≤ asked + n
no_less asked n = omega arith

-- Acts that end well.

-- one that aborts
pub aborts_well : (e : CallContext) (phase : Phase) (asked : ℕ) (w : Workspace) (words : List ℕ) (cause : AbortCause) → w.want ≡ Nothing → w.gate.done ≡ phase_number phase →
    ActsWell e phase asked (acted w words (Aborts cause))
aborts_well e phase asked w words cause nothing gate = record {
  wants = subst (λ (x : Want). Wanted e w (lent_in phase words) asked x) (sym nothing) tt;
  once = Stays gate nothing;
  ends = tt;
}

-- one that leads on, closes no phase, and wants nothing
pub leads_well : (e : CallContext) (phase : Phase) (asked : ℕ) (w : Workspace) (words : List ℕ) (to : Place) → w.want ≡ Nothing → w.gate.done ≡ phase_number phase →
    LeadsWell e phase w words asked to → ActsWell e phase asked (acted w words (Leads to))
leads_well e phase asked w words to nothing gate leads = record {
  wants = subst (λ (x : Want). Wanted e w (lent_in phase words) asked x) (sym nothing) tt;
  once = Stays gate nothing;
  ends = leads;
}

-- one that closes its phase, and leads on
pub closes_well : (e : CallContext) (phase : Phase) (asked : ℕ) (w : Workspace) (words : List ℕ) (to : Place) → w.gate.done ≡ phase_number phase + 1 → w.want ≡ closing_want w phase →
    Wanted e w (lent_in phase words) asked w.want → LeadsWell e phase w words asked to → ActsWell e phase asked (acted w words (Leads to))
closes_well e phase asked w words to gate want wanted leads = record { wants = wanted; once = Closes phase refl gate want; ends = leads }

-- what holds behind either answer of its test always holds of an act that closes a phase
pub always_closes : (P : Acted → Type 0) (phase : Phase) (w : Workspace) (words : List ℕ) (on : Workspace → Tree Acted) → Always P (on (closed_workspace w)) → P (acted w words (Aborts (Gate w.gate.done))) →
    Always P (closing_then phase w words on)
always_closes P phase w words on well aborted =
    λ b. elim b as (λ (v : Bool). Always P (closed_to w words on (v, if v then risen w.gate.done else w.gate.done))) [ true ↦ well | false ↦ aborted ]

-- Guard

module _ (e : CallContext) (g : Given) (w : Workspace) (words : List ℕ) (steps asked more : ℕ) (nothing : w.want ≡ Nothing) (i : InGuard e w steps asked) where
  guard_refuses : ActsWell e Guard more (acted w words Refuses)
  guard_refuses = record {
    wants = subst (λ (x : Want). Wanted e w None more x) (sym nothing) tt;
    once = Stays i.is.gate nothing;
    ends = (refl, i.is.gate);
  }

  guard_leads : ActsWell e Guard more (acted (record (closed_workspace w) { want = Nothing }) words (Leads (at Take 0)))
  guard_leads = closes_well e Guard more (record (closed_workspace w) { want = Nothing }) words (at Take 0) (ap risen i.is.gate) refl tt
      (Onward (ap risen i.is.gate) (record {
        first = record { first = i.first.first; first_log = i.first.first_log; notes = i.first.notes };
        second = record { second = i.second.second; second_log = i.second.second_log };
      }))

  guard_closes : Always (ActsWell e Guard more) (closes Guard w words Nothing (at Take 0))
  guard_closes = always_closes (ActsWell e Guard more) Guard w words (λ v. ends (record v { want = Nothing }) words (Leads (at Take 0))) guard_leads
      (aborts_well e Guard more w words (Gate w.gate.done) nothing i.is.gate)

  guard_calls : Always (ActsWell e Guard more) (guard_call g w words)
  guard_calls = λ b. elim b as (λ (v : Bool). Always (ActsWell e Guard more) (if v then closes Guard w words Nothing (at Take 0) else ends w words Refuses)) [ true ↦ guard_closes | false ↦ guard_refuses ]

  guard_always : Always (ActsWell e Guard more) (guard_tree g w words)
  guard_always = λ b. elim b as (λ (v : Bool). Always (ActsWell e Guard more) (if v then guard_call g w words else ends w words Refuses)) [ true ↦ guard_calls | false ↦ guard_refuses ]

-- whatever a strike makes of a test of Guard, it refuses, aborts, or leads to Take
pub guard_struck : (e : CallContext) (now : ℕ) → now < 2 ^ 64 → Follows e.clock now → (w : Workspace) (words : List ℕ) (steps asked n : ℕ) (y : Acted) → w.want ≡ Nothing →
    CleanIn e w (lent_in Guard words) steps asked Guard → Knows e w Guard →
    StruckRun (act_in (given_for e Guard w.wanted) now Guard w.place.index w words) y n → ActsWell e Guard (asked + n) y
guard_struck e now small told w words steps asked n y nothing i knows run =
    always_struck (ActsWell e Guard (asked + n)) (guard_tree (given_for e Guard w.wanted) w words) y n (guard_always e (given_for e Guard w.wanted) w words steps asked (asked + n) nothing i) run

-- Take

take_at : (e : CallContext) (w v : Workspace) → v.first ≡ w.first → v.first_log ≡ w.first_log → v.notes ≡ w.notes → v.second ≡ w.second → v.second_log ≡ w.second_log → StruckInTake e w → StruckInTake e v
take_at e w v first first_log notes second second_log s = record {
  first = record { first = first ∙ s.first.first; first_log = first_log ∙ s.first.first_log; notes = notes ∙ s.first.notes };
  second = record { second = second ∙ s.second.second; second_log = second_log ∙ s.second.second_log };
}

module _ (e : CallContext) (g : Given) (space : g.space ≡ e.space) (w : Workspace) (words : List ℕ) (more : ℕ) (nothing : w.want ≡ Nothing) (gate : w.gate.done ≡ 1) (s : StruckInTake e w) where
  -- whatever bucket is stored
  take_stores : (wanted : ℕ) → ActsWell e Take more (acted (record w { wanted = wanted }) words (Leads (at Take 1)))
  take_stores wanted = leads_well e Take more (record w { wanted = wanted }) words (at Take 1) nothing gate
      (Onward gate (take_at e w (record w { wanted = wanted; place = at Take 1 }) refl refl refl refl refl s))

  -- a wanted bucket is there
  take_leads : nat_lt w.wanted g.space.geometry.buckets ≡ true → ActsWell e Take more (acted (record (closed_workspace w) { want = WantTake w.wanted }) words (Leads (at First 0)))
  take_leads below =
      closes_well e Take more (record (closed_workspace w) { want = WantTake w.wanted }) words (at First 0) (ap risen gate) refl
      (refl, subst (λ x. w.wanted < x.geometry.buckets) space (ltb-true w.wanted g.space.geometry.buckets below))
      (Onward (ap risen gate) (record {
        space = ap (λ (p : PassState). p.space) s.first.first;
        second = record { second = s.second.second; second_log = s.second.second_log };
        stands = record { first = s.first.first; first_log = s.first.first_log; notes = s.first.notes };
      }))

  -- one that is not ends it
  take_lacks : nat_lt w.wanted g.space.geometry.buckets ≡ false → ActsWell e Take more (acted (closed_workspace w) words (Aborts (Range w.wanted)))
  take_lacks past = record {
    wants = subst (λ (x : Want). Wanted e (closed_workspace w) None more x) (sym nothing) tt;
    once = Lacks refl (ap risen gate) nothing (subst (λ x. x.geometry.buckets ≤ w.wanted) space (ltb-false w.wanted g.space.geometry.buckets past)) refl;
    ends = tt;
  }

  take_tested : (b : Bool) → nat_lt w.wanted g.space.geometry.buckets ≡ b →
      Always (ActsWell e Take more) (if b then ends (record (closed_workspace w) { want = WantTake w.wanted }) words (Leads (at First 0)) else ends (closed_workspace w) words (Aborts (Range w.wanted)))
  take_tested true below = take_leads below
  take_tested false below = take_lacks below

  take_closes : Always (ActsWell e Take more) (closing_then Take w words (take_wanted g.space.geometry words))
  take_closes = always_closes (ActsWell e Take more) Take w words (take_wanted g.space.geometry words) (take_tested (nat_lt w.wanted g.space.geometry.buckets) refl)
      (aborts_well e Take more w words (Gate w.gate.done) nothing gate)

  take_by : (b : Bool) → Always (ActsWell e Take more) (if b then store_wanted g w words else closing_then Take w words (take_wanted g.space.geometry words))
  take_by true = λ bucket wanted. take_stores wanted
  take_by false = take_closes

  take_always : (index : ℕ) → Always (ActsWell e Take more) (take_tree g index w words)
  take_always index = take_by (index == 0)

take_clean : (e : CallContext) (w : Workspace) (steps asked : ℕ) → InTake e w steps asked → StruckInTake e w
take_clean e w steps asked i = record { first = i.first; second = i.second }

pub take_laws : (e : CallContext) → IsTrusted e → PhaseLaws e Take
take_laws e trusted = record {
  moved = λ w lent steps asked index i knows. take_at e w (record w { place = at Take index }) refl refl refl refl refl (take_clean e w steps asked i);
  struck = λ now small told w words steps asked n y nothing i knows run.
      always_struck (ActsWell e Take (asked + n)) (take_tree (given_for e Take w.wanted) w.place.index w words) y n
      (take_always e (given_for e Take w.wanted) refl w words (asked + n) nothing i.is.gate (take_clean e w steps asked i) w.place.index) run;
  honest_on = λ now small told w words asked nothing gate sealed s.
      always_honest (ActsWell e Take (asked + weighed (take_tree (given_for e Take w.wanted) w.place.index w words))) (take_tree (given_for e Take w.wanted) w.place.index w words)
      (take_always e (given_for e Take w.wanted) refl w words (asked + weighed (take_tree (given_for e Take w.wanted) w.place.index w words)) nothing gate s w.place.index);
}

-- Where both passes were honest

pub both_answers : (e : CallContext) → IsTrusted e → (w : Workspace) (lent : Option (List ℕ)) (time made : ℕ) (end : Machine) (asked : ℕ) → IsAimed e w → InBoth e w lent time made end asked →
    OnLent lent (λ words. IsHonestResult e w words asked)
both_answers e trusted w lent time made end asked aimed both =
    subst (λ (o : Option (List ℕ)). OnLent o (λ words. IsHonestResult e w words asked)) (sym both.words)
    (answers_whole e time made end both.whole trusted w end.words asked aimed both.first.notes refl
    (ap (λ (p : PassState). p.bytes.items) both.second.second) (omega (arith, both.questions)))

both_enter : (e : CallContext) → IsTrusted e → (w : Workspace) (lent : Option (List ℕ)) (time made : ℕ) (end : Machine) (asked : ℕ) → IsAimed e w → InBoth e w lent time made end asked → w.wire.items ≡ end.bytes.items →
    OnLent lent (λ words. HasCopy e w words asked)
both_enter e trusted w lent time made end asked aimed both copy =
    on_map (λ words. IsHonestResult e w words asked) (λ words. HasCopy e w words asked) lent
    (λ words a. record { answers = a; wire = copy ∙ sym (ap (λ (p : PassState). p.bytes.items) both.second.second) })
    (both_answers e trusted w lent time made end asked aimed both)

-- in Send and Done the words are those of the end
pub answers_answered : (e : CallContext) → IsTrusted e → (w : Workspace) (time made : ℕ) (end : Machine) (asked : ℕ) → IsAimed e w → HasOutput e w time made end asked → HasCopyOfSome e w asked
answers_answered e trusted w time made end asked aimed i =
    let reply : reply_of w ≡ end.bytes.items = ap (λ (p : PassState). p.bytes.items) i.second.second in
    record {
      words = end.words;
      answered = record {
        answers = answers_whole e time made end i.whole trusted w end.words asked aimed i.notes refl reply (omega (arith, i.questions));
        wire = i.copy ∙ sym reply;
      };
    }

-- Enter, Give, Send and Done

-- closing a phase rises the number of closed ones by one
closed_one : (phase : Phase) (done : ℕ) → done ≡ phase_number phase → risen done ≡ phase_number phase + 1
closed_one phase done gate = ap risen gate ∙ by_phase phase
  where
    by_phase : (p : Phase) → risen (phase_number p) ≡ phase_number p + 1
    by_phase Guard = refl
    by_phase p = refl

-- what is wanted does not look at the gate and the want
same_want : (w : Workspace) (done : ℕ) (want : Want) (phase : Phase) → closing_want w phase ≡ closing_want (record w { gate = record { done = done }; want = want }) phase
same_want w done want Take = refl
same_want w done want Enter = refl
same_want w done want Give = refl
same_want w done want Send = refl
same_want w done want phase = refl

-- the workspace that such a phase leaves
abbrev closed_with : Workspace → Phase → Workspace
closed_with w phase = record (closed_workspace w) { want = closing_want w phase }

-- one that only closes its phase ends well if what it wants is so, and if what it leads to is
closing_always : (e : CallContext) (phase : Phase) (w : Workspace) (words : List ℕ) (more : ℕ) → w.want ≡ Nothing → w.gate.done ≡ phase_number phase →
    Wanted e (closed_with w phase) (lent_in phase words) more (closing_want w phase) → LeadsWell e phase (closed_with w phase) words more (closing_place phase) →
    Always (ActsWell e phase more) (closing_tree phase w words)
closing_always e phase w words more nothing gate wanted leads =
    always_closes (ActsWell e phase more) phase w words (λ v. ends (record v { want = closing_want w phase }) words (Leads (closing_place phase)))
    (closes_well e phase more (closed_with w phase) words (closing_place phase) (closed_one phase w.gate.done gate) (same_want w (risen w.gate.done) (closing_want w phase) phase) wanted leads)
    (aborts_well e phase more w words (Gate w.gate.done) nothing gate)

-- the laws of such a phase
closing_laws : (e : CallContext) (phase : Phase) → ((g : Given) (now index : ℕ) (w : Workspace) (words : List ℕ) → act_in g now phase index w words ≡ closing_tree phase w words) →
    ((w : Workspace) (lent : Option (List ℕ)) (steps asked : ℕ) → CleanIn e w lent steps asked phase → w.gate.done ≡ phase_number phase) →
    ((w : Workspace) (lent : Option (List ℕ)) (steps asked : ℕ) → CleanIn e w lent steps asked phase → Knows e w phase → StruckIn e w lent asked phase) →
    ((w : Workspace) (lent : Option (List ℕ)) (asked index : ℕ) → StruckIn e w lent asked phase → StruckIn e (record w { place = at phase index }) lent asked phase) →
    ((w : Workspace) (words : List ℕ) (asked more : ℕ) → asked ≤ more → w.want ≡ Nothing → w.gate.done ≡ phase_number phase → StruckIn e w (lent_in phase words) asked phase → Always (ActsWell e phase more) (closing_tree phase w words)) →
    PhaseLaws e phase
closing_laws e phase is gate stands moves always = record {
  moved = λ w lent steps asked index i knows. moves w lent asked index (stands w lent steps asked i knows);
  struck = λ now small told w words steps asked n y nothing i knows run.
      always_struck (ActsWell e phase (asked + n)) (closing_tree phase w words) y n
      (always w words asked (asked + n) (no_less asked n) nothing (gate w (lent_in phase words) steps asked i) (stands w (lent_in phase words) steps asked i knows))
      (subst (λ (t : Tree Acted). StruckRun t y n) (is (given_for e phase w.wanted) now w.place.index w words) run);
  honest_on = λ now small told w words asked nothing gate sealed s.
      let more : ℕ = asked + weighed (closing_tree phase w words) in
      subst (λ (t : Tree Acted). ActsWell e phase (asked + weighed t) (honest t)) (sym (is (given_for e phase w.wanted) now w.place.index w words))
      (always_honest (ActsWell e phase more) (closing_tree phase w words) (always w words asked more (no_less asked (weighed (closing_tree phase w words))) nothing gate s));
}

enter_always : (e : CallContext) (w : Workspace) (words : List ℕ) (asked more : ℕ) → asked ≤ more → w.want ≡ Nothing → w.gate.done ≡ 7 → HasCopy e w words asked →
    Always (ActsWell e Enter more) (closing_tree Enter w words)
enter_always e w words asked more le nothing gate s =
    let v : Workspace = closed_with w Enter in
    closing_always e Enter w words more nothing gate (answers_at e w v words asked more refl refl refl le s.answers)
    (Onward (ap risen gate) (enter_at e w (record v { place = at Give 0 }) words asked more refl refl refl refl le s))

give_always : (e : CallContext) (w : Workspace) (words : List ℕ) (asked more : ℕ) → asked ≤ more → w.want ≡ Nothing → w.gate.done ≡ 8 → HasCopy e w words asked →
    Always (ActsWell e Give more) (closing_tree Give w words)
give_always e w words asked more le nothing gate s =
    let v : Workspace = closed_with w Give in
    closing_always e Give w words more nothing gate (answers_at e w v words asked more refl refl refl le s.answers)
    (Onward (ap risen gate) (record { words = words; answered = enter_at e w (record v { place = at Send 0 }) words asked more refl refl refl refl le s }))

not_empty : (byte : ℕ) (bytes reply : List ℕ) → reply ≡ byte ∷ bytes → reply ≢ []
not_empty byte bytes reply e f = let z : ⊥ = cc in z

-- a reply that is empty is not wanted to be sent
send_wants : (e : CallContext) (v : Workspace) (asked : ℕ) (reply : List ℕ) → reply_of v ≡ reply → HasCopyOfSome e v asked → Wanted e v None asked (send_want reply)
send_wants e v asked [] is s = tt
send_wants e v asked (byte ∷ bytes) is s = (s, not_empty byte bytes (reply_of v) is)

send_always : (e : CallContext) (w : Workspace) (words : List ℕ) (asked more : ℕ) → asked ≤ more → w.want ≡ Nothing → w.gate.done ≡ 9 → HasCopyOfSome e w asked →
    Always (ActsWell e Send more) (closing_tree Send w words)
send_always e w words asked more le nothing gate s =
    let v : Workspace = closed_with w Send in
    closing_always e Send w words more nothing gate (send_wants e v more (reply_of w) refl (send_at e w v asked more refl refl refl refl le s))
    (Onward (ap risen gate) (send_at e w (record v { place = at Done 0 }) asked more refl refl refl refl le s))

done_always : (e : CallContext) (w : Workspace) (words : List ℕ) (asked more : ℕ) → asked ≤ more → w.want ≡ Nothing → w.gate.done ≡ 10 → HasCopyOfSome e w asked →
    Always (ActsWell e Done more) (closing_tree Done w words)
done_always e w words asked more le nothing gate s =
    let v : Workspace = closed_with w Done in
    closing_always e Done w words more nothing gate tt (ToEnd refl refl (ap risen gate) (send_at e w v asked more refl refl refl refl le s))

-- in Enter and Give the copy is that of the lent words
moves_copy : (e : CallContext) (phase : Phase) (w : Workspace) (lent : Option (List ℕ)) (asked index : ℕ) → OnLent lent (λ words. HasCopy e w words asked) → OnLent lent (λ words. HasCopy e (record w { place = at phase index }) words asked)
moves_copy e phase w lent asked index =
    on_map (λ words. HasCopy e w words asked) (λ words. HasCopy e (record w { place = at phase index }) words asked) lent
    (λ words s. enter_at e w (record w { place = at phase index }) words asked asked refl refl refl refl (not_less asked) s)

pub enter_laws : (e : CallContext) → IsTrusted e → PhaseLaws e Enter
enter_laws e trusted = closing_laws e Enter (λ g now index w words. refl) (λ w lent steps asked i. i.is.gate)
    (λ w lent steps asked i knows. both_enter e trusted w lent i.time i.made i.end asked knows i.both i.copy) (moves_copy e Enter) (enter_always e)

pub give_laws : (e : CallContext) → IsTrusted e → PhaseLaws e Give
give_laws e trusted = closing_laws e Give (λ g now index w words. refl) (λ w lent steps asked i. i.is.gate)
    (λ w lent steps asked i knows. both_enter e trusted w lent i.time i.made i.end asked knows i.both i.copy) (moves_copy e Give) (give_always e)

pub send_laws : (e : CallContext) → IsTrusted e → PhaseLaws e Send
send_laws e trusted = closing_laws e Send (λ g now index w words. refl) (λ w lent steps asked i. i.is.gate)
    (λ w lent steps asked i knows. answers_answered e trusted w i.time i.made i.end asked knows i.answered)
    (λ w lent asked index. send_at e w (record w { place = at Send index }) asked asked refl refl refl refl (not_less asked)) (send_always e)

pub done_laws : (e : CallContext) → IsTrusted e → PhaseLaws e Done
done_laws e trusted = closing_laws e Done (λ g now index w words. refl) (λ w lent steps asked i. i.is.gate)
    (λ w lent steps asked i knows. answers_answered e trusted w i.time i.made i.end asked knows i.answered)
    (λ w lent asked index. send_at e w (record w { place = at Done index }) asked asked refl refl refl refl (not_less asked)) (done_always e)
