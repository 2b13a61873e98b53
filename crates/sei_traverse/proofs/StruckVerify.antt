-- The reading back under one strike, and behind one.
use Rattle.std.proofs.Common.{◌≡◌, inl, inr, ℕ, ◌+◌, ◌%◌, ◌^◌, ◌<◌, ◌≤◌, Bool, true, false, List, [], ◌∷◌, length, Option, Some, None, ap, sym, ◌∙◌, arith, refl, subst}
use Rattle.std.specs.Prelude.{if◌then◌else◌, nat_lt, ◌==◌, slice_get, slice_set}
use Rattle.std.specs.declared.result.Result.{Result}
use Rattle.std.specs.declared.result.Result.TheVariants.{Ok, Err}
use Rattle.std.proofs.lemmas.Bool.{ltb-false}
use Rattle.std.proofs.lemmas.Bool.Decides.{nat_tests}
use Rattle.sei_code.specs.declared.modes.Mode.TheVariants.{Plain as PlainMode}
use Rattle.sei_code.specs.Kept.{Kept, emptied}
use Rattle.sei_compare.specs.Comparing.{word_at, word_read, word_outcome, is_message, wire_tree}
use Rattle.sei_compare.proofs.Public.{word_at-honest, word_outcome-new, is_message-one}
use Rattle.sei_fault.specs.declared.cause.AbortCause.{AbortCause}
use Rattle.sei_fault.specs.declared.cause.AbortCause.TheVariants.{Gate, Range, Differs, Wire as Wires}
use Rattle.sei_fault.specs.declared.place.Phase.TheVariants.{Verify, Enter}
use Rattle.sei_fault.specs.Tree.{honest, bound, Always}
use Rattle.sei_fault.specs.Weights.{weighed}
use Rattle.sei_fault.proofs.Public.{honest_bound, always_honest, always_struck}
use Rattle.sei_gate.specs.Closing.{risen}
use Rattle.sei_log.specs.Changes.{applied, Stands}
use Rattle.sei_log.specs.declared.log.Change.{Change}
use Rattle.sei_log.proofs.Public.{applied_there, applied_off, get_past, lt_or}
use Rattle.sei_pass.specs.State.{PassState}
use Rattle.sei_restore.specs.Undoing.{LeadsTo}
use Rattle.sei_stmt.specs.Handling.{refilled}
use Rattle.sei_stmt.specs.Machine.{Machine, After}
use Rattle.sei_traverse.specs.declared.turned.Want.TheVariants.{Nothing}
use Rattle.sei_traverse.specs.declared.workspace.Ending.TheVariants.{Leads, Aborts}
use Rattle.sei_traverse.specs.declared.workspace.Workspace.{Workspace}
use Rattle.sei_traverse.specs.Acts.{acted, ends, at, closes}
use Rattle.sei_traverse.specs.Comes.{at_time}
use Rattle.sei_traverse.specs.CallContext.{CallContext, first_setting, first_start, Whole}
use Rattle.sei_traverse.specs.Phases.{reply_of, word_to, copy_bytes, wire_to, verify_copy, verify_tree}
use Rattle.sei_traverse.proofs.AlikeLaws.{applied_alike}
use Rattle.sei_traverse.specs.Struck.{IsAimed, IsHonestResult, IsDoubted, WordsStruck, VerifyStruck, OnLent}
use Rattle.sei_traverse.specs.Struck.WordsStruck.{Fine, Doubt}
use Rattle.sei_traverse.specs.Trusted.{IsTrusted}
use Rattle.sei_traverse.specs.Unstruck.{InBoth, InVerify}
use Rattle.sei_traverse.proofs.CleanAnswers.{answers_whole}
use Rattle.sei_traverse.proofs.Closes.{closed}
use Rattle.sei_traverse.proofs.LogLaws.{leads}
use Rattle.sei_traverse.proofs.PhaseLaws.{ActsWell, PhaseLaws}
use Rattle.sei_traverse.proofs.PhaseLaws.LeadsWell.{Onward}
use Rattle.sei_traverse.proofs.StruckEdges.{answers_at, on_map, not_less, no_less, aborts_well, leads_well, closes_well, always_closes, both_answers}

-- All is well already.

module _ (e : CallContext) (w : Workspace) (words : List ℕ) (asked more : ℕ) (le : asked ≤ more) (nothing : w.want ≡ Nothing) (gate : w.gate.done ≡ 6) (answers : IsHonestResult e w words asked) (outputs : w.first.bytes.items ≡ reply_of w) where
  -- an act that leads to another place of the phase
  fine_leads : (wire : Kept ℕ) (index : ℕ) → ActsWell e Verify more (acted (record w { wire = wire }) words (Leads (at Verify index)))
  fine_leads wire index = leads_well e Verify more (record w { wire = wire }) words (at Verify index) nothing gate
      (Onward gate (record { stand = Fine (answers_at e w (record w { wire = wire; place = at Verify index }) words asked more refl refl refl le answers); outputs = outputs }))

  fine_aborts : (cause : AbortCause) → ActsWell e Verify more (acted w words (Aborts cause))
  fine_aborts cause = aborts_well e Verify more w words cause nothing gate

  fine_same : (index : ℕ) (yes : Bool) → Always (ActsWell e Verify more) (word_to w words index (Ok yes))
  fine_same index true = fine_leads w.wire (index + 1)
  fine_same index false = fine_aborts (Differs index)

  fine_read : (index : ℕ) (c : Change) (word : Option ℕ) → Always (ActsWell e Verify more) (bound (word_read c word) (word_to w words index))
  fine_read index c None = fine_aborts (Range c.address)
  fine_read index c (Some word) = λ v yes. fine_same index yes

  fine_word : (index : ℕ) (o : Option Change) → Always (ActsWell e Verify more) (bound (word_at words o) (word_to w words index))
  fine_word index None = fine_same index true
  fine_word index (Some c) = fine_read index c (slice_get words c.address)

  -- whatever is stored as the first byte of the copy
  fine_copy : (index : ℕ) (bytes : List ℕ) → Always (ActsWell e Verify more) (copy_bytes w words index bytes)
  fine_copy index [] = fine_leads (emptied w.wire) (index + 1)
  fine_copy index (byte ∷ bytes) = λ b. fine_leads (refilled w.wire (b % 2 ^ 8 ∷ bytes)) (index + 1)

  -- the copy is the reply
  fine_enters : w.wire.items ≡ reply_of w → ActsWell e Verify more (acted (closed w) words (Leads (at Enter 0)))
  fine_enters wire =
      let next : risen w.gate.done ≡ 7 = ap risen gate in
      closes_well e Verify more (closed w) words (at Enter 0) next refl tt
      (Onward next (record { answers = answers_at e w (record (closed w) { place = at Enter 0 }) words asked more refl refl refl le answers; wire = wire }))

  fine_closes : w.wire.items ≡ reply_of w → Always (ActsWell e Verify more) (closes Verify w words Nothing (at Enter 0))
  fine_closes wire = always_closes (ActsWell e Verify more) Verify w words (λ v. ends (record v { want = Nothing }) words (Leads (at Enter 0))) (fine_enters wire) (fine_aborts (Gate w.gate.done))

  fine_tested : w.wire.items ≡ reply_of w → (yes : Bool) → Always (ActsWell e Verify more) (wire_to w words yes)
  fine_tested wire true = fine_closes wire
  fine_tested wire false = fine_aborts Wires

  -- where the copy is the reply once it is made, any answers are well
  fine_behind : (index : ℕ) (b : Bool) → (index == length w.second_log.items) ≡ b → (b ≡ false → w.wire.items ≡ reply_of w) →
      Always (ActsWell e Verify more) (if b then copy_bytes w words index (reply_of w) else bound (wire_tree PlainMode w.sealed.answer w.first.code w.first.bytes.items w.wire.items) (wire_to w words))
  fine_behind index true is wire = fine_copy index (reply_of w)
  fine_behind index false is wire = λ yes. fine_tested (wire refl) yes

  fine_always : (index : ℕ) (b : Bool) → nat_lt index (length w.second_log.items) ≡ b → (b ≡ false → (index == length w.second_log.items) ≡ false → w.wire.items ≡ reply_of w) →
      Always (ActsWell e Verify more) (if b then bound (word_at words (slice_get w.second_log.items index)) (word_to w words index) else verify_copy index w words)
  fine_always index true is wire = fine_word index (slice_get w.second_log.items index)
  fine_always index false is wire = fine_behind index (index == length w.second_log.items) refl (wire refl)

  -- the honest test of the copy says that it is the reply
  honest_tested : (yes : Bool) → is_message PlainMode w.sealed.answer w.first.code w.first.bytes.items w.wire.items ≡ yes → ActsWell e Verify more (honest (wire_to w words yes))
  honest_tested true is =
      let message = is_message-one PlainMode w.sealed.answer w.first.code w.first.bytes.items w.wire.items is in
      always_honest (ActsWell e Verify more) (closes Verify w words Nothing (at Enter 0)) (fine_closes (message.1 ∙ outputs))
  honest_tested false is = fine_aborts Wires

  honest_behind : (index : ℕ) (b : Bool) →
      ActsWell e Verify more (honest (if b then copy_bytes w words index (reply_of w) else bound (wire_tree PlainMode w.sealed.answer w.first.code w.first.bytes.items w.wire.items) (wire_to w words)))
  honest_behind index true = always_honest (ActsWell e Verify more) (copy_bytes w words index (reply_of w)) (fine_copy index (reply_of w))
  honest_behind index false = honest_tested (is_message PlainMode w.sealed.answer w.first.code w.first.bytes.items w.wire.items) refl

  fine_honest : (index : ℕ) (b : Bool) → ActsWell e Verify more (honest (if b then bound (word_at words (slice_get w.second_log.items index)) (word_to w words index) else verify_copy index w words))
  fine_honest index true = always_honest (ActsWell e Verify more) (bound (word_at words (slice_get w.second_log.items index)) (word_to w words index)) (fine_word index (slice_get w.second_log.items index))
  fine_honest index false = honest_behind index (index == length w.second_log.items)

-- The second pass was struck.

-- what leads from these words to those is applied so
leads_applied : (before : List ℕ) (log : List Change) (words : List ℕ) → LeadsTo before log words → applied log before ≡ words
leads_applied before [] words l = sym l
leads_applied before (c ∷ rest) words l = leads_applied (slice_set before c.address c.becomes) rest words l.1

-- the log of a whole first pass, applied to the words that were taken, gives its words
whole_applied : (e : CallContext) (time made : ℕ) (end : Machine) → Whole e time made end → applied end.log.items e.taken ≡ end.words
whole_applied e time made end whole =
    leads_applied e.taken end.log.items end.words
    (subst (λ (x : After). LeadsTo e.taken x.machine.log.items x.machine.words) whole.run.halts (leads (at_time (first_setting e) time) (first_start e) refl made))

-- a change that stands in a log stands below its length
stands_within : (log : List Change) (place : ℕ) (c : Change) → Stands log place c → place < length log
stands_within log place c st = elim (lt_or place (length log)) [
  | inl below ↦ below
  | inr past ↦ let none : slice_get log place ≡ None = get_past log place past in absurd (let z : ⊥ = cc in z)
]

-- where each word was read back, the words are those of the first pass
all_read : (e : CallContext) → IsTrusted e → (w : Workspace) (words : List ℕ) (asked : ℕ) → IsDoubted e w words asked → w.first.bytes.items ≡ reply_of w → length w.second_log.items ≤ w.place.index → IsHonestResult e w words asked
all_read e trusted w words asked d outputs le =
    let there : applied w.second_log.items words ≡ words =
    applied_there w.second_log.items words (λ place c st. d.read place c (omega (arith, le, stands_within w.second_log.items place c st)) st) in
    let same : words ≡ d.end.words =
    sym there
    ∙ applied_off w.second_log.items words e.taken d.off
    ∙ sym (applied_alike w.first_log.items w.second_log.items e.taken d.logs)
    ∙ ap (λ (k : Kept Change). applied k.items e.taken) d.was.first.first_log
    ∙ whole_applied e d.was.time d.was.made d.end d.was.whole in
    answers_whole e d.was.time d.was.made d.end d.was.whole trusted w words asked d.was.aimed d.was.first.notes same
    (sym outputs ∙ ap (λ (p : PassState). p.bytes.items) d.was.first.first) d.was.questions

-- one word more was read back
read_more : (log : List Change) (words : List ℕ) (index : ℕ) (o : Option Change) → slice_get log index ≡ o → ((c : Change) → o ≡ Some c → slice_get words c.address ≡ Some c.becomes) →
    ((place : ℕ) (c : Change) → place < index → Stands log place c → slice_get words c.address ≡ Some c.becomes) →
    (place : ℕ) (c : Change) → place < index + 1 → Stands log place c → slice_get words c.address ≡ Some c.becomes
read_more log words index o here holds read place c lt st = elim (lt_or place index) [
  | inl below ↦ read place c below st
  | inr past ↦ let last : index ≡ place = omega (arith, lt, past) in holds c (sym here ∙ ap (slice_get log) last ∙ st)
]

-- an honest answer that the word is the new one
outcome_holds : (words : List ℕ) (o : Option Change) → word_outcome words o ≡ Ok true → (c : Change) → o ≡ Some c → slice_get words c.address ≡ Some c.becomes
outcome_holds words o same c is = word_outcome-new words c (sym (ap (word_outcome words) is) ∙ same)

module _ (e : CallContext) (w : Workspace) (words : List ℕ) (asked more : ℕ) (le : asked ≤ more) (nothing : w.want ≡ Nothing) (gate : w.gate.done ≡ 6) (outputs : w.first.bytes.items ≡ reply_of w) (d : IsDoubted e w words asked) where
  doubt_leads : word_outcome words (slice_get w.second_log.items w.place.index) ≡ Ok true → ActsWell e Verify more (acted w words (Leads (at Verify (w.place.index + 1))))
  doubt_leads same = leads_well e Verify more w words (at Verify (w.place.index + 1)) nothing gate
      (Onward gate (record {
        stand = Doubt (record {
          end = d.end;
          was = record {
            aimed = record { fit = d.was.aimed.fit; wanted = d.was.aimed.wanted };
            time = d.was.time;
            made = d.was.made;
            whole = d.was.whole;
            first = record { first = d.was.first.first; first_log = d.was.first.first_log; notes = d.was.first.notes };
            questions = omega (arith, d.was.questions, le);
          };
          off = d.off;
          logs = d.logs;
          read = read_more w.second_log.items words w.place.index (slice_get w.second_log.items w.place.index) refl (outcome_holds words (slice_get w.second_log.items w.place.index) same) d.read;
        });
        outputs = outputs;
      }))

  doubt_aborts : (cause : AbortCause) → ActsWell e Verify more (acted w words (Aborts cause))
  doubt_aborts cause = aborts_well e Verify more w words cause nothing gate

  doubt_same : (r : Result Bool AbortCause) → word_outcome words (slice_get w.second_log.items w.place.index) ≡ r → ActsWell e Verify more (honest (word_to w words w.place.index r))
  doubt_same (Ok true) is = doubt_leads is
  doubt_same (Ok false) is = doubt_aborts (Differs w.place.index)
  doubt_same (Err cause) is = doubt_aborts cause

  doubt_word : ActsWell e Verify more (honest (bound (word_at words (slice_get w.second_log.items w.place.index)) (word_to w words w.place.index)))
  doubt_word =
      let read = slice_get w.second_log.items w.place.index in
      subst (ActsWell e Verify more)
      (sym (honest_bound (word_at words read) (word_to w words w.place.index) ∙ ap (λ (r : Result Bool AbortCause). honest (word_to w words w.place.index r)) (word_at-honest words read)))
      (doubt_same (word_outcome words read) refl)

  doubt_honest : IsTrusted e → (b : Bool) → nat_lt w.place.index (length w.second_log.items) ≡ b →
      ActsWell e Verify more (honest (if b then bound (word_at words (slice_get w.second_log.items w.place.index)) (word_to w words w.place.index) else verify_copy w.place.index w words))
  doubt_honest trusted true is = doubt_word
  doubt_honest trusted false is =
      fine_honest e w words asked more le nothing gate (all_read e trusted w words asked d outputs (ltb-false w.place.index (length w.second_log.items) is)) outputs w.place.index false

-- The phase.

words_honest : (e : CallContext) → IsTrusted e → (w : Workspace) (words : List ℕ) (asked more : ℕ) → asked ≤ more → w.want ≡ Nothing → w.gate.done ≡ 6 → w.first.bytes.items ≡ reply_of w → WordsStruck e w words asked →
    ActsWell e Verify more (honest (verify_tree w.place.index w words))
words_honest e trusted w words asked more le nothing gate outputs (Fine a) = fine_honest e w words asked more le nothing gate a outputs w.place.index (nat_lt w.place.index (length w.second_log.items))
words_honest e trusted w words asked more le nothing gate outputs (Doubt d) =
    doubt_honest e w words asked more le nothing gate outputs d trusted (nat_lt w.place.index (length w.second_log.items)) refl

-- an index that is not below a length, and not at it
behind_both : (index n k : ℕ) → n ≡ k → nat_lt index n ≡ false → (index == n) ≡ false → index ≤ k + 1 → index ≡ k + 1
behind_both index n k same past other le = grind (arith, nat_tests)

-- behind the last word and the copy, without a strike, the copy is the reply
clean_wire : (e : CallContext) (w : Workspace) (lent : Option (List ℕ)) (steps asked : ℕ) → (i : InVerify e w lent steps asked) → nat_lt w.place.index (length w.second_log.items) ≡ false →
    (w.place.index == length w.second_log.items) ≡ false → w.wire.items ≡ reply_of w
clean_wire e w lent steps asked i past other =
    let long : length w.second_log.items ≡ length i.end.log.items = ap (λ (k : Kept Change). length k.items) i.both.second.second_log in
    let last : w.place.index ≡ length i.end.log.items + 1 = behind_both w.place.index (length w.second_log.items) (length i.end.log.items) long past other i.index in
    i.copy last ∙ sym (ap (λ (p : PassState). p.bytes.items) i.both.second.second)

-- both passes ended with one output
clean_outputs : (e : CallContext) (w : Workspace) (lent : Option (List ℕ)) (time made : ℕ) (end : Machine) (asked : ℕ) → InBoth e w lent time made end asked → w.first.bytes.items ≡ reply_of w
clean_outputs e w lent time made end asked both = ap (λ (p : PassState). p.bytes.items) (both.first.first ∙ sym both.second.second)

verify_moved : (e : CallContext) → IsTrusted e → (w : Workspace) (lent : Option (List ℕ)) (steps asked index : ℕ) → InVerify e w lent steps asked → IsAimed e w →
    OnLent lent (λ words. VerifyStruck e (record w { place = at Verify index }) words asked)
verify_moved e trusted w lent steps asked index i aimed =
    on_map (λ words. IsHonestResult e w words asked) (λ words. VerifyStruck e (record w { place = at Verify index }) words asked) lent
    (λ words a. record {
      stand = Fine (answers_at e w (record w { place = at Verify index }) words asked asked refl refl refl (not_less asked) a);
      outputs = clean_outputs e w lent i.time i.made i.end asked i.both;
    })
    (both_answers e trusted w lent i.time i.made i.end asked aimed i.both)

pub verify_laws : (e : CallContext) → IsTrusted e → PhaseLaws e Verify
verify_laws e trusted = record {
  moved = verify_moved e trusted;
  struck = λ now small told w words steps asked n y nothing i knows run.
      always_struck (ActsWell e Verify (asked + n)) (verify_tree w.place.index w words) y n
      (fine_always e w words asked (asked + n) (no_less asked n) nothing i.is.gate (both_answers e trusted w (Some words) i.time i.made i.end asked knows i.both)
      (clean_outputs e w (Some words) i.time i.made i.end asked i.both) w.place.index (nat_lt w.place.index (length w.second_log.items)) refl (clean_wire e w (Some words) steps asked i)) run;
  honest_on = λ now small told w words asked nothing gate sealed s.
      words_honest e trusted w words asked (asked + weighed (verify_tree w.place.index w words)) (no_less asked (weighed (verify_tree w.place.index w words))) nothing gate s.outputs s.stand;
}
