-- The laws of the comparison under one strike.
use Rattle.std.proofs.Common.{◌≡◌, ◌≢◌, inl, inr, ℕ, ◌+◌, ◌<◌, ◌≤◌, Bool, true, false, List, slice_get, Option, Some, None, ap, sym, ◌∙◌, arith, refl, subst}
use Rattle.std.specs.Prelude.{if◌then◌else◌, nat_lt}
use Rattle.std.proofs.lemmas.Bool.{ltb-false}
use Rattle.sei_log.specs.Changes.{Stands, SameOff}
use Rattle.sei_log.specs.declared.log.Change.{Change}
use Rattle.sei_log.specs.declared.notes.Notes.{Notes}
use Rattle.sei_log.proofs.Public.{applied_off, get_past, lt_or}
use Rattle.sei_gate.specs.Closing.{risen}
use Rattle.sei_fault.specs.declared.cause.AbortCause.{AbortCause}
use Rattle.sei_fault.specs.declared.place.Phase.TheVariants.{Compare, Verify}
use Rattle.sei_fault.specs.declared.place.Place.{Place}
use Rattle.sei_fault.specs.Phases.{phase_number}
use Rattle.sei_fault.specs.Tree.{Tree, Always, honest, bound}
use Rattle.sei_fault.specs.Weights.{weighed}
use Rattle.sei_fault.proofs.Public.{always_struck}
use Rattle.sei_compare.specs.Comparing.{same_change, entry_tree, same_reply, codes_tree}
use Rattle.sei_compare.proofs.Public.{same_change-one, same_reply-one}
use Rattle.sei_stmt.specs.Machine.{Machine, Outcome, After}
use Rattle.sei_stmt.specs.Machine.Outcome.{Halted}
use Rattle.sei_stmt.proofs.Public.{Keeps, keeps}
use Rattle.sei_pass.specs.State.{PassState}
use Rattle.sei_traverse.specs.declared.turned.Want.TheVariants.{Nothing}
use Rattle.sei_traverse.specs.declared.workspace.Ending.TheVariants.{Leads, Aborts}
use Rattle.sei_traverse.specs.declared.workspace.Workspace.{Workspace}
use Rattle.sei_traverse.specs.Alike.{AlikeAt, AlikeLogs}
use Rattle.sei_traverse.proofs.AlikeLaws.{alike_itself, applied_alike, alike_stands, alike_back}
use Rattle.sei_traverse.specs.Acts.{Acted, acted, at, closes}
use Rattle.sei_traverse.specs.CallContext.{CallContext}
use Rattle.sei_traverse.specs.Phases.{compared, compare_tree, entries_to, outputs_to, reply_of}
use Rattle.sei_traverse.specs.Struck.{IsAimed, IsHonestResult, WasHonest, WasMisread, OnLent, SecondStruck, ComesOn, setting_on, start_on, CompareStruck, WordsStruck}
use Rattle.sei_traverse.specs.Struck.SecondStruck.{Good, Misread, Damaged, Struck}
use Rattle.sei_traverse.specs.Struck.CompareStruck.{Fine, Doubt}
use Rattle.sei_traverse.specs.Struck.WordsStruck.{Fine as FineWords, Doubt as DoubtWords}
use Rattle.sei_traverse.specs.Trusted.{IsTrusted}
use Rattle.sei_traverse.specs.Unstruck.{InBoth, InCompare}
use Rattle.sei_traverse.proofs.CleanAnswers.{answers_whole, answers_clean}
use Rattle.sei_traverse.proofs.GoodAnswers.{good_answers}
use Rattle.sei_traverse.proofs.Closes.{closed, closes_in_step}
use Rattle.sei_traverse.proofs.PhaseLaws.{LeadsWell, ActsWell, PhaseLaws}
use Rattle.sei_traverse.proofs.PhaseLaws.LeadsWell.{Onward}
use Rattle.sei_traverse.proofs.StruckRestore.{acts_well, closed_acts, closes_well, IsLike, moved_like, closed_like, aimed_like, honest_like, misread_like, honest_distinct}

-- Workspaces with the same passes.

-- an answer stays one where more questions were asked
answers_like : (e : CallContext) (w v : Workspace) (words : List ℕ) (asked more : ℕ) → IsLike w v → v.second ≡ w.second → asked ≤ more → IsHonestResult e w words asked → IsHonestResult e v words more
answers_like e w v words asked more like second le a = record {
  aimed = aimed_like e w v like a.aimed;
  time = a.time;
  slot = a.slot;
  end = a.end;
  made = a.made;
  noted = ap (λ (n : Notes). n.now) like.notes ∙ a.noted;
  small = a.small;
  told = a.told;
  run = a.run;
  words_are = a.words_are;
  reply = ap (λ (p : PassState). p.bytes.items) second ∙ a.reply;
  questions = omega (arith, le, a.questions);
}

-- both passes left the same bytes where they came to one end
outputs_both : (e : CallContext) (w : Workspace) (lent : Option (List ℕ)) (time made : ℕ) (end : Machine) (asked : ℕ) → InBoth e w lent time made end asked →
    w.first.bytes.items ≡ reply_of w
outputs_both e w lent time made end asked b =
    ap (λ (p : PassState). p.bytes.items) b.first.first ∙ sym (ap (λ (p : PassState). p.bytes.items) b.second.second)

-- what is so of the second pass behind the place of the workspace
second_at : (e : CallContext) (w : Workspace) (to : Place) (words : List ℕ) (o : Outcome) (asked more : ℕ) → asked ≤ more → SecondStruck e w words o asked →
    SecondStruck e (record w { place = to }) words o more
second_at e w to words o asked more le (Good small n comes asks) = Good small n comes (omega (arith, le, asks))
second_at e w to words o asked more le (Misread end was found off n comes) =
    Misread end (misread_like e w (record w { place = to }) (moved_like w to) end asked more le was) found off n comes
second_at e w to words o asked more le (Damaged end was place c s found other n comes) =
    Damaged end (honest_like e w (record w { place = to }) (moved_like w to) end asked more le was) place c s found other n comes
second_at e w to words o asked more le (Struck end was off) =
    Struck end (honest_like e w (record w { place = to }) (moved_like w to) end asked more le was) off

-- The logs.

-- what is tested to be the same is the same
same_entry : (a b : Option Change) → same_change a b ≡ true → AlikeAt a b
same_entry a b h = let one = same_change-one a b h in subst (λ (o : Option Change). AlikeAt a o) (one.1 ∙ sym one.2) (alike_itself a)

-- one entry more is the same
below_one : (one two : List Change) (index : ℕ) → ((place : ℕ) → place < index → AlikeAt (slice_get one place) (slice_get two place)) → AlikeAt (slice_get one index) (slice_get two index) →
    (place : ℕ) → place < index + 1 → AlikeAt (slice_get one place) (slice_get two place)
below_one one two index below here place h = elim (lt_or place index) [
  | inl less ↦ below place less
  | inr more ↦
      let same : index ≡ place = omega (arith, h, more) in
      subst (λ (n : ℕ). AlikeAt (slice_get one n) (slice_get two n)) same here
]

-- where all entries are the same, the logs are
compared_all : (w : Workspace) (index : ℕ) → compared w ≤ index →
    ((place : ℕ) → place < index → AlikeAt (slice_get w.first_log.items place) (slice_get w.second_log.items place)) → AlikeLogs w.first_log.items w.second_log.items
compared_all w index all below = λ place. elim (lt_or place index) [
  | inl less ↦ below place less
  | inr more ↦ subst (λ (o : Option Change). AlikeAt (slice_get w.first_log.items place) o)
      (get_past w.first_log.items place (omega (arith, all, more)) ∙ sym (get_past w.second_log.items place (omega (arith, all, more)))) (alike_itself (slice_get w.first_log.items place))
]

-- Behind equal logs and equal outputs.

-- what an honest second pass on these words keeps
second_keeps : (e : CallContext) (w : Workspace) (found words : List ℕ) (o : Outcome) (n : ℕ) → ComesOn e w found words o n → Keeps found w.second_log.items words
second_keeps e w found words o n comes =
    subst (λ (x : After). Keeps found x.machine.log.items x.machine.words) comes (keeps (setting_on e w.wanted) (start_on e found w.notes) refl n)

module _ (e : CallContext) (trusted : IsTrusted e) (w : Workspace) (words : List ℕ) (asked more : ℕ) (le : asked ≤ more)
    (logs : AlikeLogs w.first_log.items w.second_log.items) (outputs : w.first.bytes.items ≡ reply_of w) where
  abbrev verified : Workspace
  verified = record (closed w) { place = at Verify 0 }

  -- the second pass, with the same log, wrote what an honest first one did, whatever stood at the addresses of the log
  misread_words : (end : Machine) → WasMisread e w end asked → (found : List ℕ) → SameOff w.first_log.items found e.taken → (n : ℕ) → ComesOn e w found words Halted n →
      words ≡ end.words
  misread_words end was found off n comes =
      sym (second_keeps e w found words Halted n comes).apply
      ∙ sym (applied_alike w.first_log.items w.second_log.items found logs)
      ∙ applied_off w.first_log.items found e.taken off
      ∙ was.applies

  misread_answers : (end : Machine) → WasMisread e w end asked → (found : List ℕ) → SameOff w.first_log.items found e.taken → (n : ℕ) → ComesOn e w found words Halted n →
      IsHonestResult e w words asked
  misread_answers end was found off n comes =
      answers_whole e was.time was.made end was.whole trusted w words asked was.aimed was.notes (misread_words end was found off n comes)
      (sym outputs ∙ ap (λ (p : PassState). p.bytes.items) was.first) was.questions

  -- the second pass found no other word where the first one found the old word of its log
  damaged_never : (end : Machine) → WasHonest e w end asked → (place : ℕ) (c : Change) → Stands w.first_log.items place c →
      (found : List ℕ) → slice_get found c.address ≢ Some c.was → (n : ℕ) → ComesOn e w found words Halted n → ⊥
  damaged_never end was place c s found other n comes =
      let distinct = honest_distinct e w end asked was in
      let twin = alike_stands w.first_log.items w.second_log.items place c logs s in
      other (ap (slice_get found) twin.2.address
      ∙ (second_keeps e w found words Halted n comes).firsts place twin.0 twin.1
      (λ q d before t same.
      let back = alike_back w.first_log.items w.second_log.items q d logs t in
      let twice = distinct.distinct place q c back.0 s back.1 (twin.2.address ∙ same ∙ sym back.2.address) in omega (arith, before, twice))
      ∙ ap (λ (n : ℕ). let o : Option ℕ = Some n in o) (sym twin.2.was))

  words_after : SecondStruck e w words Halted asked → WordsStruck e verified words more
  words_after (Good small n comes asks) =
      FineWords (answers_like e w verified words asked more (closed_like w (at Verify 0)) refl le (good_answers e trusted w words asked n small comes asks))
  words_after (Misread end was found off n comes) =
      FineWords (answers_like e w verified words asked more (closed_like w (at Verify 0)) refl le (misread_answers end was found off n comes))
  words_after (Damaged end was place c s found other n comes) = absurd (damaged_never end was place c s found other n comes)
  words_after (Struck end was off) = DoubtWords (record {
    end = end;
    was = honest_like e w verified (closed_like w (at Verify 0)) end asked more le was;
    off = off;
    logs = logs;
    read = λ place c never s. absurd (omega (arith, never));
  })

-- The act.

module _ (e : CallContext) (w : Workspace) (words : List ℕ) (asked more : ℕ) (le : asked ≤ more) (nothing : w.want ≡ Nothing) (gate : w.gate.done ≡ phase_number Compare) where
  aborts_well : (cause : AbortCause) → ActsWell e Compare more (acted w words (Aborts cause))
  aborts_well cause = acts_well e Compare w words more (Aborts cause) nothing gate tt

  goes_well : CompareStruck e (record w { place = at Compare (w.place.index + 1) }) words more → ActsWell e Compare more (acted w words (Leads (at Compare (w.place.index + 1))))
  goes_well c = acts_well e Compare w words more (Leads (at Compare (w.place.index + 1))) nothing gate (Onward gate c)

  leads_well : WordsStruck e (record (closed w) { place = at Verify 0 }) words more → w.first.bytes.items ≡ reply_of w → LeadsWell e Compare (closed w) words more (at Verify 0)
  leads_well stand outputs = Onward (ap risen gate) (record { stand = stand; outputs = outputs })

  -- the two kinds of an act
  abbrev comparing : Bool → Tree Acted
  comparing more =
      if more
      then bound (entry_tree w.first_log.items w.second_log.items w.place.index) (entries_to w words w.place.index)
      else bound (codes_tree w.first.code w.first.bytes.items w.second.code w.second.bytes.items) (outputs_to w words)

  -- where all is well

  module _ (a : IsHonestResult e w words asked) where
    fine_next : CompareStruck e (record w { place = at Compare (w.place.index + 1) }) words more
    fine_next = Fine (answers_like e w _ words asked more (moved_like w (at Compare (w.place.index + 1))) refl le a)

    fine_words : WordsStruck e (record (closed w) { place = at Verify 0 }) words more
    fine_words = FineWords (answers_like e w _ words asked more (closed_like w (at Verify 0)) refl le a)

    fine_entry : (same : Bool) → ActsWell e Compare more (honest (entries_to w words w.place.index same))
    fine_entry true = goes_well fine_next
    fine_entry false = aborts_well _

    entry_always : (same : Bool) → Always (ActsWell e Compare more) (entries_to w words w.place.index same)
    entry_always true = goes_well fine_next
    entry_always false = aborts_well _

    outputs_always : w.first.bytes.items ≡ reply_of w → (same : Bool) → Always (ActsWell e Compare more) (outputs_to w words same)
    outputs_always outputs true = closes_well e Compare w words more (at Verify 0) refl (ap risen gate) (leads_well fine_words outputs) nothing gate
    outputs_always outputs false = aborts_well _

    -- an act in which a strike falls, where the outputs are equal
    struck_act : w.first.bytes.items ≡ reply_of w → (b : Bool) → Always (ActsWell e Compare more) (comparing b)
    struck_act outputs true = λ same. entry_always same
    struck_act outputs false = λ same. outputs_always outputs same

  closing_well : WordsStruck e (record (closed w) { place = at Verify 0 }) words more → w.first.bytes.items ≡ reply_of w →
      ActsWell e Compare more (honest (closes Compare w words Nothing (at Verify 0)))
  closing_well stand outputs =
      subst (ActsWell e Compare more) (sym (closes_in_step Compare w words (at Verify 0) gate))
      (closed_acts e Compare w words more (at Verify 0) refl (ap risen gate) (leads_well stand outputs))

  -- the honest end of the comparison of the outputs
  honest_outputs : (w.first.bytes.items ≡ reply_of w → WordsStruck e (record (closed w) { place = at Verify 0 }) words more) →
      (same : Bool) → same_reply w.first.code w.first.bytes.items w.second.code w.second.bytes.items ≡ same → ActsWell e Compare more (honest (outputs_to w words same))
  honest_outputs stand true h =
      let outputs : w.first.bytes.items ≡ reply_of w = (same_reply-one w.first.code w.first.bytes.items w.second.code w.second.bytes.items h).3 in
      closing_well (stand outputs) outputs
  honest_outputs stand false h = aborts_well _

  module _ (trusted : IsTrusted e) where
    doubt_entry : SecondStruck e w words Halted asked →
        ((place : ℕ) → place < w.place.index → AlikeAt (slice_get w.first_log.items place) (slice_get w.second_log.items place)) →
        (same : Bool) → same_change (slice_get w.first_log.items w.place.index) (slice_get w.second_log.items w.place.index) ≡ same →
        ActsWell e Compare more (honest (entries_to w words w.place.index same))
    doubt_entry second below true h =
        goes_well (Doubt (second_at e w (at Compare (w.place.index + 1)) words Halted asked more le second)
        (below_one w.first_log.items w.second_log.items w.place.index below (same_entry _ _ h)))
    doubt_entry second below false h = aborts_well _

    -- an act without a strike
    honest_act : CompareStruck e w words asked → (b : Bool) → nat_lt w.place.index (compared w) ≡ b → ActsWell e Compare more (honest (comparing b))
    honest_act (Fine a) true h = fine_entry a (same_change (slice_get w.first_log.items w.place.index) (slice_get w.second_log.items w.place.index))
    honest_act (Fine a) false h =
        honest_outputs (λ outputs. fine_words a) (same_reply w.first.code w.first.bytes.items w.second.code w.second.bytes.items) refl
    honest_act (Doubt second below) true h =
        doubt_entry second below (same_change (slice_get w.first_log.items w.place.index) (slice_get w.second_log.items w.place.index)) refl
    honest_act (Doubt second below) false h =
        honest_outputs
        (λ outputs. words_after e trusted w words asked more le (compared_all w w.place.index (ltb-false w.place.index (compared w) h) below) outputs second)
        (same_reply w.first.code w.first.bytes.items w.second.code w.second.bytes.items) refl

compare_moved : (e : CallContext) (trusted : IsTrusted e) (w : Workspace) (lent : Option (List ℕ)) (steps asked index : ℕ) → InCompare e w lent steps asked → IsAimed e w →
    OnLent lent (λ words. CompareStruck e (record w { place = at Compare index }) words asked)
compare_moved e trusted w None steps asked index i aimed = absurd (let never : None ≡ Some _ = i.both.words in let z : ⊥ = cc in z)
compare_moved e trusted w (Some words) steps asked index i aimed =
    Fine (answers_like e w (record w { place = at Compare index }) words asked asked (moved_like w (at Compare index)) refl (omega arith)
    (answers_clean e trusted w words i.time i.made i.end asked aimed i.both))

pub compare_laws : (e : CallContext) → IsTrusted e → PhaseLaws e Compare
compare_laws e trusted = record {
  moved = λ w lent steps asked index clean knows. compare_moved e trusted w lent steps asked index clean knows;
  struck = λ now small told w words steps asked n y nothing clean knows run.
      always_struck (ActsWell e Compare (asked + n)) (compare_tree w.place.index w words) y n
      (struck_act e w words asked (asked + n) (omega arith) nothing clean.is.gate (answers_clean e trusted w words clean.time clean.made clean.end asked knows clean.both)
      (outputs_both e w (Some words) clean.time clean.made clean.end asked clean.both) (nat_lt w.place.index (compared w))) run;
  honest_on = λ now small told w words asked nothing gate sealed stands.
      honest_act e w words asked (asked + weighed (compare_tree w.place.index w words)) (omega arith) nothing gate trusted stands
      (nat_lt w.place.index (compared w)) refl;
}
