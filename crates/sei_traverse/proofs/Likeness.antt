-- What is known of a workspace that was struck is known of one that differs in what it does not speak of.
use Rattle.std.proofs.Common.{ℕ, List, Option, Some, None, sym, ap, ◌∙◌, refl}
use Rattle.sei_fault.specs.declared.place.Phase.{Phase}
use Rattle.sei_fault.specs.declared.place.Phase.TheVariants.{Guard, Take, First, Restore, Second, Compare, Verify, Enter, Give, Send, Done}
use Rattle.sei_log.specs.declared.notes.Notes.{Notes}
use Rattle.sei_stmt.specs.Machine.{Machine, Outcome}
use Rattle.sei_pass.specs.State.{PassState}
use Rattle.sei_traverse.specs.declared.turned.Want.{Want}
use Rattle.sei_traverse.specs.declared.turned.Want.TheVariants.{Nothing, Take as WantTake, Enter as WantEnter, Give as WantGive, Send as WantSend}
use Rattle.sei_traverse.specs.declared.workspace.Workspace.{Workspace}
use Rattle.sei_traverse.specs.CallContext.{CallContext}
use Rattle.sei_traverse.specs.FaultInvariant.{Wanted}
use Rattle.sei_traverse.specs.Struck.{IsAimed, IsHonestResult, FirstStruck, FirstStands, WasHonest, WasMisread, RestoreStruck, SecondStruck, CompareStruck, WordsStruck, VerifyStruck, HasCopy, HasCopyOfSome, OnLent, StruckIn}
use Rattle.sei_traverse.specs.Struck.FirstStruck.{Restorable, Misread}
use Rattle.sei_traverse.specs.Struck.RestoreStruck.{Restorable as RestorableR, Misread as MisreadR, Damaged as DamagedR}
use Rattle.sei_traverse.specs.Struck.SecondStruck.{Good, Misread as MisreadS, Damaged as DamagedS, Struck as StruckS}
use Rattle.sei_traverse.specs.Struck.CompareStruck.{Fine as FineC, Doubt as DoubtC}
use Rattle.sei_traverse.specs.Struck.WordsStruck.{Fine as FineW, Doubt as DoubtW}
use Rattle.sei_traverse.specs.Unstruck.{FirstIsNew, SecondIsNew}
use Rattle.sei_traverse.proofs.ActKeeps.{IsLike}

pub on_map : (lent : Option (List ℕ)) (P Q : List ℕ → Type 0) → ((words : List ℕ) → P words → Q words) → OnLent lent P → OnLent lent Q
on_map None P Q f h = h
on_map (Some words) P Q f h = f words h

-- What is wanted.

module _ (e : CallContext) (w v : Workspace) (l : IsLike w v) where
  pub aimed_like : IsAimed e w → IsAimed e v
  aimed_like a = record { fit = a.fit; wanted = l.wanted ∙ a.wanted }

  pub answers_like : (words : List ℕ) (asked : ℕ) → IsHonestResult e w words asked → IsHonestResult e v words asked
  answers_like words asked a = record {
    aimed = aimed_like a.aimed;
    time = a.time;
    slot = a.slot;
    end = a.end;
    made = a.made;
    noted = ap (λ (n : Notes). n.now) l.notes ∙ a.noted;
    small = a.small;
    told = a.told;
    run = a.run;
    words_are = a.words_are;
    reply = ap (λ (p : PassState). p.bytes.items) l.second ∙ a.reply;
    questions = a.questions;
  }

  pub enter_like : (words : List ℕ) (asked : ℕ) → HasCopy e w words asked → HasCopy e v words asked
  enter_like words asked a = record {
    answers = answers_like words asked a.answers;
    wire = ap (λ b. b.items) l.wire ∙ a.wire ∙ sym (ap (λ (p : PassState). p.bytes.items) l.second);
  }

  pub send_like : (asked : ℕ) → HasCopyOfSome e w asked → HasCopyOfSome e v asked
  send_like asked a = record { words = a.words; answered = enter_like a.words asked a.answered }

  pub wanted_like : (lent : Option (List ℕ)) (asked : ℕ) (want : Want) → Wanted e w lent asked want → Wanted e v lent asked want
  wanted_like lent asked Nothing h = h
  wanted_like lent asked (WantTake bucket) h = (h.0 ∙ sym l.wanted, h.1)
  wanted_like lent asked WantEnter h = on_map lent (λ words. IsHonestResult e w words asked) (λ words. IsHonestResult e v words asked) (λ words. answers_like words asked) h
  wanted_like lent asked WantGive h = on_map lent (λ words. IsHonestResult e w words asked) (λ words. IsHonestResult e v words asked) (λ words. answers_like words asked) h
  wanted_like lent asked WantSend h = (send_like asked h.0, λ none. h.1 (sym (ap (λ (p : PassState). p.bytes.items) l.second) ∙ none))

-- What is wanted, of the struck cases.

-- the workspace that wants this
abbrev wanting : Workspace → Want → Workspace
wanting w n = record w { want = n }

module _ (e : CallContext) (w : Workspace) (n : Want) (asked : ℕ) where
  alike : IsLike w (wanting w n)
  alike = record { wanted = refl; notes = refl; second = refl; wire = refl }

  first_new : FirstIsNew e w → FirstIsNew e (wanting w n)
  first_new x = record { first = x.first; first_log = x.first_log; notes = x.notes }

  second_new : SecondIsNew e w → SecondIsNew e (wanting w n)
  second_new x = record { second = x.second; second_log = x.second_log }

  aims : IsAimed e w → IsAimed e (wanting w n)
  aims a = aimed_like e w (wanting w n) alike a

  was_honest : (end : Machine) → WasHonest e w end asked → WasHonest e (wanting w n) end asked
  was_honest end x = record {
    aimed = aims x.aimed;
    time = x.time;
    made = x.made;
    whole = x.whole;
    first = record { first = x.first.first; first_log = x.first.first_log; notes = x.first.notes };
    questions = x.questions;
  }

  was_misread : (end : Machine) → WasMisread e w end asked → WasMisread e (wanting w n) end asked
  was_misread end x = record {
    aimed = aims x.aimed;
    time = x.time;
    made = x.made;
    whole = x.whole;
    first = x.first;
    notes = x.notes;
    applies = x.applies;
    questions = x.questions;
  }

  first_struck : (words : List ℕ) → FirstStruck e w words asked → FirstStruck e (wanting w n) words asked
  first_struck words (Restorable small u) = Restorable small u
  first_struck words (Misread x) = Misread (record {
    aimed = aims x.aimed;
    log = x.log;
    room = x.room;
    fewer = x.fewer;
    made = x.made;
    number = x.number;
    comes = x.comes;
    told = x.told;
    applies = x.applies;
    off = x.off;
    questions = x.questions;
  })

  first_stands : (lent : Option (List ℕ)) → FirstStands e w lent asked → FirstStands e (wanting w n) lent asked
  first_stands None h = first_new h
  first_stands (Some words) h = first_struck words h

  restore_struck : (words : List ℕ) → RestoreStruck e w words asked → RestoreStruck e (wanting w n) words asked
  restore_struck words (RestorableR small u) = RestorableR small u
  restore_struck words (MisreadR end x off) = MisreadR end (was_misread end x) off
  restore_struck words (DamagedR end x place c stands behind other) = DamagedR end (was_honest end x) place c stands behind other

  second_struck : (words : List ℕ) (o : Outcome) → SecondStruck e w words o asked → SecondStruck e (wanting w n) words o asked
  second_struck words o (Good small k comes questions) = Good small k comes questions
  second_struck words o (MisreadS end x found off k comes) = MisreadS end (was_misread end x) found off k comes
  second_struck words o (DamagedS end x place c stands found other k comes) = DamagedS end (was_honest end x) place c stands found other k comes
  second_struck words o (StruckS end x off) = StruckS end (was_honest end x) off

  compare_struck : (words : List ℕ) → CompareStruck e w words asked → CompareStruck e (wanting w n) words asked
  compare_struck words (FineC a) = FineC (answers_like e w (wanting w n) alike words asked a)
  compare_struck words (DoubtC s below) = DoubtC (second_struck words _ s) below

  words_struck : (words : List ℕ) → WordsStruck e w words asked → WordsStruck e (wanting w n) words asked
  words_struck words (FineW a) = FineW (answers_like e w (wanting w n) alike words asked a)
  words_struck words (DoubtW x) = DoubtW (record { end = x.end; was = was_honest x.end x.was; off = x.off; logs = x.logs; read = x.read })

  verify_struck : (words : List ℕ) → VerifyStruck e w words asked → VerifyStruck e (wanting w n) words asked
  verify_struck words x = record { stand = words_struck words x.stand; outputs = x.outputs }

  -- where a traversal that was struck stands, it stands whatever it wants
  pub struck_settles : (lent : Option (List ℕ)) (p : Phase) → StruckIn e w lent asked p → StruckIn e (record w { want = n }) lent asked p
  struck_settles lent Guard h = h
  struck_settles lent Take h = record { first = first_new h.first; second = second_new h.second }
  struck_settles lent First h = record { space = h.space; second = second_new h.second; stands = first_stands lent h.stands }
  struck_settles lent Restore h = (second_new h.0, on_map lent (λ words. RestoreStruck e w words asked) (λ words. RestoreStruck e (wanting w n) words asked) restore_struck h.1)
  struck_settles lent Second h = on_map lent (λ words. SecondStruck e w words _ asked) (λ words. SecondStruck e (wanting w n) words _ asked) (λ words. second_struck words _) h
  struck_settles lent Compare h = on_map lent (λ words. CompareStruck e w words asked) (λ words. CompareStruck e (wanting w n) words asked) compare_struck h
  struck_settles lent Verify h = on_map lent (λ words. VerifyStruck e w words asked) (λ words. VerifyStruck e (wanting w n) words asked) verify_struck h
  struck_settles lent Enter h = on_map lent (λ words. HasCopy e w words asked) (λ words. HasCopy e (wanting w n) words asked) (λ words. enter_like e w (wanting w n) alike words asked) h
  struck_settles lent Give h = on_map lent (λ words. HasCopy e w words asked) (λ words. HasCopy e (wanting w n) words asked) (λ words. enter_like e w (wanting w n) alike words asked) h
  struck_settles lent Send h = send_like e w (wanting w n) alike asked h
  struck_settles lent Done h = send_like e w (wanting w n) alike asked h
