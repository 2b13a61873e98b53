-- Without a strike, twice as many questions were asked as the honest run asks of which Enter, Give and Send speak.
use Rattle.std.proofs.Common.{◌≡◌, ℕ, ◌*◌, ◌≤◌, List, [], ◌∷◌, Option, refl, sym, ap, ◌∙◌, subst, arith}
use Rattle.sei_fault.specs.Phases.{phase_number}
use Rattle.sei_fault.specs.declared.place.Phase.{Phase}
use Rattle.sei_fault.specs.declared.place.Phase.TheVariants.{Guard, Take, First, Restore, Second, Compare, Verify, Enter, Give, Send, Done}
use Rattle.sei_pass.specs.State.{PassState}
use Rattle.sei_stmt.specs.Machine.{Machine}
use Rattle.sei_traverse.specs.declared.turned.Want.{Want}
use Rattle.sei_traverse.specs.declared.turned.Want.TheVariants.{Nothing}
use Rattle.sei_traverse.specs.declared.workspace.Workspace.{Workspace}
use Rattle.sei_traverse.specs.CallContext.{CallContext, Whole}
use Rattle.sei_traverse.specs.FaultInvariant.{Knows, Wanted, IsLikeWorkspace}
use Rattle.sei_traverse.specs.Phases.{reply_of, send_want, closing_want}
use Rattle.sei_traverse.specs.Struck.{IsAimed, IsHonestResult, HasCopyOfSome, OnLent}
use Rattle.sei_traverse.specs.Trusted.{IsTrusted}
use Rattle.sei_traverse.specs.Unstruck.{SecondIsDone, HasOutput, InBoth, CleanIn, first_questions}
use Rattle.sei_traverse.proofs.ClosesNext.{ClosesNext}
use Rattle.sei_traverse.proofs.ClosesNext.ClosesNext.{Stays, Closes, Lacks}
use Rattle.sei_traverse.proofs.CleanAnswers.{answers_whole}
use Rattle.sei_traverse.proofs.StepEnds.{same_phase}

-- what is wanted is so with a number of questions of which twice were asked
abbrev pub Halved : CallContext → Workspace → Option (List ℕ) → ℕ → Want → Type 0
Halved e w lent asked want = (n : ℕ) × (2 * n ≤ asked) × Wanted e w lent n want

-- where nothing is wanted, nothing is said of the number
halved_nothing : (e : CallContext) (w : Workspace) (lent : Option (List ℕ)) (asked : ℕ) (want : Want) → want ≡ Nothing → Halved e w lent asked want
halved_nothing e w lent asked want none = (0, omega arith, subst (λ (n : Want). Wanted e w lent 0 n) (sym none) tt)

module _ (e : CallContext) (trusted : IsTrusted e) (w : Workspace) (time made : ℕ) (end : Machine) (aimed : IsAimed e w) where
  -- the answers of a clean second pass, with the questions of the first one alone
  answers_half : Whole e time made end → SecondIsDone e w end → w.notes ≡ end.notes → IsHonestResult e w end.words (first_questions e time made)
  answers_half whole second notes =
      answers_whole e time made end whole trusted w end.words (first_questions e time made) aimed notes refl (ap (λ (p : PassState). p.bytes.items) second.second) (omega arith)

  pub sends_half : (asked : ℕ) → HasOutput e w time made end asked → HasCopyOfSome e w (first_questions e time made)
  sends_half asked i = record {
    words = end.words;
    answered = record { answers = answers_half i.whole i.second i.notes; wire = i.copy ∙ sym (ap (λ (p : PassState). p.bytes.items) i.second.second) };
  }

-- a workspace from which nothing was changed
module _ (e : CallContext) (trusted : IsTrusted e) (w v : Workspace) (like : IsLikeWorkspace w v) (lent left : Option (List ℕ)) (same : left ≡ lent) (aimed : IsAimed e w) (time made : ℕ) (end : Machine) (asked : ℕ) where
  aimed_on : IsAimed e v
  aimed_on = record { fit = aimed.fit; wanted = like.wanted ∙ aimed.wanted }

  second_on : SecondIsDone e w end → SecondIsDone e v end
  second_on s = record { second = like.second ∙ s.second; second_log = like.second_log ∙ s.second_log }

  words_half : InBoth e w lent time made end asked → OnLent left (λ (words : List ℕ). IsHonestResult e v words (first_questions e time made))
  words_half b =
      subst (λ (l : Option (List ℕ)). OnLent l (λ (words : List ℕ). IsHonestResult e v words (first_questions e time made))) (sym (same ∙ b.words))
      (answers_half e trusted v time made end aimed_on b.whole (second_on b.second) (like.notes ∙ b.first.notes))

  answered_on : HasOutput e w time made end asked → HasOutput e v time made end asked
  answered_on i = record {
    whole = i.whole;
    second = second_on i.second;
    notes = like.notes ∙ i.notes;
    copy = ap (λ k. k.items) like.wire ∙ i.copy;
    questions = i.questions;
  }

  send_half : HasOutput e w time made end asked → (bytes : List ℕ) (number : ℕ) → Wanted e v left number (send_want bytes) → Halved e v left asked (send_want bytes)
  send_half i [] number wanted = (0, omega arith, tt)
  send_half i (byte ∷ bytes) number wanted = (first_questions e time made, i.questions, (sends_half e trusted v time made end aimed_on asked (answered_on i), wanted.1))

module _ (e : CallContext) (trusted : IsTrusted e) (w v : Workspace) (lent left : Option (List ℕ)) (steps asked number : ℕ) where
  closing_half : (p : Phase) → (7 ≤ phase_number p → IsLikeWorkspace w v × (left ≡ lent)) → CleanIn e w lent steps asked p → Knows e w p → Wanted e v left number (closing_want v p) → Halved e v left asked (closing_want v p)
  closing_half Guard still i knows wanted = (0, omega arith, tt)
  closing_half Take still i knows wanted = (0, omega arith, wanted)
  closing_half First still i knows wanted = (0, omega arith, tt)
  closing_half Restore still i knows wanted = (0, omega arith, tt)
  closing_half Second still i knows wanted = (0, omega arith, tt)
  closing_half Compare still i knows wanted = (0, omega arith, tt)
  closing_half Verify still i knows wanted = (0, omega arith, tt)
  closing_half Enter still i knows wanted =
      let on = still (omega arith) in
      (first_questions e i.time i.made, i.both.questions, words_half e trusted w v on.0 lent left on.1 knows i.time i.made i.end asked i.both)
  closing_half Give still i knows wanted =
      let on = still (omega arith) in
      (first_questions e i.time i.made, i.both.questions, words_half e trusted w v on.0 lent left on.1 knows i.time i.made i.end asked i.both)
  closing_half Send still i knows wanted =
      let on = still (omega arith) in
      send_half e trusted w v on.0 lent left on.1 knows i.time i.made i.end asked i.answered (reply_of v) number wanted
  closing_half Done still i knows wanted = (0, omega arith, tt)

  -- what a step wants without a strike is so with half of the questions that were asked before it
  pub halves : (ended : Type 0) → w.gate.done ≡ phase_number w.place.phase → (7 ≤ w.gate.done → IsLikeWorkspace w v × (left ≡ lent)) → CleanIn e w lent steps asked w.place.phase → Knows e w w.place.phase →
      ClosesNext e w.gate.done v ended → Wanted e v left number v.want → Halved e v left asked v.want
  halves ended gate still clean knows (Stays at none) wanted = halved_nothing e v left asked v.want none
  halves ended gate still clean knows (Closes phase is at want) wanted =
      let same : w.place.phase ≡ phase = same_phase w.place.phase phase (sym gate ∙ is) in
      subst (λ (n : Want). Halved e v left asked n) (sym want)
      (closing_half phase (λ seven. still (omega (arith, seven, is))) (subst (λ (p : Phase). CleanIn e w lent steps asked p) same clean) (subst (λ (p : Phase). Knows e w p) same knows)
      (subst (λ (n : Want). Wanted e v left number n) want wanted))
  halves ended gate still clean knows (Lacks is at none lacks end) wanted = halved_nothing e v left asked v.want none
