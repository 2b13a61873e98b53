-- A whole first pass answers as an honest second pass by its noted time does.
use Rattle.std.proofs.Common.{◌≡◌, ℕ, zero, suc, ◌+◌, ◌≤◌, Bool, false, List, Some, ap, sym, subst, ◌∙◌, arith, refl}
use Rattle.std.proofs.lemmas.Option.{same_Some}
use Rattle.sei_log.specs.declared.notes.Notes.{Notes}
use Rattle.sei_fault.specs.Tree.{Tree}
use Rattle.sei_fault.specs.Weights.{weighed}
use Rattle.sei_stmt.specs.declared.stmt.Stmt.{Stmt}
use Rattle.sei_stmt.specs.Weights.{making, first_weighed, weighed_in, weighed_after}
use Rattle.sei_stmt.specs.Honest.{after, HonestRun}
use Rattle.sei_stmt.specs.Machine.{Machine, Setting, Outcome, After, register, one_made}
use Rattle.sei_stmt.specs.Machine.Outcome.{Next, Halted, Bad}
use Rattle.sei_stmt.specs.Passes.{notes_of}
use Rattle.sei_stmt.specs.Statements.{now_tree, alloc_by, alloc_tree, statement_tree, step_tree}
use Rattle.sei_stmt.proofs.PublicStatementRuns.{looks, plain_repeats, store_repeats, by_statements}
use Rattle.sei_stmt.proofs.PublicStatementRuns.Looks.{Stores, Times, Slots, Neither}
use Rattle.sei_pass.specs.State.{PassState}
use Rattle.sei_traverse.specs.declared.workspace.Workspace.{Workspace}
use Rattle.sei_traverse.specs.Comes.{at_time, renoted, renoted_end}
use Rattle.sei_traverse.specs.CallContext.{CallContext, first_setting, first_start, Whole}
use Rattle.sei_traverse.specs.Phases.{reply_of}
use Rattle.sei_traverse.specs.Struck.{IsAimed, IsHonestResult}
use Rattle.sei_traverse.specs.Trusted.{IsTrusted, second_setting}
use Rattle.sei_traverse.specs.Unstruck.{first_questions, InBoth}
use Rattle.sei_traverse.proofs.NoteLaws.{repeats, now_first}
use Rattle.sei_traverse.proofs.SmallNotes.{small_whole, small_sealed}
use Rattle.sei_traverse.proofs.TimeLaws.{after_again}

-- A first pass asks as much whatever is noted, and whatever the time is.

-- the time of the clock takes two questions, and the lowest slot three

asks_now : (g : Setting) (m : Machine) (i to : ℕ) → g.reading ≡ false → weighed (now_tree g i m to) ≡ 2
asks_now g m i to first = ap (λ (t : Tree After). weighed t) (now_first g i m to first)

asks_slot : (g : Setting) (m : Machine) (i to moment : ℕ) → g.reading ≡ false → weighed (alloc_tree g i m to moment) ≡ 3
asks_slot g m i to moment first = ap (λ (b : Bool). 1 + weighed (alloc_by b g i m to (register m moment))) first

asks_statement : (g : Setting) (k : Notes) (t : ℕ) (m : Machine) (i : ℕ) (s : Stmt) → g.reading ≡ false →
    weighed (statement_tree g i (renoted k m) s) ≡ weighed (statement_tree (at_time g t) i m s)
asks_statement g k t m i s first = elim (looks s) [
  | Stores address from is ↦
      subst (λ (x : Stmt). weighed (statement_tree g i (renoted k m) x) ≡ weighed (statement_tree (at_time g t) i m x)) (sym is) (store_repeats k i m address from).asked
  | Times to is ↦
      subst (λ (x : Stmt). weighed (statement_tree g i (renoted k m) x) ≡ weighed (statement_tree (at_time g t) i m x)) (sym is)
      (asks_now g (renoted k m) i to first ∙ sym (asks_now (at_time g t) m i to first))
  | Slots to moment is ↦
      subst (λ (x : Stmt). weighed (statement_tree g i (renoted k m) x) ≡ weighed (statement_tree (at_time g t) i m x)) (sym is)
      (asks_slot g (renoted k m) i to moment first ∙ sym (asks_slot (at_time g t) m i to moment first))
  | Neither plain ↦ (plain_repeats g.reading g.now (λ log. log) (λ notes. k) (at_time g t) i m s plain).asked
]

asks_step : (g : Setting) (k : Notes) (t : ℕ) (m : Machine) (i : ℕ) → g.reading ≡ false → weighed (step_tree g i (renoted k m)) ≡ weighed (step_tree (at_time g t) i m)
asks_step g k t m i first =
    by_statements g.reading g.now (λ log. log) (λ notes. k) (at_time g t) i m (λ a b. weighed b ≡ weighed a) (λ cause. refl) (λ s is. asks_statement g k t (one_made m) i s first)

asks_in : (g : Setting) (k : Notes) (t : ℕ) (m : Machine) (o : Outcome) → g.reading ≡ false → weighed_in g (renoted k m) o ≡ weighed_in (at_time g t) m o
asks_in g k t m (Next i) first = asks_step g k t m i first
asks_in g k t m Halted first = refl
asks_in g k t m (Bad cause) first = refl

-- The second pass by the notes of a whole first one.

module _ (e : CallContext) (time made : ℕ) (end : Machine) (whole : Whole e time made end) where
  again_at : (n : ℕ) → n ≤ made → after (second_setting e) (renoted end.notes (first_start e)) n ≡ renoted_end end.notes (after (at_time (first_setting e) time) (first_start e) n)
  again_at n le =
      sym (after_again (first_setting e) time (renoted end.notes (first_start e)) n)
      ∙ repeats (at_time (first_setting e) time) (first_start e) refl refl end made whole.run whole.ordered n le

  -- it ends as the first one did
  pub whole_again : HonestRun (second_setting e) (renoted end.notes (first_start e)) end made
  whole_again = record { halts = again_at made (omega arith) ∙ ap (renoted_end end.notes) whole.run.halts }

  -- and a first pass asks as much at its machines as the first one asked
  asked_same : (n : ℕ) → n ≤ made → first_weighed (second_setting e) (renoted end.notes (first_start e)) n ≡ weighed_after (at_time (first_setting e) time) (first_start e) n
  asked_same zero le = refl
  asked_same (suc n) le =
      let here : weighed_in (making (second_setting e)) (after (second_setting e) (renoted end.notes (first_start e)) n).machine (after (second_setting e) (renoted end.notes (first_start e)) n).outcome
      ≡ weighed_in (making (second_setting e)) (renoted end.notes (after (at_time (first_setting e) time) (first_start e) n).machine) (after (at_time (first_setting e) time) (first_start e) n).outcome =
      ap (λ (x : After). weighed_in (making (second_setting e)) x.machine x.outcome) (again_at n (omega (arith, le))) in
      let alike = asks_in (making (second_setting e)) end.notes time (after (at_time (first_setting e) time) (first_start e) n).machine (after (at_time (first_setting e) time) (first_start e) n).outcome refl in
      omega (arith, asked_same n (omega (arith, le)), here, alike)

  -- words and a reply that are those of its end are those of an honest run
  pub answers_whole : (trusted : IsTrusted e) (w : Workspace) (words : List ℕ) (asked : ℕ) → IsAimed e w → w.notes ≡ end.notes → words ≡ end.words → reply_of w ≡ end.bytes.items →
      first_questions e time made ≤ asked → IsHonestResult e w words asked
  answers_whole trusted w words asked aimed notes are reply questions =
      let read = trusted.reads aimed.fit end.notes end made whole_again in
      let may = small_sealed e end.notes.now read.time read.noted (small_whole e time made end end.notes whole refl) in
      record {
        aimed = aimed;
        time = read.time;
        slot = read.slot;
        end = renoted (notes_of read.time read.slot) end;
        made = made;
        noted = ap (λ (n : Notes). n.now) notes ∙ read.noted;
        small = may.0;
        told = may.1;
        run = read.run;
        words_are = are;
        reply = reply;
        questions = omega (arith, questions, read.asked, asked_same made (omega arith));
      }

-- where both passes have come to the same end, the words and the reply are those of an honest run
pub answers_clean : (e : CallContext) → IsTrusted e → (w : Workspace) (words : List ℕ) (time made : ℕ) (end : Machine) (asked : ℕ) → IsAimed e w →
    InBoth e w (Some words) time made end asked → IsHonestResult e w words asked
answers_clean e trusted w words time made end asked aimed b =
    answers_whole e time made end b.whole trusted w words asked aimed b.first.notes (same_Some words end.words b.words)
    (ap (λ (p : PassState). p.bytes.items) b.second.second) (omega (arith, b.questions))
