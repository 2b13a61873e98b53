-- The call context of a sound handler is trusted, and is answered.
use Rattle.std.specs.Prelude.{slice_get}
use Rattle.std.proofs.Common.{◌≡◌, ℕ, ◌^◌, ◌<◌, inl, inr, true, List, Option, Some, None, refl, sym, ap, ◌∙◌, subst, arith}
use Rattle.std.proofs.lemmas.Bool.{lt-ltb, ltb-true}
use Rattle.sei_code.specs.Coded.{sealed, read_of}
use Rattle.sei_log.specs.declared.notes.Notes.{Notes}
use Rattle.sei_fault.specs.declared.cause.AbortCause.TheVariants.{Notes as NoNotes}
use Rattle.sei_stmt.specs.declared.stmt.Stmt.TheVariants.{Now}
use Rattle.sei_stmt.specs.Handling.{Parsed}
use Rattle.sei_stmt.specs.Honest.{after, HonestRun}
use Rattle.sei_stmt.specs.Machine.{Machine, After}
use Rattle.sei_stmt.specs.Machine.Outcome.{Next}
use Rattle.sei_stmt.specs.Order.{finished}
use Rattle.sei_stmt.specs.Passes.{Space, notes_of}
use Rattle.sei_stmt.specs.Passes.IsTold.{ByNotes}
use Rattle.sei_stmt.specs.Sound.{Serves}
use Rattle.sei_stmt.specs.Sound.Serves.{Well, Unfit}
use Rattle.sei_stmt.proofs.Public.{halts_or_aborts, one_end, IsGoing}
use Rattle.sei_pass.specs.Setting.{call_at}
use Rattle.sei_traverse.specs.Comes.{renoted, renoted_end}
use Rattle.sei_traverse.specs.declared.workspace.Workspace.{Workspace}
use Rattle.sei_traverse.specs.CallContext.{CallContext, IsFitContext, first_setting, first_start, given_in}
use Rattle.sei_traverse.specs.Given.{has_call, has_sealed_call, call_of}
use Rattle.sei_traverse.specs.Sound.{IsServedBy, IsModelAnswer}
use Rattle.sei_traverse.specs.Struck.{IsHonestResult}
use Rattle.sei_traverse.specs.Trusted.{PassesGuard, second_setting, ReadsNotes, IsTrusted}
use Rattle.sei_traverse.proofs.ReadingLaws.{Says, SaysNothing, seal_or_nothing, seal_says, nothing_says, something_said, alike_run, halting_goes, alike_asked, untimed_run, untimed_stage}
use Rattle.sei_traverse.proofs.SoundLaws.{serves_at, ends_at}

-- an index that reads, and is below the number of calls
has_index : (calls nth : Option ℕ) → has_call calls nth ≡ true → (n : ℕ) × (count : ℕ) × (nth ≡ Some n) × (calls ≡ Some count) × (n < count)
has_index None nth e = absurd cc
has_index (Some count) None e = absurd cc
has_index (Some count) (Some n) e = (n, count, refl, refl, ltb-true n count e)

call_index : (parsed : ℕ → Option Parsed) (nth : Option ℕ) (p : Parsed) → call_at parsed nth ≡ Some p → (n : ℕ) × (nth ≡ Some n)
call_index parsed None p e = absurd cc
call_index parsed (Some n) p e = (n, refl)

module _ {B : Type 0} (space : List ℕ → ℕ → Space) (Before Stands : List ℕ → B → Type 0) (answer : List ℕ → ℕ → B → ℕ → B × List ℕ) (e : CallContext) (h : IsServedBy space Before Stands answer e) where
  has_called : has_sealed_call (given_in e) e.sealed ≡ true → call_of (given_in e) e.sealed ≡ Some e.call
  has_called has =
      let i = has_index (e.behavior.calls e.input) (read_of e.sealed.nth) has in
      let found = h.handler.counted e.input i.0 i.1 i.3 i.4 in
      let called : call_of (given_in e) e.sealed ≡ Some found.0 = ap (call_at (e.behavior.parsed e.input)) i.2 ∙ found.1 in
      called ∙ ap (λ (p : Parsed). let o : Option Parsed = Some p in o) (sym (h.call found.0 called))

  called_has : (p : Parsed) → call_of (given_in e) e.sealed ≡ Some p → has_sealed_call (given_in e) e.sealed ≡ true
  called_has p called =
      let i = call_index (e.behavior.parsed e.input) (read_of e.sealed.nth) p called in
      let c = h.handler.found e.input i.0 p (ap (call_at (e.behavior.parsed e.input)) (sym i.1) ∙ called) in
      ap (has_call (e.behavior.calls e.input)) i.1 ∙ ap (λ o. has_call o (Some i.0)) c.1 ∙ lt-ltb i.0 c.0 c.2

  -- of a fit input, the index of its call
  nth_of : PassesGuard e → (n : ℕ) × (read_of e.sealed.nth ≡ Some n)
  nth_of fit = call_index (e.behavior.parsed e.input) (read_of e.sealed.nth) e.call fit.called

  parsed_at : (fit : PassesGuard e) → e.behavior.parsed e.input (nth_of fit).0 ≡ Some e.call
  parsed_at fit = ap (call_at (e.behavior.parsed e.input)) (sym (nth_of fit).1) ∙ fit.called

  -- the second pass by notes of a time and a slot
  serves_noted : (fit : PassesGuard e) (time slot : ℕ) → time < 2 ^ 64 →
      Serves (second_setting e) (λ ws. Stands ws (answer e.input (nth_of fit).0 h.held time).0) (answer e.input (nth_of fit).0 h.held time).1 (renoted (notes_of time slot) (first_start e))
  serves_noted fit time slot small =
      serves_at space Before Stands answer e h.handler.sound h.bytes (nth_of fit).0 (parsed_at fit) (h.space (nth_of fit).0 (nth_of fit).1) (second_setting e)
      (record { statements_are = refl; rendered_are = refl; budget_is = refl; slots_are = refl; free_are = refl })
      (record { intact = fit.intact; parsed = fit.called; lent = refl }) h.held h.begins time small (notes_of time slot) (ByNotes refl slot refl)

  module _ (fit : PassesGuard e) (notes : Notes) (end : Machine) (made : ℕ) (run : HonestRun (second_setting e) (renoted notes (first_start e)) end made) where
    going : (n : ℕ) → IsGoing (after (second_setting e) (renoted notes (first_start e)) n).outcome
    going = halting_goes (second_setting e) (renoted notes (first_start e)) end made run

    slot_is : (s : ℕ) × Says notes.slot s
    slot_is = something_said notes.slot

    -- the run by what the notes say is the same but for the notes
    one_run : (time : ℕ) → Says notes.now time → (n : ℕ) →
        after (second_setting e) (renoted (notes_of time slot_is.0) (first_start e)) n ≡ renoted_end (notes_of time slot_is.0) (after (second_setting e) (renoted notes (first_start e)) n)
    one_run time now n = (alike_run (first_setting e) time slot_is.0 (first_start e) notes now slot_is.1 going n).ended

    notes_left : (time : ℕ) → Says notes.now time → (n : ℕ) → (after (second_setting e) (renoted notes (first_start e)) n).machine.notes ≡ notes
    notes_left time now n = (alike_run (first_setting e) time slot_is.0 (first_start e) notes now slot_is.1 going n).left

    one_halts : (time : ℕ) → Says notes.now time → HonestRun (second_setting e) (renoted (notes_of time slot_is.0) (first_start e)) (renoted (notes_of time slot_is.0) end) made
    one_halts time now = record { halts = one_run time now made ∙ ap (renoted_end (notes_of time slot_is.0)) run.halts }

    -- a noted time that says nothing is never taken, so the pass would not come to its end in order
    timeless : SaysNothing notes.now → ⊥
    timeless silent = by_end (serves_noted fit 0 slot_is.0 (omega arith))
      where
        says : Says notes.now 0
        says = nothing_says notes.now 0 silent

        untaken : (n i to : ℕ) → (after (second_setting e) (renoted (notes_of 0 slot_is.0) (first_start e)) n).outcome ≡ Next i → slice_get e.behavior.statements i ≡ Some (Now to) → ⊥
        untaken n i to next = untimed_run (first_setting e) (first_start e) notes silent going (notes_left 0 says) n i to (sym (ap (λ (x : After). x.outcome) (one_run 0 says n)) ∙ next)

        by_end : Serves (second_setting e) (λ ws. Stands ws (answer e.input (nth_of fit).0 h.held 0).0) (answer e.input (nth_of fit).0 h.held 0).1 (renoted (notes_of 0 slot_is.0) (first_start e)) → ⊥
        by_end (Well last steps w) = omega (arith, untimed_stage (second_setting e) (renoted (notes_of 0 slot_is.0) (first_start e)) untaken steps finished w.ordered)
        by_end (Unfit second m n bad) = halts_or_aborts (second_setting e) (renoted (notes_of 0 slot_is.0) (first_start e)) m (renoted (notes_of 0 slot_is.0) end) NoNotes n made bad (one_halts 0 says).halts

    read_by : (time : ℕ) → notes.now ≡ Some (sealed time) → ReadsNotes e notes end made
    read_by time noted = record {
      time = time;
      slot = slot_is.0;
      noted = noted;
      run = one_halts time (seal_says notes.now time noted);
      asked = alike_asked (second_setting e) (notes_of time slot_is.0) (renoted notes (first_start e)) (renoted (notes_of time slot_is.0) (first_start e)) (one_run time (seal_says notes.now time noted)) made;
    }

    -- a second pass that halts has read its notes
    reads : ReadsNotes e notes end made
    reads = elim (seal_or_nothing notes.now) [
      | inl p ↦ read_by p.0 p.1
      | inr silent ↦ absurd (timeless silent)
    ]

  -- what a sound handler serves may be trusted
  pub sound_is_trusted : IsTrusted e
  sound_is_trusted = record {
    parses = h.handler.parses;
    has_called = has_called;
    called_has = called_has;
    bucket = λ fit. h.handler.there e.input (nth_of fit).0 e.call (parsed_at fit);
    clock = h.clock;
    ends = λ fit now small. ends_at space Before Stands answer e h.handler.sound h.bytes (nth_of fit).0 (parsed_at fit) (h.space (nth_of fit).0 (nth_of fit).1) fit.intact fit.called h.held h.begins now small;
    reads = reads;
  }

  -- the words that are to be entered are those of the answer
  pub is_answered : (w : Workspace) (words : List ℕ) (asked : ℕ) (a : IsHonestResult e w words asked) → IsModelAnswer Stands answer h.held e w words
  is_answered w words asked a = by_end (serves_noted a.aimed.fit a.time a.slot a.small)
    where
      nth : ℕ
      nth = (nth_of a.aimed.fit).0

      start : Machine
      start = renoted (notes_of a.time a.slot) (first_start e)

      answered : (end : Machine) → end ≡ a.end → Stands end.words (answer e.input nth h.held a.time).0 → end.bytes.items ≡ (answer e.input nth h.held a.time).1 → IsModelAnswer Stands answer h.held e w words
      answered end same stands replied = record {
        nth = nth;
        reads = (nth_of a.aimed.fit).1;
        time = a.time;
        noted = a.noted;
        stands = subst (λ ws. Stands ws (answer e.input nth h.held a.time).0) (ap (λ (m : Machine). m.words) same ∙ sym a.words_are) stands;
        reply = a.reply ∙ ap (λ (m : Machine). m.bytes.items) (sym same) ∙ replied;
      }

      by_end : Serves (second_setting e) (λ ws. Stands ws (answer e.input nth h.held a.time).0) (answer e.input nth h.held a.time).1 start → IsModelAnswer Stands answer h.held e w words
      by_end (Well end steps s) = answered end (one_end (second_setting e) start end a.end steps a.made s.run a.run) s.held s.replied
      by_end (Unfit second m n bad) = absurd (halts_or_aborts (second_setting e) start m a.end NoNotes n a.made bad a.run.halts)

-- what is trusted and fit is a call context
pub fit_is_context : (e : CallContext) → IsTrusted e → PassesGuard e → IsFitContext e
fit_is_context e t fit = record { intact = fit.intact; has = fit.has; called = fit.called; bucket = t.bucket fit; clock = t.clock; ends = t.ends fit }
