-- Turns of the loop over the lines of a script, and the report behind it.
use Rattle.std.proofs.Common.{◌≡◌, ℕ, Bool, List, [], ◌∷◌, ◌++◌, ap, sym, ◌∙◌, subst, Option}
use Rattle.sei_script.specs.AbortLines.{end_text}
use Rattle.std.specs.Io.KnownBytes.{append_known}
use Rattle.sei_outside.specs.Bytes.{WrotePart}
use Rattle.sei_outside.proofs.Public.{wrote_both, wrote_first, wrote_last}
use Rattle.sei_script.specs.declared.line.ScriptLine.{ScriptLine}
use Rattle.sei_main.specs.Events.{Event}
use Rattle.sei_main.specs.Seats.{Seat}
use Rattle.sei_main.specs.State.{Stepping, StateOf, led_by}
use Rattle.sei_main.specs.Run.{start_of, run_by}
use Rattle.sei_main.specs.Report.{events_text, line_text_by, closing_text, seats_text, report_of}
use Rattle.sei_main.proofs.Written.{Written, written_more, written_part, written_all, written_same}
use Rattle.sei_main.proofs.Runs.{later_events, later_state, run_events, run_state}

module _ {S : Type 0} (stepping : Stepping S) where
  -- all that happens in a run
  abbrev pub all_events : S → List ScriptLine → List Event
  all_events server script = later_events stepping (start_of server script).state script

  report_is : (h : Bool) (server : S) (script : List ScriptLine) → report_of h (run_by stepping server script) ≡ events_text h (all_events server script) ++ closing_text (later_state stepping (start_of server script).state script)
  report_is h server script =
      ap (λ (es : List Event). events_text h es ++ closing_text (run_by stepping server script).state) (run_events stepping (start_of server script) script)
      ∙ ap (λ (s : StateOf S). events_text h (all_events server script) ++ closing_text s) (run_state stepping (start_of server script) script)

  -- a line stops in the midst of what it leads to
  pub line_part : (h : Bool) (old mid now : Option (List ℕ)) (server : S) (script left more : List ScriptLine) (s : StateOf S) (line : ScriptLine) → left ≡ line ∷ more
      → Written h old mid (later_events stepping s left) (all_events server script) → WrotePart mid now (line_text_by stepping h s line) → WrotePart old now (report_of h (run_by stepping server script))
  line_part h old mid now server script left more s line e w p =
      subst (λ (t : List ℕ). WrotePart old now t) (sym (report_is h server script))
      (wrote_first old now (events_text h (all_events server script)) (closing_text (later_state stepping (start_of server script).state script))
      (written_part h old mid now (led_by stepping s line).events (later_events stepping (led_by stepping s line).state more) (all_events server script)
      (written_same h old mid _ _ _ (ap (later_events stepping s) e) w) p))

  pub line_written : (h : Bool) (old mid now : Option (List ℕ)) (server : S) (script left more : List ScriptLine) (s new : StateOf S) (line : ScriptLine) → left ≡ line ∷ more → new ≡ (led_by stepping s line).state
      → Written h old mid (later_events stepping s left) (all_events server script) → now ≡ append_known mid (line_text_by stepping h s line) → Written h old now (later_events stepping new more) (all_events server script)
  line_written h old mid now server script left more s new line e n w p =
      written_same h old now _ _ _ (ap (λ (x : StateOf S). later_events stepping x more) (sym n))
      (written_more h old mid now (led_by stepping s line).events (later_events stepping (led_by stepping s line).state more) (all_events server script)
      (written_same h old mid _ _ _ (ap (later_events stepping s) e) w) p)

  pub line_state : (left more : List ScriptLine) (s new : StateOf S) (line : ScriptLine) → left ≡ line ∷ more → new ≡ (led_by stepping s line).state → later_state stepping new more ≡ later_state stepping s left
  line_state left more s new line e n = ap (λ (x : StateOf S). later_state stepping x more) n ∙ sym (ap (later_state stepping s) e)

  -- behind the last line
  closing_of : (server : S) (script : List ScriptLine) (s : StateOf S) (seats : List Seat) (aborted : Bool) → seats ≡ s.seats → aborted ≡ s.aborted → s ≡ later_state stepping (start_of server script).state script
      → seats_text 0 seats ++ end_text aborted ≡ closing_text (later_state stepping (start_of server script).state script)
  closing_of server script s seats aborted e a n = ap (λ (x : List Seat). seats_text 0 x ++ end_text aborted) e ∙ ap (λ (b : Bool). seats_text 0 s.seats ++ end_text b) a ∙ ap closing_text n

  pub end_part : (h : Bool) (old mid now : Option (List ℕ)) (server : S) (script left : List ScriptLine) (s : StateOf S) (seats : List Seat) (aborted : Bool) → left ≡ [] → seats ≡ s.seats → aborted ≡ s.aborted
      → Written h old mid (later_events stepping s left) (all_events server script) → later_state stepping s left ≡ later_state stepping (start_of server script).state script
      → WrotePart mid now (seats_text 0 seats ++ end_text aborted) → WrotePart old now (report_of h (run_by stepping server script))
  end_part h old mid now server script left s seats aborted e f a w n p =
      subst (λ (t : List ℕ). WrotePart old now t) (sym (report_is h server script))
      (wrote_last old mid now (events_text h (all_events server script)) (closing_text (later_state stepping (start_of server script).state script))
      (written_all h old mid (all_events server script) (written_same h old mid _ _ _ (ap (later_events stepping s) e) w))
      (subst (λ (t : List ℕ). WrotePart mid now t) (closing_of server script s seats aborted f a (sym (ap (later_state stepping s) e) ∙ n)) p))

  pub end_all : (h : Bool) (old mid now : Option (List ℕ)) (server : S) (script left : List ScriptLine) (s : StateOf S) (seats : List Seat) (aborted : Bool) → left ≡ [] → seats ≡ s.seats → aborted ≡ s.aborted
      → Written h old mid (later_events stepping s left) (all_events server script) → later_state stepping s left ≡ later_state stepping (start_of server script).state script
      → now ≡ append_known mid (seats_text 0 seats ++ end_text aborted) → now ≡ append_known old (report_of h (run_by stepping server script))
  end_all h old mid now server script left s seats aborted e f a w n p =
      wrote_both old mid now (events_text h (all_events server script)) (closing_text (later_state stepping (start_of server script).state script))
      (written_all h old mid (all_events server script) (written_same h old mid _ _ _ (ap (later_events stepping s) e) w))
      (p ∙ ap (append_known mid) (closing_of server script s seats aborted f a (sym (ap (later_state stepping s) e) ∙ n)))
      ∙ ap (append_known old) (sym (report_is h server script))

  -- whether there was an abort
  pub aborted_is : (server : S) (script left : List ScriptLine) (s : StateOf S) (aborted : Bool) → left ≡ [] → aborted ≡ s.aborted → later_state stepping s left ≡ later_state stepping (start_of server script).state script
      → aborted ≡ (run_by stepping server script).state.aborted
  aborted_is server script left s aborted e a n =
      a ∙ ap (λ (x : StateOf S). x.aborted) (sym (ap (later_state stepping s) e) ∙ n) ∙ ap (λ (x : StateOf S). x.aborted) (sym (run_state stepping (start_of server script) script))
