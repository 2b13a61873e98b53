-- The run of a script, line by line. Nothing here looks into what a line does.
use Rattle.std.proofs.Common.{◌≡◌, ◌+◌, ◌<◌, ℕ, List, [], ◌∷◌, ◌++◌, length, drop, get_or, refl, ap, sym, ◌∙◌}
use Rattle.std.proofs.lemmas.List.{append_assoc, append-nil, drop_more}
use Rattle.sei_script.specs.declared.line.ScriptLine.{ScriptLine}
use Rattle.sei_main.specs.Events.{Event}
use Rattle.sei_main.specs.State.{Stepping, StateOf, ToldOf, led_by}
use Rattle.sei_main.specs.Run.{after_by, run_from_by}

-- the lines from one on
pub lines_front : (script : List ScriptLine) (i : ℕ) (line : ScriptLine) → i < length script → line ≡ get_or script i line → drop i script ≡ line ∷ drop (i + 1) script
lines_front script i line l e = drop_more script i line l ∙ ap (λ (x : ScriptLine). x ∷ drop (i + 1) script) (sym e)

module _ {S : Type 0} (stepping : Stepping S) where
  -- the events of what is left of a script
  abbrev pub later_events : StateOf S → List ScriptLine → List Event
  later_events s [] = []
  later_events s (line ∷ lines) = (led_by stepping s line).events ++ later_events (led_by stepping s line).state lines

  -- the state behind what is left of it
  abbrev pub later_state : StateOf S → List ScriptLine → StateOf S
  later_state s [] = s
  later_state s (line ∷ lines) = later_state (led_by stepping s line).state lines

  pub run_events : (t : ToldOf S) (lines : List ScriptLine) → (run_from_by stepping t lines).events ≡ t.events ++ later_events t.state lines
  run_events t [] = sym (append-nil t.events)
  run_events t (line ∷ lines) = run_events (after_by stepping t line) lines ∙ append_assoc t.events (led_by stepping t.state line).events (later_events (led_by stepping t.state line).state lines)

  pub run_state : (t : ToldOf S) (lines : List ScriptLine) → (run_from_by stepping t lines).state ≡ later_state t.state lines
  run_state t [] = refl
  run_state t (line ∷ lines) = run_state (after_by stepping t line) lines
