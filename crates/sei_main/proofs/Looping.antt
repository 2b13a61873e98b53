-- Turns of the loops over steps and rounds.
use Rattle.std.proofs.Common.{◌≡◌, ℕ, ◌+◌, ◌-◌, ◌<◌, Bool, true, List, ap, sym, ◌∙◌, Option}
use Rattle.std.specs.Prelude.{◌||◌}
use Rattle.std.specs.Io.KnownBytes.{append_known}
use Rattle.sei_outside.specs.Bytes.{WrotePart}
use Rattle.sei_main.specs.Events.{Event}
use Rattle.sei_main.specs.State.{Stepping, StateOf, WentOf, round_by, round_from_by, drained_by}
use Rattle.sei_main.specs.Becomes.{Becomes}
use Rattle.sei_main.specs.Report.{events_text}
use Rattle.sei_main.proofs.Written.{Written, written_more, written_part, written_same}
use Rattle.sei_main.proofs.Steps.{round_front, or_assoc}
use Rattle.sei_main.proofs.Rounds.{IsStepping, drained_if, drain_front}

module _ {S : Type 0} (step : Stepping S) (law : IsStepping step) where
  pub round_part : (h : Bool) (old mid now : Option (List ℕ)) (count c : ℕ) (self : StateOf S) (whole : List Event) → c < count → Written h old mid (round_from_by step (count - c) c self).events whole
      → WrotePart mid now (events_text h (step self c).events) → WrotePart old now (events_text h whole)
  round_part h old mid now count c self whole l w p =
      written_part h old mid now (step self c).events (round_from_by step (count - (c + 1)) (c + 1) (step self c).state).events whole
      (written_same h old mid _ _ whole (ap (λ (x : WentOf S). x.events) (round_front step count c self l)) w) p

  pub round_written : (h : Bool) (old mid now : Option (List ℕ)) (count c : ℕ) (self new : StateOf S) (went : Bool) (whole : List Event) → c < count → Becomes new went (step self c)
      → Written h old mid (round_from_by step (count - c) c self).events whole → now ≡ append_known mid (events_text h (step self c).events)
      → Written h old now (round_from_by step (count - (c + 1)) (c + 1) new).events whole
  round_written h old mid now count c self new went whole l b w e =
      written_same h old now _ _ whole (ap (λ (s : StateOf S). (round_from_by step (count - (c + 1)) (c + 1) s).events) (sym b.state))
      (written_more h old mid now (step self c).events (round_from_by step (count - (c + 1)) (c + 1) (step self c).state).events whole
      (written_same h old mid _ _ whole (ap (λ (x : WentOf S). x.events) (round_front step count c self l)) w) e)

  pub round_state : (count c : ℕ) (self new : StateOf S) (went : Bool) → c < count → Becomes new went (step self c) → (round_from_by step (count - (c + 1)) (c + 1) new).state ≡ (round_from_by step (count - c) c self).state
  round_state count c self new went l b =
      ap (λ (s : StateOf S). (round_from_by step (count - (c + 1)) (c + 1) s).state) b.state ∙ sym (ap (λ (x : WentOf S). x.state) (round_front step count c self l))

  pub round_went : (count c : ℕ) (self new : StateOf S) (before went : Bool) → c < count → Becomes new went (step self c)
      → ((before || went) || (round_from_by step (count - (c + 1)) (c + 1) new).went) ≡ (before || (round_from_by step (count - c) c self).went)
  round_went count c self new before went l b =
      or_assoc before went _
      ∙ ap (λ (s : StateOf S). before || (went || (round_from_by step (count - (c + 1)) (c + 1) s).went)) b.state
      ∙ ap (λ (x : Bool). before || (x || (round_from_by step (count - (c + 1)) (c + 1) (step self c).state).went)) b.answered
      ∙ sym (ap (λ (x : WentOf S). before || x.went) (round_front step count c self l))

  pub drain_part : (h : Bool) (old mid now : Option (List ℕ)) (self : StateOf S) (whole : List Event) → Written h old mid (drained_by step self).events whole
      → WrotePart mid now (events_text h (round_by step self).events) → WrotePart old now (events_text h whole)
  drain_part h old mid now self whole w p =
      written_part h old mid now (round_by step self).events (drained_if step law (round_by step self).went (round_by step self).state).events whole
      (written_same h old mid _ _ whole (ap (λ (x : WentOf S). x.events) (drain_front step law self)) w) p

  pub drain_written : (h : Bool) (old mid now : Option (List ℕ)) (self new : StateOf S) (went : Bool) (whole : List Event) → Becomes new went (round_by step self)
      → Written h old mid (drained_by step self).events whole → now ≡ append_known mid (events_text h (round_by step self).events) → Written h old now (drained_if step law went new).events whole
  drain_written h old mid now self new went whole b w e =
      written_same h old now _ _ whole (ap (λ (s : StateOf S). (drained_if step law (round_by step self).went s).events) (sym b.state) ∙ ap (λ (x : Bool). (drained_if step law x new).events) (sym b.answered))
      (written_more h old mid now (round_by step self).events (drained_if step law (round_by step self).went (round_by step self).state).events whole
      (written_same h old mid _ _ whole (ap (λ (x : WentOf S). x.events) (drain_front step law self)) w) e)

  pub drain_state : (self new : StateOf S) (went : Bool) → Becomes new went (round_by step self) → (drained_if step law went new).state ≡ (drained_by step self).state
  drain_state self new went b =
      ap (λ (x : Bool). (drained_if step law x new).state) b.answered ∙ ap (λ (s : StateOf S). (drained_if step law (round_by step self).went s).state) b.state ∙ sym (ap (λ (x : WentOf S). x.state) (drain_front step law self))

  -- at a turn of the loop the last round went
  pub was_going : (h : Bool) (old mid : Option (List ℕ)) (self : StateOf S) (went : Bool) (whole : List Event) → went ≡ true → Written h old mid (drained_if step law went self).events whole → Written h old mid (drained_by step self).events whole
  was_going h old mid self went whole e w = written_same h old mid _ _ whole (ap (λ (x : Bool). (drained_if step law x self).events) e) w
