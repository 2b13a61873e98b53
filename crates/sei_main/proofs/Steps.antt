-- Steps, one behind another.
use Rattle.std.proofs.Common.{◌≡◌, ℕ, suc, ◌+◌, ◌-◌, ◌<◌, Bool, true, false, List, refl, ap, ◌∙◌, arith}
use Rattle.std.specs.Prelude.{◌||◌}
use Rattle.std.proofs.lemmas.List.{append_assoc, append-nil}
use Rattle.sei_main.specs.Events.{Event}
use Rattle.sei_main.specs.State.{Stepping, StateOf, ToldOf, WentOf, told, behind, idle, round_from_by}

pub or_assoc : (a b c : Bool) → ((a || b) || c) ≡ (a || (b || c))
or_assoc true b c = refl
or_assoc false b c = refl

pub or_false : (a : Bool) → (a || false) ≡ a
or_false true = refl
or_false false = refl

module _ {S : Type 0} where
  -- two steps tell what the one behind the other tells
  pub told_behind : (t : ToldOf S) (w : WentOf S) (f : StateOf S → WentOf S) → told (told t w) (f w.state) ≡ told t (behind w f)
  told_behind t w f = ap (λ (es : List Event). record { state = (f w.state).state; events = es }) (append_assoc t.events w.events (f w.state).events)

  pub told_idle : (t : ToldOf S) → told t (idle t.state) ≡ t
  told_idle t = ap (λ (es : List Event). record { state = t.state; events = es }) (append-nil t.events)

  pub behind_idle : (w : WentOf S) → behind w idle ≡ w
  behind_idle w =
      ap (λ (es : List Event). record { state = w.state; events = es; went = w.went || false }) (append-nil w.events)
      ∙ ap (λ (b : Bool). record { state = w.state; events = w.events; went = b }) (or_false w.went)

module _ {S : Type 0} (step : Stepping S) where
  -- a round from connection c on is a step of c, and then a round from the next one on
  pub round_front : (count c : ℕ) (s : StateOf S) → c < count → round_from_by step (count - c) c s ≡ behind (step s c) (round_from_by step (count - (c + 1)) (c + 1))
  round_front count c s h = let k : count - c ≡ suc (count - (c + 1)) = omega arith in ap (λ (n : ℕ). round_from_by step n c s) k
