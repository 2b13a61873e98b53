-- The lines of a script that are left, behind those that were run.
use Rattle.std.proofs.Common.{◌≡◌, ℕ, ◌≤◌, List, ◌∷◌, length, ◌∙◌, ap, arith}
use Rattle.sei_script.specs.declared.line.ScriptLine.{ScriptLine}
use Rattle.sei_script.specs.Effects.{Effect, Opens, effect_of}
use Rattle.sei_script.specs.declared.line.Context.{Context}
use Rattle.sei_script.specs.Limits.{most_connections}
use Rattle.sei_script.specs.Context.{context_by, context_after}
use Rattle.sei_script.specs.Fit.{IsPlaced, AreFit}
use Rattle.sei_main.specs.State.{Stepping, StateOf, led_by}
use Rattle.sei_main.proofs.Rounds.{IsStepping, led_length}

-- lines that may be run where so many connections are open
pub record FitBehind (opens : ℕ) (script : List ScriptLine) : Type 0 where
  pub context : Context
  pub opens_is : opens ≡ context.opens
  pub few : opens ≤ most_connections
  pub fit : AreFit context script

few_by : (opens : ℕ) (x : Context) (e : Effect) → opens ≡ x.opens → opens ≤ most_connections → IsPlaced x e → (context_by x e).opens ≤ most_connections
few_by opens x (Opens c mode) e h f = omega (arith, f.1, f.2)
few_by opens x other e h f = omega (arith, e, h)

module _ {S : Type 0} (step : Stepping S) (law : IsStepping step) where
  -- and the lines behind it may be run then
  pub fit_next : (s new : StateOf S) (line : ScriptLine) (script : List ScriptLine) → new ≡ (led_by step s line).state → FitBehind (length s.seats) (line ∷ script) → FitBehind (length new.seats) script
  fit_next s new line script e f =
      let size : length new.seats ≡ (context_after f.context line).opens = ap (λ (x : StateOf S). length x.seats) e ∙ led_length step law s f.context line f.opens_is in
      record {
        context = context_after f.context line;
        opens_is = size;
        few = omega (arith, size, few_by (length s.seats) f.context (effect_of line) f.opens_is f.few f.fit.0);
        fit = f.fit.1;
      }
