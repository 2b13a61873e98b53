-- A whole pass that nothing struck.
use Rattle.std.specs.Prelude.{◌≡◌, ℕ, Option}
use Rattle.sei_fault.specs.Chain.{Chain}
use Rattle.sei_fault.specs.Counts.{Counts}
use Rattle.sei_fault.specs.Question.{Question, Answer}
use Rattle.sei_stmt.specs.Machine.{Machine, Setting}
use Rattle.sei_pass.specs.Steps.{StepsAt, begun_pass, halted_pass}

-- n steps lead from before the first statement to `Halt`, whatever the clock tells, with notes that don't speak against this
-- time, and no strike falls in them
pub record WholePass {S : Type 0} (gives : S → (q : Question) → Answer q → S → Type 0) (counts : S → Counts) (told : Option ℕ) (g : Setting) (time n : ℕ) (start end : Machine) : Type 0 where
  pub first : S
  pub last : S
  pub steps : Chain (StepsAt gives counts told g time) n (begun_pass start first) (halted_pass end last)
  pub unstruck : (counts last).struck ≡ (counts first).struck
