-- The core that never strikes, by the number of its questions.
use Rattle.std.specs.Prelude.{◌≡◌, ℕ, Some}
use Rattle.std.proofs.Common.{ap}
use Rattle.sei_fault.specs.Counts.{Counts, Answered, counted}
use Rattle.sei_fault.specs.Counts.Answered.{Honest}
use Rattle.sei_fault.specs.Question.{Question, Answer, honestly_to}
use Rattle.sei_fault.specs.Scripted.{function_core}

-- this number of questions, no strike, and none that can fall
abbrev pub plain_counts : ℕ → Counts
plain_counts asked = record { asked = asked; struck = 0; room = Some 0 }

-- each answer is honest
abbrev pub plain_answer : ℕ → (q : Question) → Answer q
plain_answer asked q = honestly_to q

-- one question more
abbrev pub plain_next : ℕ → Question → ℕ
plain_next asked q = counted asked

-- its law as a core
pub plain_lawful : (s : ℕ) (q : Question) (a : Answer q) (t : ℕ) → function_core plain_answer plain_next s q a t → Answered (a ≡ honestly_to q) (plain_counts s) (plain_counts t)
plain_lawful s q a t (e, f) = Honest e (ap plain_counts f)
