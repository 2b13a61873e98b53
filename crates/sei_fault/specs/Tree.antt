-- A piece of work as an interaction tree: what it asks, in order, and what it does with the answers.
use Rattle.std.specs.Prelude.{◌≡◌, ℕ, ◌+◌}
use Rattle.sei_fault.specs.Counts.{Counts, Answered}
use Rattle.sei_fault.specs.Question.{Question, Answer, honestly_to}

pub data Tree (R : Type 0) : Type 0 where
  Done : R → Tree R
  Ask : (q : Question) → (Answer q → Tree R) → Tree R

-- under this relation of a core, the work may end with x, and lead the core from s to t
abbrev pub Runs : {S R : Type 0} → (S → (q : Question) → Answer q → S → Type 0) → Tree R → S → S → R → Type 0
Runs gives (Done r) s t x = (x ≡ r) × (t ≡ s)
Runs gives (Ask q k) s t x = (a : Answer q) × (m : _) × gives s q a m × Runs gives (k a) m t x

-- the relation of a core of which only the counts are known
abbrev pub any_core : Counts → (q : Question) → Answer q → Counts → Type 0
any_core c q a d = Answered (a ≡ honestly_to q) c d

-- the end if each answer is honest: the honest run
abbrev pub honest : {R : Type 0} → Tree R → R
honest (Done r) = r
honest (Ask q k) = honest (k (honestly_to q))

-- how many questions the honest run asks
abbrev pub questions : {R : Type 0} → Tree R → ℕ
questions (Done r) = 0
questions (Ask q k) = 1 + questions (k (honestly_to q))

-- one piece of work after another
abbrev pub bound : {A B : Type 0} → Tree A → (A → Tree B) → Tree B
bound (Done r) f = f r
bound (Ask q k) f = Ask q (λ a. bound (k a) f)

-- P holds of the end, whatever the answers are
abbrev pub Always : {R : Type 0} → (R → Type 0) → Tree R → Type 0
Always P (Done r) = P r
Always P (Ask q k) = (a : Answer q) → Always P (k a)
