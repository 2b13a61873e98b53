-- What a core counts, and how one question changes it.
use Rattle.std.specs.Prelude.{◌≡◌, ℕ, ◌+◌, ◌-◌, ◌^◌, ◌≤◌, Option, Some, None, min}

-- its questions, its strikes, and the strikes that can still come, if the core tells that
pub record Counts : Type 0 where
  pub asked : ℕ
  pub struck : ℕ
  pub room : Option ℕ

-- one question more; at the last value of a u128 the count does not change
abbrev pub counted : ℕ → ℕ
counted n = min (n + 1) (2 ^ 128 - 1)

-- strikes that can still come: a number that is told was above 0 and is less by one, and one that is not told stays so
abbrev pub Lowered : Option ℕ → Option ℕ → Type 0
Lowered None None = Unit {0}
Lowered None (Some s) = ⊥
Lowered (Some r) None = ⊥
Lowered (Some r) (Some s) = r ≡ s + 1

-- the counts after an honest answer
abbrev pub after_honest : Counts → Counts
after_honest c = record { asked = counted c.asked; struck = c.struck; room = c.room }

-- one question: its answer is honest and only counted, or this very call struck
pub data Answered (IsHonest : Type 0) (old new : Counts) : Type 0 where
  Honest : IsHonest → new ≡ after_honest old → Answered IsHonest old new
  Struck : new.asked ≡ counted old.asked → new.struck ≡ old.struck + 1 → Lowered old.room new.room → Answered IsHonest old new

-- the core tells how many strikes can still come, and they are one at most
abbrev pub IsAtMostOne : Option ℕ → Type 0
IsAtMostOne None = ⊥
IsAtMostOne (Some r) = r ≤ 1
