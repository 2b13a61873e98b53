-- How many strikes came in a run, and how it may end then.
use Rattle.std.specs.Prelude.{◌≡◌, ℕ, ◌+◌, ◌-◌, ◌^◌, ◌<◌, ◌≤◌, ◌⊎◌}
use Rattle.sei_fault.specs.Counts.{Counts}
use Rattle.sei_fault.specs.Question.{Answer, honestly_to}
use Rattle.sei_fault.specs.Tree.{Tree, honest}
use Rattle.sei_fault.specs.Tree.Tree.{Done, Ask}

-- the work ends with x if one answer is any answer, and each other one is honest
abbrev pub OneStrike : {R : Type 0} → Tree R → R → Type 0
OneStrike (Done r) x = ⊥
OneStrike (Ask q k) x = ((a : Answer q) × (x ≡ honest (k a))) ⊎ OneStrike (k (honestly_to q)) x

-- no strike came: the end is the clean one, and n questions were counted, unless their count is at its last value. Or
-- one came, or more
pub data Split {R : Type 0} (x clean : R) (once : Type 0) (n : ℕ) (c d : Counts) : Type 0 where
  Clean : x ≡ clean → d.struck ≡ c.struck → (d.asked < 2 ^ 128 - 1 → d.asked ≡ c.asked + n) → Split x clean once n c d
  Once : once → d.struck ≡ c.struck + 1 → Split x clean once n c d
  More : c.struck + 2 ≤ d.struck → Split x clean once n c d
