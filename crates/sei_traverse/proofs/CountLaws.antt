-- Neither count of a core falls in a step.
use Rattle.std.proofs.Common.{◌≡◌, ℕ, ◌-◌, ◌^◌, ◌<◌, ◌≤◌, Option, arith}
use Rattle.std.specs.Prelude.{min}
use Rattle.sei_fault.specs.Counts.{Counts, Answered}
use Rattle.sei_fault.specs.Question.{Question, Answer, honestly_to}
use Rattle.sei_fault.specs.Tree.{Tree}
use Rattle.sei_fault.proofs.Public.{counted_runs, grows, never_falls}
use Rattle.sei_traverse.specs.Step.{TimedTwice}

-- a count that grew below its last value, or stands at it, did not fall
no_less : (a b last : ℕ) → (b < last → a ≤ b) → min a last ≤ b
no_less a b last up = grind (arith, up)

module _ {S R : Type 0} (gives : S → (q : Question) → Answer q → S → Type 0) (counts : S → Counts)
    (law : (s : S) (q : Question) (a : Answer q) (t : S) → gives s q a t → Answered (a ≡ honestly_to q) (counts s) (counts t))
    (told : Option ℕ) (tree : ℕ → ℕ → Tree R) (s t : S) (x : R) (turned : TimedTwice gives told tree s t x) where
  -- no question is taken back
  pub asked_turned : min (counts s).asked (2 ^ 128 - 1) ≤ (counts t).asked
  asked_turned = no_less _ _ _ (grows (tree turned.now turned.later) (counts s) (counts t) x (counted_runs gives counts law (tree turned.now turned.later) s t x turned.runs))

  -- nor is a strike
  pub struck_turned : (counts s).struck ≤ (counts t).struck
  struck_turned = never_falls (tree turned.now turned.later) (counts s) (counts t) x (counted_runs gives counts law (tree turned.now turned.later) s t x turned.runs)
