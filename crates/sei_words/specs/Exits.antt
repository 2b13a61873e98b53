-- What is lent, as a call begins and as it returns.
use Rattle.std.specs.Prelude.{Option, Some, None, ◌⊎◌}
use Rattle.std.proofs.Common.{inl, inr}
use denote.MutBor.{MutBor}
use Rattle.sei_words.specs.Words.{BucketWords}

abbrev pub lent_at : Option (MutBor BucketWords) → Option BucketWords
lent_at None = None
lent_at (Some b) = Some b.now

abbrev pub lent_left : Unit {0} ⊎ ((MutBor BucketWords × Unit {0}) ⊎ ⊥) → Option BucketWords
lent_left (inl u) = None
lent_left (inr (inl p)) = Some p.0.now
lent_left (inr (inr x)) = absurd x
