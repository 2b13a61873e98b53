-- Words that are all 0 stand for the empty bucket.
use Rattle.std.proofs.Common.{◌≡◌, ℕ, zero, suc, ◌+◌, Bool, true, false, length, refl, ap, Option, Some, None}
use Rattle.std.specs.Prelude.{replicate, slice_index}
use Rattle.mc_model.specs.declared.geometry.Geometry.{Geometry}
use Rattle.mc_model.specs.Bucket.{Item, empty_bucket}
use Rattle.mc_model.proofs.PublicBuckets.{empty_is_bucket}
use Rattle.sei_words.specs.Layout.{moment_address, counter_address, slot_at, word_count, used_offset}
use Rattle.sei_words.specs.Free.{IsFree}
use Rattle.sei_words.specs.Stands.{StandsFor}

pub zero_word : (n i : ℕ) → slice_index (replicate n 0) i ≡ 0
zero_word zero i = refl
zero_word (suc n) zero = refl
zero_word (suc n) (suc i) = zero_word n i

-- each slot is free at each moment
pub fresh_free : (g : Geometry) (moment i : ℕ) → IsFree g (replicate (word_count g) 0) moment i
fresh_free g moment i = rw (zero_word (word_count g) (slot_at g i + used_offset)) refl

pub fresh_stands : (g : Geometry) → StandsFor g (replicate (word_count g) 0) empty_bucket
fresh_stands g = record {
  size = length_zeros (word_count g);
  moment = zero_word (word_count g) moment_address;
  counter = zero_word (word_count g) counter_address;
  model = empty_is_bucket;
  rest = tt;
  holds = record {
    each = λ i lt taken. absurd (clash (fresh_free g 0 i) taken);
    every = λ k x found. absurd (no_item _ x refl found);
    one = λ i j lt lt' taken. absurd (clash (fresh_free g 0 i) taken);
  };
}
  where
    length_zeros : (n : ℕ) → length {A = ℕ} (replicate n 0) ≡ n
    length_zeros zero = refl
    length_zeros (suc n) = ap suc (length_zeros n)

    no_item : (o : Option Item) (x : Item) → o ≡ None → o ≡ Some x → ⊥
    no_item o x e f = absurd (cc)

    clash : {b : Bool} → b ≡ true → b ≡ false → ⊥
    clash p q = absurd (cc)
