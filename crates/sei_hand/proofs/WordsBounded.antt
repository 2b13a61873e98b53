-- Words of 64 bits stand for a bucket whose numbers are of 64 bits.
use Rattle.std.proofs.Common.{◌≡◌, ℕ, ◌^◌, ◌<◌, ◌≤◌, ◌⊎◌, inl, inr, List, length, Some, sym, subst, arith}
use Rattle.std.specs.Prelude.{All, slice_index, get_or}
use Rattle.std.proofs.lemmas.Bool.{cases_lt}
use Rattle.std.proofs.lemmas.List.{get_or_past}
use Rattle.std.proofs.lemmas.Option.{slice_get-get_or}
use Rattle.mc_model.specs.declared.geometry.Geometry.{Geometry}
use Rattle.mc_model.specs.Bucket.{Item, Bucket, lookup}
use Rattle.mc_model.proofs.PublicBuckets.{entry_lookup}
use Rattle.sei_words.specs.Stands.{StandsFor}
use Rattle.tab_find.specs.Answers.{HasNumbersOf64}
use Rattle.sei_hand.specs.Served.{Stands}

-- each word, and the 0 that is read past the end
word_small : (words : List ℕ) → All (λ w. w < 2 ^ 64) words → (a : ℕ) → slice_index words a < 2 ^ 64
word_small words h a = by_end (cases_lt a (length words))
  where
    by_end : (a < length words) ⊎ (length words ≤ a) → slice_index words a < 2 ^ 64
    by_end (inl within) = h a 0 within
    by_end (inr past) = subst (λ w. w < 2 ^ 64) (sym (get_or_past words a 0 past)) (omega arith)

module _ (g : Geometry) (words : List ℕ) (b : Bucket) (h : All (λ w. w < 2 ^ 64) words) (stands : StandsFor g words b) where
  -- an item stands in a slot
  item_small : (k : List ℕ) (x : Item) → lookup k b.items ≡ Some x → HasNumbersOf64 x
  item_small k x e =
      let s = stands.holds.every k x e in
      record {
        flags = subst (λ n. n < 2 ^ 64) s.3.flags (word_small words h _);
        expiry = subst (λ n. n < 2 ^ 64) s.3.expiry (word_small words h _);
        unique = subst (λ n. n < 2 ^ 64) s.3.unique (word_small words h _);
      }

  pub words_bounded : Stands g words b
  words_bounded = record {
    stands = stands;
    bounded = record {
      moment = subst (λ n. n < 2 ^ 64) stands.moment (word_small words h _);
      counter = subst (λ n. n < 2 ^ 64) stands.counter (word_small words h _);
      items = λ i d within. item_small (get_or b.items i d).0 (get_or b.items i d).1 (entry_lookup b.items i (get_or b.items i d).0 (get_or b.items i d).1 stands.model.map (slice_get-get_or b.items i d within));
    };
  }
