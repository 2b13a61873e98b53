-- What is left of a lent bucket whose words have changed.
use Rattle.std.proofs.Common.{◌≡◌, ℕ, List, [], ◌∷◌, length, Option, Some, None, refl, sym, ap, ◌∙◌, arith}
use Rattle.mc_model.specs.declared.geometry.Geometry.{Geometry}
use Rattle.sei_words.specs.LentBucket.{Place, words_of, bucket_of, place_of, IsOf}
use Rattle.sei_words.specs.Words.{BucketWords}

-- what is left of a lent bucket
abbrev pub left_in : Option BucketWords → List ℕ → Option BucketWords
left_in None words = None
left_in (Some b) words = Some (record b { words = words })

pub left_place : (lent_bucket : Option BucketWords) (words : List ℕ) → place_of (left_in lent_bucket words) ≡ place_of lent_bucket
left_place None words = refl
left_place (Some b) words = refl

pub left_bucket : (lent_bucket : Option BucketWords) (words : List ℕ) → bucket_of (left_in lent_bucket words) ≡ bucket_of lent_bucket
left_bucket None words = refl
left_bucket (Some b) words = refl

none_long : (words : List ℕ) → length words ≡ 0 → [] ≡ words
none_long [] e = refl
none_long (x ∷ xs) e = absurd (omega (arith, e))

-- its words, if they are as many as those that were lent
pub left_words : (lent_bucket : Option BucketWords) (words : List ℕ) → length words ≡ length (words_of lent_bucket) → words_of (left_in lent_bucket words) ≡ words
left_words None words e = none_long words e
left_words (Some b) words e = refl

-- a lent bucket of the same place is what is left of it
pub left_is : (lent_bucket left : Option BucketWords) → place_of left ≡ place_of lent_bucket → left_in lent_bucket (words_of left) ≡ left
left_is None None e = refl
left_is None (Some b) e = absurd cc
left_is (Some a) None e = absurd cc
left_is (Some a) (Some b) e =
    let back : Option Place → Place = λ o. elim o [ None ↦ record { bucket = a.bucket; geometry = a.geometry } | Some x ↦ x ] in
    let make : ℕ → Geometry → Option BucketWords = λ n g. Some (record { words = b.words; bucket = n; geometry = g }) in
    ap (λ n. make n a.geometry) (sym (ap (λ o. (back o).bucket) e)) ∙ ap (λ g. make b.bucket g) (sym (ap (λ o. (back o).geometry) e))

-- at the same place it is laid out by the same geometry
pub laid_out_as : (g : Geometry) (lent_bucket left : Option BucketWords) → place_of left ≡ place_of lent_bucket → IsOf g lent_bucket → IsOf g left
laid_out_as g None None e h = h
laid_out_as g None (Some b) e h = absurd cc
laid_out_as g (Some a) None e h = absurd cc
laid_out_as g (Some a) (Some b) e h =
    let back : Option Place → Geometry = λ o. elim o [ None ↦ b.geometry | Some x ↦ x.geometry ] in
    ap back e ∙ h
