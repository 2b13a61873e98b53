-- The calls of a request, one by one.
use Rattle.std.proofs.Common.{◌≡◌, ℕ, zero, suc, ◌+◌, ◌-◌, ◌≤◌, ◌<◌, ◌%◌, Bool, true, false, cond, List, [], ◌∷◌, ◌++◌, length, take, drop, refl, sym, ap, ◌∙◌, arith, eqb, Option, Some, None}
use Rattle.std.specs.Prelude.{slice_range, slice_get}
use Rattle.std.proofs.lemmas.Grind.{common_steps}
use Rattle.std.proofs.lemmas.Bool.Decides.{nat_tests}
use Rattle.std.proofs.Math.ListN.{length-take, length-drop, length-append}
use Rattle.sei_code.specs.Codes.{fnv64}
use Rattle.mc_model.specs.Call.{Call, Placed}
use Rattle.mc_text.specs.Words.{words, words_from, closed, arg}
use Rattle.mc_text.specs.Meaning.{key_calls, bucket_calls}
use Rattle.mc_text.specs.Lines.{some_words}

eq_one : (n : ℕ) (m : ℕ) → eqb (suc n + 1) (suc m) ≡ eqb (n + 1) m
eq_one n m = grind (arith, nat_tests)

-- the nth call is at the nth key
pub key_call_at : (buckets : ℕ) (c : Call) (keys : List (List ℕ)) (n : ℕ) → n < length keys → slice_get (key_calls buckets c keys) n ≡ Some (record { bucket = fnv64 (arg keys n) % buckets; call = record c { key = arg keys n; last = eqb (n + 1) (length keys) } })
key_call_at buckets c [] n h = absurd (omega arith)
key_call_at buckets c (k ∷ ks) zero h = ap (λ (b : Bool). Some (record { bucket = fnv64 k % buckets; call = record c { key = k; last = b } })) (first (length ks))
  where
    first : (n : ℕ) → eqb n 0 ≡ eqb (0 + 1) (suc n)
    first n = grind (arith, nat_tests)
key_call_at buckets c (k ∷ ks) (suc n) h =
    key_call_at buckets c ks n (omega arith)
    ∙ ap (λ (b : Bool). Some (record { bucket = fnv64 (arg ks n) % buckets; call = record c { key = arg ks n; last = b } })) (sym (eq_one n (length ks)))

length-key_calls : (buckets : ℕ) (c : Call) (keys : List (List ℕ)) → length (key_calls buckets c keys) ≡ length keys
length-key_calls buckets c [] = refl
length-key_calls buckets c (k ∷ ks) = ap suc (length-key_calls buckets c ks)

get_past : {A : Type 0} (xs : List A) (n : ℕ) → length xs ≤ n → slice_get xs n ≡ None
get_past [] n h = refl
get_past (x ∷ xs) zero h = absurd (omega arith)
get_past (x ∷ xs) (suc n) h = get_past xs n (omega arith)

pub no_key_call : (buckets : ℕ) (c : Call) (keys : List (List ℕ)) (n : ℕ) → length keys ≤ n → slice_get (key_calls buckets c keys) n ≡ None
no_key_call buckets c keys n h = get_past (key_calls buckets c keys) n (omega (arith, length-key_calls buckets c keys))

-- the nth call from bucket b on is at the bucket b + n
bucket_call_from : (c : Call) (b buckets n : ℕ) → n < buckets → slice_get (bucket_calls c b buckets) n ≡ Some (record { bucket = b + n; call = record c { last = eqb (n + 1) buckets } })
bucket_call_from c b zero n h = absurd (omega arith)
bucket_call_from c b (suc m) zero h =
    let here : b ≡ b + 0 = omega arith in
    ap (λ (l : Bool). Some (record { bucket = b; call = record c { last = l } })) (first m) ∙ ap (λ (k : ℕ). Some (record { bucket = k; call = record c { last = eqb (0 + 1) (suc m) } })) here
  where
    first : (m : ℕ) → eqb m 0 ≡ eqb (0 + 1) (suc m)
    first m = grind (arith, nat_tests)
bucket_call_from c b (suc m) (suc n) h =
    let there : b + 1 + n ≡ b + suc n = omega arith in
    bucket_call_from c (b + 1) m n (omega arith)
    ∙ ap (λ (k : ℕ). Some (record { bucket = k; call = record c { last = eqb (n + 1) m } })) there
    ∙ ap (λ (l : Bool). Some (record { bucket = b + suc n; call = record c { last = l } })) (sym (eq_one n m))

pub bucket_call_at : (c : Call) (buckets n : ℕ) → n < buckets → slice_get (bucket_calls c 0 buckets) n ≡ Some (record { bucket = n; call = record c { last = eqb (n + 1) buckets } })
bucket_call_at c buckets n h =
    let here : 0 + n ≡ n = omega arith in
    bucket_call_from c 0 buckets n h ∙ ap (λ (k : ℕ). Some (record { bucket = k; call = record c { last = eqb (n + 1) buckets } })) here

pub length-bucket_calls : (c : Call) (b n : ℕ) → length (bucket_calls c b n) ≡ n
length-bucket_calls c b zero = refl
length-bucket_calls c b (suc n) = ap suc (length-bucket_calls c (b + 1) n)

pub no_bucket_call : (c : Call) (buckets n : ℕ) → buckets ≤ n → slice_get (bucket_calls c 0 buckets) n ≡ None
no_bucket_call c buckets n h = get_past (bucket_calls c 0 buckets) n (omega (arith, length-bucket_calls c 0 buckets))

-- the words from first on
pub some_word : (ws : List (List ℕ)) (first count n : ℕ) → n < count → first + count ≤ length ws → arg (some_words ws first count) n ≡ arg ws (first + n)
some_word ws first count n h w = grind (arith, common_steps)

pub length-some_words : (ws : List (List ℕ)) (first count : ℕ) → first + count ≤ length ws → length (some_words ws first count) ≡ count
length-some_words ws first count h = omega (arith, length-take count (drop first ws), length-drop first ws)

-- a part of a front
pub range_of_front : (xs : List ℕ) (n i j : ℕ) → i ≤ j → j ≤ n → slice_range (take n xs) i j ≡ slice_range xs i j
range_of_front [] zero i j h l = refl
range_of_front [] (suc n) i j h l = refl
range_of_front (x ∷ xs) zero i j h l = let a : i ≡ 0 = omega arith in let b : j ≡ 0 = omega arith in
    ap (λ k. slice_range {X = ℕ} [] k j) a ∙ ap (λ k. slice_range {X = ℕ} [] 0 k) b ∙ sym (ap (λ k. slice_range (x ∷ xs) k j) a ∙ ap (λ k. slice_range (x ∷ xs) 0 k) b)
range_of_front (x ∷ xs) (suc n) zero j h l = at_zero j h l
  where
    front : (m j : ℕ) (ys : List ℕ) → j ≤ m → take j (take m ys) ≡ take j ys
    front m j ys q = grind (arith, common_steps)

    at_zero : (j : ℕ) → 0 ≤ j → j ≤ suc n → take (j - 0) (x ∷ take n xs) ≡ take (j - 0) (x ∷ xs)
    at_zero zero h l = refl
    at_zero (suc j) h l = let e : suc j - 0 ≡ suc j = omega arith in ap (λ k. take k (x ∷ take n xs)) e ∙ ap (λ (ys : List ℕ). x ∷ ys) (front n j xs (omega arith)) ∙ sym (ap (λ k. take k (x ∷ xs)) e)
range_of_front (x ∷ xs) (suc n) (suc i) zero h l = absurd (omega arith)
range_of_front (x ∷ xs) (suc n) (suc i) (suc j) h l =
    let e : suc j - suc i ≡ j - i = omega arith in
    ap (λ k. take k (drop i (take n xs))) e ∙ range_of_front xs n i j (omega arith) (omega arith) ∙ sym (ap (λ k. take k (drop i xs)) e)

closed_few : (w : List ℕ) (ws : List (List ℕ)) → length (closed w ws) ≤ length w + length ws
closed_few [] ws = omega arith
closed_few (b ∷ bs) ws = omega arith

words_from_few : (w line : List ℕ) → length (words_from w line) ≤ length w + length line
words_from_few w [] = omega (arith, closed_few w [])
words_from_few w (b ∷ bs) = by_test (eqb b 32) (words_from_few [] bs) (words_from_few (w ++ b ∷ []) bs)
  where
    by_test : (t : Bool) → length (words_from [] bs) ≤ 0 + length bs → length (words_from (w ++ b ∷ []) bs) ≤ length (w ++ b ∷ []) + length bs → length (cond t (closed w (words_from [] bs)) (words_from (w ++ b ∷ []) bs)) ≤ length w + suc (length bs)
    by_test true h g = omega (arith, closed_few w (words_from [] bs))
    by_test false h g = omega (arith, length-append w (b ∷ []))

-- a line has no more words than bytes
pub words_few : (line : List ℕ) → length (words line) ≤ length line
unfolding words
words_few line = omega (arith, words_from_few [] line)

-- in the code's terms
pub key_call_is : (buckets : ℕ) (c : Call) (bytes : List ℕ) (line from to first count nth hash : ℕ) → line ≤ length bytes → from ≤ to → to ≤ length (take line bytes) → nth < count → first + count ≤ length (words (take line bytes))
    → slice_range (take line bytes) from to ≡ arg (words (take line bytes)) (first + nth) → hash ≡ fnv64 (slice_range bytes from to)
    → ◌≡◌ {A = Option Placed} (Some (record { bucket = hash % buckets; call = record c { key = slice_range bytes from to; last = eqb (nth + 1) count } })) (slice_get (key_calls buckets c (some_words (words (take line bytes)) first count)) nth)
key_call_is buckets c bytes line from to first count nth hash inside order within below room key code =
    let ws = words (take line bytes) in
    let keys = some_words ws first count in
    let long : length keys ≡ count = length-some_words ws first count room in
    let same : slice_range bytes from to ≡ arg keys nth = sym (range_of_front bytes line from to order (omega (arith, length-take line bytes))) ∙ key ∙ sym (some_word ws first count nth below room) in
    let P : ℕ → Bool → List ℕ → Option Placed = λ b l k. Some (record { bucket = b; call = record c { key = k; last = l } }) in
    ap (λ h. P (h % buckets) (eqb (nth + 1) count) (slice_range bytes from to)) code
    ∙ ap (λ k. P (fnv64 k % buckets) (eqb (nth + 1) count) k) same
    ∙ ap (λ n. P (fnv64 (arg keys nth) % buckets) (eqb (nth + 1) n) (arg keys nth)) (sym long)
    ∙ sym (key_call_at buckets c keys nth (omega arith))

pub some_calls : (buckets : ℕ) (c : Call) (ws : List (List ℕ)) (first count : ℕ) → first + count ≤ length ws → count ≡ length (key_calls buckets c (some_words ws first count))
some_calls buckets c ws first count h = omega (arith, length-key_calls buckets c (some_words ws first count), length-some_words ws first count h)
