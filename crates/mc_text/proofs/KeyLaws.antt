-- The keys of a line, counted byte by byte.
use Rattle.std.proofs.Common.{◌≡◌, ◌≢◌, ℕ, zero, suc, ◌+◌, ◌≤◌, ◌<◌, Bool, true, false, cond, List, [], ◌∷◌, ◌++◌, length, drop, get_or, refl, sym, ap, ◌∙◌, arith, eqb, Option, Some, None}
use Rattle.std.specs.Prelude.{◌&&◌, nat_le, nat_lt, slice_range}
use Rattle.std.specs.List.{list_all}
use Rattle.std.proofs.lemmas.Bool.Decides.{nat_tests}
use Rattle.std.proofs.lemmas.List.{drop_more, drop_all}
use Rattle.std.proofs.lemmas.List.Folds.{list_all-append}
use Rattle.std.proofs.Math.ListN.{length-append}
use Rattle.mc_text.specs.Words.{words, words_from, closed}
use Rattle.mc_text.specs.Fields.{is_key_byte, is_key, keys_in}
use Rattle.mc_text.proofs.WordLaws.{rest_of_line, is_space, no_space}

-- so many words more
abbrev added : ℕ → Option ℕ → Option ℕ
added seen None = None
added seen (Some n) = Some (seen + n)

-- how many words were seen once a word of this length ends
unfoldable pub ended : ℕ → ℕ → ℕ
ended seen zero = seen
ended seen (suc long) = seen + 1

-- the count of the keys in the bytes, if so many words were seen and a word has so many bytes already
unfoldable pub keys_from : ℕ → ℕ → List ℕ → Option ℕ
keys_from seen long [] = Some (ended seen long)
keys_from seen long (b ∷ bs) =
    cond (eqb b 32) (keys_from (ended seen long) 0 bs) (cond (nat_lt long 250 && is_key_byte b) (keys_from seen (long + 1) bs) None)

-- what a word in progress must be, so that it may become a key
abbrev is_begun : List ℕ → Bool
is_begun w = nat_le (length w) 250 && list_all is_key_byte w

keys_in_more : (v : List ℕ) (ws : List (List ℕ)) (seen : ℕ) → is_key v ≡ true → added seen (keys_in (v ∷ ws)) ≡ added (seen + 1) (keys_in ws)
keys_in_more v ws seen h = simp h (by_test (list_all is_key ws))
  where
    by_test : (t : Bool) → added seen (cond t (Some (suc (length ws))) None) ≡ added (seen + 1) (cond t (Some (length ws)) None)
    by_test true = ap Some (omega arith)
    by_test false = refl

-- a word in progress that is begun is a key once it ends
begun_key : (b : ℕ) (w : List ℕ) → is_begun (b ∷ w) ≡ true → is_key (b ∷ w) ≡ true
begun_key b w h = grind (arith, nat_tests)

-- a word that is not begun well is no key
bad_key : (w : List ℕ) → is_begun w ≡ false → is_key w ≡ false
bad_key w h = grind (arith, nat_tests)

-- it goes on by a byte of a key
begun_more : (w : List ℕ) (b : ℕ) → is_begun w ≡ true → is_begun (w ++ b ∷ []) ≡ (nat_lt (length w) 250 && is_key_byte b)
begun_more w b h = more (length w) (length (w ++ b ∷ [])) (list_all is_key_byte w) (list_all is_key_byte (w ++ b ∷ [])) (is_key_byte b) (omega (arith, length-append w (b ∷ []))) (list_all-append is_key_byte w (b ∷ [])) h
  where
    more : (n m : ℕ) (s t k : Bool) → m ≡ n + 1 → t ≡ (s && (k && true)) → (nat_le n 250 && s) ≡ true → (nat_le m 250 && t) ≡ (nat_lt n 250 && k)
    more n m s t k e f h = grind (arith, nat_tests)

begun_worse : (w : List ℕ) (b : ℕ) → is_begun w ≡ false → is_begun (w ++ b ∷ []) ≡ false
begun_worse w b h = worse (length w) (length (w ++ b ∷ [])) (list_all is_key_byte w) (list_all is_key_byte (w ++ b ∷ [])) (is_key_byte b) (omega (arith, length-append w (b ∷ []))) (list_all-append is_key_byte w (b ∷ [])) h
  where
    worse : (n m : ℕ) (s t k : Bool) → m ≡ n + 1 → t ≡ (s && (k && true)) → (nat_le n 250 && s) ≡ false → (nat_le m 250 && t) ≡ false
    worse n m s t k e f h = grind (arith, nat_tests)

-- a word that is not begun well makes no key
begun_badly : (w bs : List ℕ) → is_begun w ≡ false → list_all is_key (words_from w bs) ≡ false
begun_badly [] bs h = cc
begun_badly (c ∷ w) [] h = simp (bad_key (c ∷ w) h) refl
begun_badly (c ∷ w) (b ∷ bs) h = by_test (eqb b 32) (bad_key (c ∷ w) h) (begun_badly (c ∷ (w ++ b ∷ [])) bs (begun_worse (c ∷ w) b h))
  where
    by_test : (t : Bool) → is_key (c ∷ w) ≡ false → list_all is_key (words_from (c ∷ (w ++ b ∷ [])) bs) ≡ false → list_all is_key (cond t ((c ∷ w) ∷ words_from [] bs) (words_from (c ∷ (w ++ b ∷ [])) bs)) ≡ false
    by_test true k e = simp k refl
    by_test false k e = e

no_keys : (seen : ℕ) (ws : List (List ℕ)) → list_all is_key ws ≡ false → added seen (keys_in ws) ≡ None
no_keys seen ws h = simp h refl

-- the count of all words from a word in progress on
keys_from_words : (seen : ℕ) (w bs : List ℕ) → is_begun w ≡ true → keys_from seen (length w) bs ≡ added seen (keys_in (words_from w bs))
unfolding keys_from ended
keys_from_words seen [] [] h = ap Some (omega arith)
keys_from_words seen (c ∷ w) [] h = ap Some (omega arith) ∙ sym (keys_in_more (c ∷ w) [] seen (begun_key c w h))
keys_from_words seen w (b ∷ bs) h = by_tests (eqb b 32) (nat_lt (length w) 250 && is_key_byte b) (begun_more w b h) (at_space seen w h (keys_from_words (ended seen (length w)) [] bs refl)) (λ g. ap (λ n. keys_from seen n bs) (sym one) ∙ keys_from_words seen (w ++ b ∷ []) bs g)
  where
    one : length (w ++ b ∷ []) ≡ length w + 1
    one = length-append w (b ∷ [])

    at_space : (seen : ℕ) (w : List ℕ) → is_begun w ≡ true → keys_from (ended seen (length w)) 0 bs ≡ added (ended seen (length w)) (keys_in (words_from [] bs)) → keys_from (ended seen (length w)) 0 bs ≡ added seen (keys_in (closed w (words_from [] bs)))
    at_space seen [] h e = e
    at_space seen (c ∷ w) h e = e ∙ sym (keys_in_more (c ∷ w) (words_from [] bs) seen (begun_key c w h))

    by_tests : (s g : Bool) → is_begun (w ++ b ∷ []) ≡ g → keys_from (ended seen (length w)) 0 bs ≡ added seen (keys_in (closed w (words_from [] bs)))
        → (is_begun (w ++ b ∷ []) ≡ true → keys_from seen (length w + 1) bs ≡ added seen (keys_in (words_from (w ++ b ∷ []) bs)))
        → cond s (keys_from (ended seen (length w)) 0 bs) (cond g (keys_from seen (length w + 1) bs) None) ≡ added seen (keys_in (cond s (closed w (words_from [] bs)) (words_from (w ++ b ∷ []) bs)))
    by_tests true g is space key = space
    by_tests false true is space key = key is
    by_tests false false is space key = sym (no_keys seen (words_from (w ++ b ∷ []) bs) (begun_badly (w ++ b ∷ []) bs is))

added_none : (o : Option ℕ) → added 0 o ≡ o
added_none None = refl
added_none (Some n) = ap Some (omega arith)

-- the steps of a count, byte by byte

pub keys_start : (line : List ℕ) (from : ℕ) → from ≤ length line → keys_from 0 0 (slice_range line from (length line)) ≡ keys_in (words (drop from line))
unfolding words
keys_start line from h = ap (keys_from 0 0) (rest_of_line line from) ∙ keys_from_words 0 [] (drop from line) refl ∙ added_none (keys_in (words_from [] (drop from line)))

pub keys_space : (bs : List ℕ) (i seen long : ℕ) → i < length bs → get_or bs i 0 ≡ 32 → keys_from seen long (drop i bs) ≡ keys_from (ended seen long) 0 (drop (i + 1) bs)
unfolding keys_from
keys_space bs i seen long h e = ap (keys_from seen long) (drop_more bs i 0 h) ∙ simp (is_space (get_or bs i 0) e) refl

pub keys_byte : (bs : List ℕ) (i seen long : ℕ) → i < length bs → get_or bs i 0 ≢ 32 → long < 250 → is_key_byte (get_or bs i 0) ≡ true → keys_from seen long (drop i bs) ≡ keys_from seen (long + 1) (drop (i + 1) bs)
unfolding keys_from
keys_byte bs i seen long h n l k =
    let good : (nat_lt long 250 && is_key_byte (get_or bs i 0)) ≡ true = simp k (grind (arith, nat_tests)) in
    ap (keys_from seen long) (drop_more bs i 0 h) ∙ simp good (simp (no_space (get_or bs i 0) n) refl)

keys_not : (bs : List ℕ) (i seen long : ℕ) → i < length bs → get_or bs i 0 ≢ 32 → (nat_lt long 250 && is_key_byte (get_or bs i 0)) ≡ false → keys_from seen long (drop i bs) ≡ None
unfolding keys_from
keys_not bs i seen long h n bad = ap (keys_from seen long) (drop_more bs i 0 h) ∙ simp bad (simp (no_space (get_or bs i 0) n) refl)

pub keys_long : (bs : List ℕ) (i seen long : ℕ) → i < length bs → get_or bs i 0 ≢ 32 → 250 ≤ long → keys_from seen long (drop i bs) ≡ None
keys_long bs i seen long h n l = keys_not bs i seen long h n (grind (arith, nat_tests))

pub keys_bad : (bs : List ℕ) (i seen long : ℕ) → i < length bs → get_or bs i 0 ≢ 32 → long < 250 → is_key_byte (get_or bs i 0) ≡ false → keys_from seen long (drop i bs) ≡ None
keys_bad bs i seen long h n l k = keys_not bs i seen long h n (simp k (grind (arith, nat_tests)))

pub keys_end : (bs : List ℕ) (i seen long : ℕ) → length bs ≤ i → keys_from seen long (drop i bs) ≡ Some (ended seen long)
unfolding keys_from
keys_end bs i seen long h = ap (keys_from seen long) (drop_all i bs h)

pub ended_some : (seen long : ℕ) → 0 < long → ended seen long ≡ seen + 1
unfolding ended
ended_some seen zero h = absurd (omega arith)
ended_some seen (suc long) h = refl

pub ended_none : (seen long : ℕ) → long ≤ 0 → ended seen long ≡ seen
unfolding ended
ended_none seen zero h = refl
ended_none seen (suc long) h = absurd (omega arith)

pub ruleset key_steps = (keys_start, keys_space, keys_byte, keys_long, keys_bad, keys_end, ended_some, ended_none)
