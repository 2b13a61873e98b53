-- The key and the block of a call are bytes of the request.
use Rattle.std.proofs.Common.{ℕ, zero, suc, ◌+◌, ◌<◌, Bool, true, false, cond, List, [], ◌∷◌, ◌++◌, length, drop, sym, subst, Some, None}
use Rattle.std.specs.Prelude.{All, ⊤, ◌==◌, nat_le}
use Rattle.std.specs.Str.{bytes_eq}
use Rattle.std.proofs.lemmas.List.Elements.{All-nil, All-cons, All-head, All-tail, All-append, All-take, All-drop}
use Rattle.mc_model.specs.Call.{Call, bucket_of_key}
use Rattle.mc_model.specs.Packed.{AreBytes}
use Rattle.mc_text.specs.declared.limits.Limits.{Limits}
use Rattle.mc_model.specs.Texts.{bad_data_chunk_text, line_too_long_text, object_too_large_text}
use Rattle.mc_text.specs.Words.{closed, words_from, words, line_end, without_cr}
use Rattle.mc_text.specs.Meaning.{Meaning, Quit, One, Each, Everywhere, key_calls, bucket_calls, calls_of}
use Rattle.mc_text.specs.Lines.{Ends, Wants, fixed}
use Rattle.mc_text.specs.Spells.{Spells, TooLong, OneLine, WithBlock, settled, finished}
use Rattle.mc_text.specs.Fits.{HasBytes}
use Rattle.mc_text.proofs.FitLaws.{LineFits, AreWords, line_fits}

no_bytes : AreBytes []
no_bytes = All-nil (λ b. b < 256)

-- the parts of a list of bytes
front_part : (xs ys : List ℕ) → AreBytes (xs ++ ys) → AreBytes xs
front_part [] ys h = no_bytes
front_part (x ∷ xs) ys h = All-cons (λ b. b < 256) x xs (All-head (λ b. b < 256) x (xs ++ ys) h) (front_part xs ys (All-tail (λ b. b < 256) x (xs ++ ys) h))

rear_part : (xs ys : List ℕ) → AreBytes (xs ++ ys) → AreBytes ys
rear_part [] ys h = h
rear_part (x ∷ xs) ys h = rear_part xs ys (All-tail (λ b. b < 256) x (xs ++ ys) h)

-- the words of a line

closed_bytes : (w : List ℕ) (ws : List (List ℕ)) → AreBytes w → All AreBytes ws → All AreBytes (closed w ws)
closed_bytes [] ws v h = h
closed_bytes (b ∷ bs) ws v h = All-cons AreBytes (b ∷ bs) ws v h

words_from_bytes : (w line : List ℕ) → AreBytes w → AreBytes line → All AreBytes (words_from w line)
words_from_bytes [] [] v h = All-nil AreBytes
words_from_bytes (a ∷ w) [] v h = All-cons AreBytes (a ∷ w) [] v (All-nil AreBytes)
words_from_bytes w (b ∷ bs) v h =
    let rest : AreBytes bs = rear_part (b ∷ []) bs h in
    by_test (b == 32) (words_from_bytes [] bs no_bytes rest) (words_from_bytes (w ++ b ∷ []) bs (All-append (λ c. c < 256) w (b ∷ []) v (front_part (b ∷ []) bs h)) rest)
  where
    by_test : (t : Bool) → All AreBytes (words_from [] bs) → All AreBytes (words_from (w ++ b ∷ []) bs) → All AreBytes (cond t (closed w (words_from [] bs)) (words_from (w ++ b ∷ []) bs))
    by_test true f g = closed_bytes w (words_from [] bs) v f
    by_test false f g = g

without_cr_bytes : (line : List ℕ) → AreBytes line → AreBytes (without_cr line)
without_cr_bytes line h = All-take (λ b. b < 256) (line_end line) line h

line_words_bytes : (line : List ℕ) → AreBytes line → All AreBytes (words (without_cr line))
unfolding words
line_words_bytes line h = words_from_bytes [] (without_cr line) no_bytes (without_cr_bytes line h)

some_bytes : (ws keys : List (List ℕ)) → All AreBytes ws → AreWords ws keys → All AreBytes keys
some_bytes ws keys h from = subst (All AreBytes) (sym from.2) (All-take AreBytes from.1 (drop from.0 ws) (All-drop AreBytes from.0 ws h))

-- of a request, before its calls are placed
abbrev HoldsBytes : Meaning → Type 0
HoldsBytes Quit = ⊤
HoldsBytes (One c closing) = AreBytes c.key × AreBytes c.block
HoldsBytes (Each c keys) = All AreBytes keys × AreBytes c.block
HoldsBytes (Everywhere c) = AreBytes c.key × AreBytes c.block

text_bytes : (text : ℕ) (noreply closing : Bool) → HoldsBytes (One (fixed text noreply) closing)
text_bytes text noreply closing = (no_bytes, no_bytes)

ended_bytes : (ws : List (List ℕ)) (m : Meaning) → All AreBytes ws → LineFits ws (Ends m) → HoldsBytes m
ended_bytes ws Quit h f = tt
ended_bytes ws (One c closing) h f = (subst AreBytes (sym f.key) no_bytes, subst AreBytes (sym f.block) no_bytes)
ended_bytes ws (Each c keys) h f = (some_bytes ws keys h f.2, subst AreBytes (sym f.3) no_bytes)
ended_bytes ws (Everywhere c) h f = (subst AreBytes (sym f.key) no_bytes, subst AreBytes (sym f.block) no_bytes)

finished_bytes : (l : Limits) (c : Call) (keys : List (List ℕ)) (block ending : List ℕ) → All AreBytes keys → AreBytes block → HoldsBytes (finished l c keys block ending)
unfolding finished
finished_bytes l c keys block ending k b = by_tests (bytes_eq ending (13 ∷ 10 ∷ [])) (nat_le (length block) l.value_bytes)
  where
    by_tests : (good small : Bool) → HoldsBytes (settled c keys block (cond good (cond small None (Some object_too_large_text)) (Some bad_data_chunk_text)))
    by_tests true true = (k, b)
    by_tests true false = text_bytes object_too_large_text c.noreply false
    by_tests false small = text_bytes bad_data_chunk_text c.noreply false

spelled_bytes : (l : Limits) (text : List ℕ) (m : Meaning) → AreBytes text → Spells l text m → HoldsBytes m
spelled_bytes l text m h (TooLong long none is) = subst HoldsBytes (sym is) (text_bytes line_too_long_text false true)
spelled_bytes l text m h (OneLine line is t e) =
    let ws = words (without_cr line) in
    ended_bytes ws m (line_words_bytes line (front_part line (10 ∷ []) (subst AreBytes t h))) (subst (LineFits ws) e (line_fits line))
spelled_bytes l text m h (WithBlock line block ending c keys is t e two result) =
    let ws = words (without_cr line) in
    let whole : AreBytes (line ++ 10 ∷ (block ++ ending)) = subst AreBytes t h in
    let after : AreBytes (block ++ ending) = rear_part (10 ∷ []) (block ++ ending) (rear_part line (10 ∷ (block ++ ending)) whole) in
    let fits : LineFits ws (Wants c keys (length block)) = subst (LineFits ws) e (line_fits line) in
    subst HoldsBytes (sym result) (finished_bytes l c keys block ending (some_bytes ws keys (line_words_bytes line (front_part line (10 ∷ (block ++ ending)) whole)) fits.2) (front_part block ending after))

keys_bytes : (buckets : ℕ) (c : Call) (keys : List (List ℕ)) → All AreBytes keys → AreBytes c.block → All HasBytes (key_calls buckets c keys)
keys_bytes buckets c [] k b = All-nil HasBytes
keys_bytes buckets c (x ∷ xs) k b =
    All-cons HasBytes (record { bucket = bucket_of_key buckets x; call = record c { key = x; last = length xs == 0 } }) (key_calls buckets c xs)
    (record { key = All-head AreBytes x xs k; block = b }) (keys_bytes buckets c xs (All-tail AreBytes x xs k) b)

buckets_bytes : (c : Call) (b n : ℕ) → AreBytes c.key → AreBytes c.block → All HasBytes (bucket_calls c b n)
buckets_bytes c b zero k h = All-nil HasBytes
buckets_bytes c b (suc n) k h =
    All-cons HasBytes (record { bucket = b; call = record c { last = n == 0 } }) (bucket_calls c (b + 1) n) (record { key = k; block = h }) (buckets_bytes c (b + 1) n k h)

calls_bytes : (buckets : ℕ) (m : Meaning) → HoldsBytes m → All HasBytes (calls_of buckets m)
unfolding calls_of
calls_bytes buckets Quit f = All-nil HasBytes
calls_bytes buckets (One c closing) f = All-cons HasBytes (record { bucket = 0; call = c }) [] (record { key = f.0; block = f.1 }) (All-nil HasBytes)
calls_bytes buckets (Each c keys) f = keys_bytes buckets c keys f.0 f.1
calls_bytes buckets (Everywhere c) f = buckets_bytes c 0 buckets f.0 f.1

-- each call of a request of bytes
pub calls_hold_bytes : (l : Limits) (text : List ℕ) (m : Meaning) → AreBytes text → Spells l text m → All HasBytes (calls_of l.buckets m)
calls_hold_bytes l text m h s = calls_bytes l.buckets m (spelled_bytes l text m h s)
