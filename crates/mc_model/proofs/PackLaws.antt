-- The packing of bytes: how many words, each word, and that the bytes come back.
use Rattle.std.proofs.Common.{◌≡◌, ℕ, ◌+◌, ◌*◌, ◌/◌, ◌%◌, ◌<◌, ◌≤◌, inl, inr, List, [], ◌∷◌, ◌++◌, length, take, refl, sym, ap, ◌∙◌, subst, arith}
use Rattle.std.specs.Prelude.{slice_index, map}
use Rattle.std.specs.List.{range_with_len, flat_map}
use Rattle.std.specs.Int.{w64, to_be_bytes, from_be_bytes}
use Rattle.std.proofs.lemmas.List.{ext_get_or, get_or_past, length-append, length-take, get_or-take, get_or_append_left}
use Rattle.std.proofs.lemmas.List.Concat.{get_or-flat_map}
use Rattle.std.proofs.lemmas.List.FromFn.{length-map-range_with_len, get_or-map-range_with_len}
use Rattle.std.proofs.lemmas.Bool.{cases_lt}
use Rattle.std.proofs.lemmas.Nat.{be_bytes_8}
use Rattle.std.proofs.lemmas.List.Elements.{All-get_or}
use Rattle.mc_model.specs.Packed.{AreBytes, words_for, word_of, pack, unpacked}

pub length_pack : (xs : List ℕ) → length (pack xs) ≡ words_for (length xs)
length_pack xs = length-map-range_with_len (word_of xs) 0 (words_for (length xs))

pub pack_at : (xs : List ℕ) (j : ℕ) → j < words_for (length xs) → slice_index (pack xs) j ≡ word_of xs j
pack_at xs j lt = get_or-map-range_with_len (word_of xs) 0 (words_for (length xs)) j j 0 lt (omega arith)

-- each byte is below 256, and so is the 0 behind the last
byte_small : (xs : List ℕ) → AreBytes xs → (i : ℕ) → slice_index xs i < 256
byte_small xs h i = elim (cases_lt i (length xs)) [
  | inl lt ↦ All-get_or (λ b. b < 256) xs i 0 lt h
  | inr le ↦ rw (get_or_past xs i 0 le) (omega arith)
]

-- eight bytes
abbrev eight : (ℕ → ℕ) → List ℕ
eight x = map x (range_with_len 0 8)

eight_at : (x : ℕ → ℕ) (r : ℕ) → r < 8 → slice_index (eight x) r ≡ x r
eight_at x r lt = get_or-map-range_with_len x 0 8 r r 0 lt (omega arith)

eight_small : (x : ℕ → ℕ) → ((i : ℕ) → x i < 256) → (i : ℕ) → slice_index (eight x) i < 256
eight_small x small i = elim (cases_lt i 8) [
  | inl lt ↦ rw (eight_at x i lt) (small i)
  | inr le ↦ rw (get_or_past (eight x) i 0 le) (omega arith)
]

-- the bytes of the word that they make
eight_back : (x : ℕ → ℕ) → ((i : ℕ) → x i < 256) →
    to_be_bytes w64 (((((((x 0 * 256 + x 1) * 256 + x 2) * 256 + x 3) * 256 + x 4) * 256 + x 5) * 256 + x 6) * 256 + x 7) ≡ eight x
eight_back x small = be_bytes_8 (eight x) _ refl (eight_small x small) (omega arith)

word_back : (xs : List ℕ) (j r : ℕ) → AreBytes xs → r < 8 → slice_index (to_be_bytes w64 (word_of xs j)) r ≡ slice_index xs (8 * j + r)
word_back xs j r bytes lt =
    let x : ℕ → ℕ = λ n. slice_index xs (8 * j + n) in
    let first : 8 * j + 0 ≡ 8 * j = omega arith in
    let back : to_be_bytes w64 (word_of xs j) ≡ eight x = subst (λ a. to_be_bytes w64 (((((((slice_index xs a * 256 + x 1) * 256 + x 2) * 256 + x 3) * 256 + x 4) * 256 + x 5) * 256 + x 6) * 256 + x 7) ≡ eight x) first (eight_back x (λ n. byte_small xs bytes (8 * j + n))) in
    ap (λ ys. slice_index ys r) back ∙ eight_at x r lt

pub length_bytes : (ws : List ℕ) → length (flat_map (to_be_bytes w64) ws) ≡ 8 * length ws
length_bytes [] = refl
length_bytes (w ∷ ws) = omega (arith, length-append (to_be_bytes w64 w) (flat_map (to_be_bytes w64) ws), length_bytes ws)

-- byte r of word j
pub byte_at : (ws : List ℕ) (j r : ℕ) → j < length ws → r < 8 → slice_index (flat_map (to_be_bytes w64) ws) (8 * j + r) ≡ slice_index (to_be_bytes w64 (slice_index ws j)) r
byte_at ws j r lt within =
    let before : length (flat_map (to_be_bytes w64) (take j ws)) ≡ 8 * j = omega (arith, length_bytes (take j ws), length-take j ws) in
    subst (λ n. slice_index (flat_map (to_be_bytes w64) ws) (n + r) ≡ slice_index (to_be_bytes w64 (slice_index ws j)) r) before
    (get_or-flat_map (to_be_bytes w64) ws j r 0 0 lt within)

-- words of which the first are those of a packing hold its bytes
pub unpack_there : (xs ws : List ℕ) → AreBytes xs → length (pack xs) ≤ length ws →
    ((j : ℕ) → j < length (pack xs) → slice_index ws j ≡ slice_index (pack xs) j) → unpacked (length xs) ws ≡ xs
unpack_there xs ws bytes long same = ext_get_or 0 (unpacked (length xs) ws) xs size (λ i lt. at i (omega (arith, lt, size)))
  where
    size : length (unpacked (length xs) ws) ≡ length xs
    size = omega (arith, length-take (length xs) (flat_map (to_be_bytes w64) ws), length_bytes ws, length_pack xs, long)

    at : (i : ℕ) → i < length xs → slice_index (unpacked (length xs) ws) i ≡ slice_index xs i
    at i lt =
        let j = i / 8 in
        let r = i % 8 in
        let inside : j < words_for (length xs) = omega (arith, lt) in
        let within : j < length (pack xs) = omega (arith, length_pack xs, inside) in
        let word : slice_index ws j ≡ word_of xs j = same j within ∙ pack_at xs j inside in
        let there : 8 * j + r ≡ i = omega arith in
        let byte : slice_index (flat_map (to_be_bytes w64) ws) (8 * j + r) ≡ slice_index xs (8 * j + r) =
        byte_at ws j r (omega (arith, within, long)) (omega arith) ∙ ap (λ w. slice_index (to_be_bytes w64 w) r) word ∙ word_back xs j r bytes (omega arith) in
        get_or-take (length xs) (flat_map (to_be_bytes w64) ws) i 0 lt ∙ subst (λ n. slice_index (flat_map (to_be_bytes w64) ws) n ≡ slice_index xs n) there byte

pub unpack_pack : (xs : List ℕ) → AreBytes xs → unpacked (length xs) (pack xs) ≡ xs
unpack_pack xs bytes = unpack_there xs (pack xs) bytes (omega arith) (λ j lt. refl)

-- whatever stands behind them
pub unpack_before : (xs rest : List ℕ) → AreBytes xs → unpacked (length xs) (pack xs ++ rest) ≡ xs
unpack_before xs rest bytes =
    unpack_there xs (pack xs ++ rest) bytes (omega (arith, length-append (pack xs) rest)) (λ j lt. get_or_append_left (pack xs) rest 0 j lt)

pub unpack_take : (xs ws : List ℕ) → AreBytes xs → take (words_for (length xs)) ws ≡ pack xs → unpacked (length xs) ws ≡ xs
unpack_take xs ws bytes same =
    let n = words_for (length xs) in
    let long : length (pack xs) ≤ length ws = omega (arith, length-take n ws, ap length same, length_pack xs) in
    unpack_there xs ws bytes long (λ j lt. sym (get_or-take n ws j 0 (omega (arith, lt, length_pack xs))) ∙ ap (λ ys. slice_index ys j) same)

-- lists of bytes of one length with the same packing are the same
pub pack_apart : (xs ys : List ℕ) → AreBytes xs → AreBytes ys → length xs ≡ length ys →
    ((j : ℕ) → j < length (pack xs) → slice_index (pack xs) j ≡ slice_index (pack ys) j) → xs ≡ ys
pack_apart xs ys x_bytes y_bytes long same =
    let words : length (pack xs) ≡ length (pack ys) = length_pack xs ∙ ap words_for long ∙ sym (length_pack ys) in
    sym (unpack_there xs (pack ys) x_bytes (omega (arith, words)) (λ j lt. sym (same j lt))) ∙ ap (λ n. unpacked n (pack ys)) long ∙ unpack_pack ys y_bytes

-- a word from the eight bytes of a list that agrees with the bytes there
pub word_is : (xs ys : List ℕ) (j : ℕ) → ((r : ℕ) → r < 8 → slice_index ys r ≡ slice_index xs (8 * j + r)) → from_be_bytes w64 ys ≡ word_of xs j
word_is xs ys j same =
    let first : 8 * j + 0 ≡ 8 * j = omega arith in
    let start : slice_index ys 0 ≡ slice_index xs (8 * j) = same 0 (omega arith) ∙ ap (slice_index xs) first in
    omega (arith, start, same 1 (omega arith), same 2 (omega arith), same 3 (omega arith), same 4 (omega arith), same 5 (omega arith), same 6 (omega arith), same 7 (omega arith))
