-- Bytes as words hold them, eight to a word.
use Rattle.std.proofs.Common.{◌≡◌, ℕ, suc, ◌+◌, ◌-◌, ◌*◌, ◌<◌, ◌≤◌, min, List, [], ◌∷◌, ◌++◌, length, take, drop, refl, sym, ap, ◌∙◌, arith, inl, inr, append_assoc, add-one, drop-cons, append-nil}
use Rattle.std.specs.Prelude.{slice_index, Result, Ok, Err, IfErr}
use Rattle.std.proofs.lemmas.Bool.{cases_lt}
use Rattle.std.proofs.Math.Seq.{take-append-add}
use Rattle.std.specs.List.{flat_map}
use Rattle.std.specs.Int.{w64, to_be_bytes}
use Rattle.std.proofs.lemmas.List.{take-append-le, take-append-drop, length-append}
use Rattle.std.proofs.lemmas.Grind.{flat_map-append}
use Rattle.std.proofs.Math.ListN.{length-take}
use Rattle.mc_model.specs.Packed.{words_for, unpacked}

bytes : List ℕ → List ℕ
bytes ws = flat_map (to_be_bytes w64) ws

word_length : (w : ℕ) → length (to_be_bytes w64 w) ≡ 8
word_length w = refl

pub length_bytes : (ws : List ℕ) → length (flat_map (to_be_bytes w64) ws) ≡ 8 * length ws
length_bytes [] = refl
length_bytes (w ∷ ws) = omega (arith, length-append (to_be_bytes w64 w) (flat_map (to_be_bytes w64) ws), word_length w, length_bytes ws)

pub length_unpacked : (n : ℕ) (ws : List ℕ) → n ≤ 8 * length ws → length (unpacked n ws) ≡ n
length_unpacked n ws h = omega (arith, length-take n (flat_map (to_be_bytes w64) ws), length_bytes ws)

-- the words that the bytes take are enough
pub unpacked_front : (n : ℕ) (ws : List ℕ) → words_for n ≤ length ws → unpacked n (take (words_for n) ws) ≡ unpacked n ws
unpacked_front n ws h =
    let split = flat_map-append (to_be_bytes w64) (take (words_for n) ws) (drop (words_for n) ws) in
    let enough : n ≤ length (flat_map (to_be_bytes w64) (take (words_for n) ws)) = omega (arith, length_bytes (take (words_for n) ws), length-take (words_for n) ws) in
    sym (take-append-le n (flat_map (to_be_bytes w64) (take (words_for n) ws)) (flat_map (to_be_bytes w64) (drop (words_for n) ws)) enough)
    ∙ ap (take n) (sym split)
    ∙ ap (λ xs. take n (flat_map (to_be_bytes w64) xs)) (take-append-drop (words_for n) ws)

-- the bytes of the next word, or those that are left, and then those of the words behind it
next_word : (left w : ℕ) (ws : List ℕ) → take left (flat_map (to_be_bytes w64) (w ∷ ws)) ≡ take (min left 8) (to_be_bytes w64 w) ++ take (left - min left 8) (flat_map (to_be_bytes w64) ws)
next_word left w ws = elim (cases_lt left 8) [
  | inl le ↦
      let short : left - min left 8 ≡ 0 = omega (arith, le) in
      let same : min left 8 ≡ left = omega (arith, le) in
      rw (short, same) (take-append-le left (to_be_bytes w64 w) (flat_map (to_be_bytes w64) ws) (omega (arith, le, word_length w)) ∙ sym (append-nil (take left (to_be_bytes w64 w))))
  | inr lt ↦
      let same : min left 8 ≡ 8 = omega (arith, lt) in
      let there : 8 + (left - 8) ≡ left = omega (arith, lt) in
      rw same (sym (ap (λ n. take n (to_be_bytes w64 w ++ flat_map (to_be_bytes w64) ws)) there) ∙ take-append-add (to_be_bytes w64 w) (flat_map (to_be_bytes w64) ws) (left - 8))
]

next_words : (left i : ℕ) (ws : List ℕ) → i < length ws →
    take left (flat_map (to_be_bytes w64) (drop i ws)) ≡ take (min left 8) (to_be_bytes w64 (slice_index ws i)) ++ take (left - min left 8) (flat_map (to_be_bytes w64) (drop (i + 1) ws))
next_words left i ws h = rw (add-one, drop-cons ws i 0) (next_word left (slice_index ws i) (drop (suc i) ws))

-- the bytes are put word by word
pub word_behind : (left i count : ℕ) (ws bs xs ys all : List ℕ) → i < length ws →
    count ≡ min left 8 → bs ≡ to_be_bytes w64 (slice_index ws i) →
    xs ++ take left (flat_map (to_be_bytes w64) (drop i ws)) ≡ all →
    ys ≡ xs ++ take count bs →
    ys ++ take (left - count) (flat_map (to_be_bytes w64) (drop (i + 1) ws)) ≡ all
word_behind left i count ws bs xs ys all h n b e p = rw (p, n, b, append_assoc, ← next_words left i ws h) e

-- where a word's bytes are too many, all are
pub word_too_much : (left i count room : ℕ) (ws bs xs all : List ℕ) → i < length ws →
    count ≡ min left 8 → bs ≡ to_be_bytes w64 (slice_index ws i) →
    xs ++ take left (flat_map (to_be_bytes w64) (drop i ws)) ≡ all →
    room < length xs + length (take count bs) →
    room < length all
word_too_much left i count room ws bs xs all h n b e lt = omega (arith, lt, simp length-append at (ap length (word_behind left i count ws bs xs _ all h n b e refl)))

pub if_err : {T E : Type 0} (r : Result T E) (P : Type 0) → P → IfErr r (λ _. P)
if_err (Ok x) P p = tt
if_err (Err x) P p = p
