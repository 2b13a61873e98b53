-- Bytes packed eight to a word: the first byte is the most significant, and the last word is filled up with zero bytes.
use Rattle.std.specs.Prelude.{ℕ, ◌+◌, ◌*◌, ◌/◌, ◌<◌, List, length, map, take, slice_index, All}
use Rattle.std.specs.List.{range_with_len, flat_map}
use Rattle.std.specs.Int.{w64, to_be_bytes}

-- a list of bytes
abbrev pub AreBytes : List ℕ → Type 0
AreBytes xs = All (λ b. b < 256) xs

-- how many words n bytes take
abbrev pub words_for : ℕ → ℕ
words_for n = (n + 7) / 8

-- word j. After the last byte `slice_index` is 0.
abbrev pub word_of : List ℕ → ℕ → ℕ
word_of xs j =
    let a = 8 * j in
    let high = ((slice_index xs a * 256 + slice_index xs (a + 1)) * 256 + slice_index xs (a + 2)) * 256 + slice_index xs (a + 3) in
    (((high * 256 + slice_index xs (a + 4)) * 256 + slice_index xs (a + 5)) * 256 + slice_index xs (a + 6)) * 256 + slice_index xs (a + 7)

-- the words of a list of bytes
abbrev pub pack : List ℕ → List ℕ
pack xs = map (word_of xs) (range_with_len 0 (words_for (length xs)))

-- the first n bytes that are packed into these words
abbrev pub unpacked : ℕ → List ℕ → List ℕ
unpacked n ws = take n (flat_map (to_be_bytes w64) ws)
