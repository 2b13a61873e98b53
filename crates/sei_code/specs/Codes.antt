-- The codes of byte lists: FNV-1a with 64 bits (Fowler, Noll and Vo), and the code of a numbered message.
-- What a message code covers is this project's own.
use Rattle.std.specs.Prelude.{◌≡◌, ◌≢◌, ℕ, ◌*◌, ◌%◌, ◌^◌, ◌<◌, List, ◌++◌, fold, length, slice_index, bit_xor}
use Rattle.std.specs.Int.{w64, to_be_bytes}

-- the state before the first byte
abbrev pub offset_basis : ℕ
offset_basis = 0xcbf29ce484222325

abbrev pub prime : ℕ
prime = 0x100000001b3

-- the state after one more byte
abbrev pub fnv_byte : ℕ → ℕ → ℕ
fnv_byte state b = (bit_xor state b * prime) % 2 ^ 64

-- the state after more bytes
abbrev pub fnv_from : ℕ → List ℕ → ℕ
fnv_from state bs = fold fnv_byte state bs

unfoldable pub fnv64 : List ℕ → ℕ
fnv64 bs = fnv_from offset_basis bs

-- what the code of message n covers: n, the number of bytes, and the bytes
abbrev pub covered : ℕ → List ℕ → List ℕ
covered n bs = to_be_bytes w64 n ++ to_be_bytes w64 (length bs) ++ bs

unfoldable pub message_code : ℕ → List ℕ → ℕ
message_code n bs = fnv64 (covered n bs)

-- two lists of equal length that differ at one place
pub record DifferAt (xs ys : List ℕ) (at : ℕ) : Type 0 where
  pub long : length xs ≡ length ys
  pub within : at < length xs
  pub there : slice_index xs at ≢ slice_index ys at
  pub elsewhere : (k : ℕ) → k ≢ at → slice_index xs k ≡ slice_index ys k
