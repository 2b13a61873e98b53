-- Bytes that are written as pairs of hexadecimal digits.
use Rattle.std.specs.Prelude.{ℕ, ◌+◌, ◌*◌, List, [], ◌∷◌, Option, Some, None}
use Rattle.sei_script.specs.Escapes.{hex_value, joined}

-- the byte of two digits, and other bytes behind it
abbrev pub byte_before : Option ℕ → Option ℕ → Option (List ℕ) → Option (List ℕ)
byte_before None low bytes = None
byte_before (Some high) None bytes = None
byte_before (Some high) (Some low) bytes = joined ((16 * high + low) ∷ []) bytes

-- the bytes that a text of digits stands for, two digits each, the higher one first; none if another byte is among them, or a
-- digit is left over
abbrev pub unhexed : List ℕ → Option (List ℕ)
unhexed [] = Some []
unhexed (high ∷ []) = None
unhexed (high ∷ low ∷ rest) = byte_before (hex_value high) (hex_value low) (unhexed rest)
