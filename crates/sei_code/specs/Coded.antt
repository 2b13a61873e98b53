-- A word with its check, which is the word's bitwise complement.
use Rattle.std.specs.Prelude.{ℕ, ◌-◌, ◌^◌, ◌==◌, Option, Some, None, if◌then◌else◌}
use Rattle.sei_code.specs.declared.coded.Coded.{Coded}

-- each of the 64 bits inverted
abbrev pub complement : ℕ → ℕ
complement v = 2 ^ 64 - 1 - v

-- a word with its complement as its check. If the word alone was altered, or the check alone, it does not read
abbrev pub sealed : ℕ → Coded
sealed v = record { value = v; check = complement v }

-- the value if its check is its complement, else none
abbrev pub read_of : Coded → Option ℕ
read_of c = if c.check == complement c.value then Some c.value else None
