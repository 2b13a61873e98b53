-- Numbers as decimal digits spell them.
-- They have no sign; leading zeros are read.
use Rattle.std.specs.Prelude.{ℕ, ◌+◌, ◌*◌, ◌-◌, ◌^◌, Bool, ◌&&◌, nat_le, List, [], ◌∷◌, Option, Some, None, length, if◌then◌else◌}
use Rattle.std.specs.List.{list_all}

abbrev pub is_digit : ℕ → Bool
is_digit b = nat_le 48 b && nat_le b 57

-- the number that these digits spell after others that spell n
abbrev pub value_after : ℕ → List ℕ → ℕ
value_after n [] = n
value_after n (b ∷ bs) = value_after (10 * n + (b - 48)) bs

-- the number that digits spell
abbrev pub decimal_value : List ℕ → ℕ
decimal_value w = value_after 0 w

-- the number that a word spells, if it is one digit or more, and the number is at most max
abbrev pub number_upto : ℕ → List ℕ → Option ℕ
number_upto max [] = None
number_upto max (b ∷ bs) = if list_all is_digit (b ∷ bs) && nat_le (decimal_value (b ∷ bs)) max then Some (decimal_value (b ∷ bs)) else None

-- a value that may be counted: 1 to 20 digits
abbrev pub counter_value : List ℕ → Option ℕ
counter_value v = if nat_le (length v) 20 then number_upto (2 ^ 64 - 1) v else None
