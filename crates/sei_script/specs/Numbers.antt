-- Numbers in a script: digits, with no leading zero but in the number 0.
use Rattle.std.specs.Prelude.{ℕ, ◌+◌, ◌-◌, ◌*◌, Bool, false, ◌&&◌, ◌||◌, not, List, [], ◌∷◌, length, if◌then◌else◌, ◌==◌, Option, Some, None, ◌^◌, nat_lt}
use Rattle.std.specs.List.{list_all}
use Rattle.mc_model.specs.Numbers.{is_digit}

-- the number that these digits spell behind others that spell n
abbrev pub digits_after : ℕ → List ℕ → ℕ
digits_after n [] = n
digits_after n (b ∷ bs) = digits_after (n * 10 + (b - 48)) bs

abbrev pub is_number : List ℕ → Bool
is_number [] = false
is_number (b ∷ bs) = list_all is_digit (b ∷ bs) && (not (b == 48) || (length bs == 0))

-- the number that a word spells, of any size
abbrev pub number_of : List ℕ → Option ℕ
number_of word = if is_number word then Some (digits_after 0 word) else None

-- a number below 2^64
abbrev pub in_word : Option ℕ → Option ℕ
in_word None = None
in_word (Some n) = if nat_lt n (2 ^ 64) then Some n else None

-- the number that a word spells, where it is below 2^64
abbrev pub exact_of : List ℕ → Option ℕ
exact_of word = in_word (number_of word)
