-- The lines of a text, and the words of a line.
use Rattle.std.specs.Prelude.{◌≡◌, ◌-◌, ◌^◌, min, length, nat_lt, Option, Some, None, ℕ, List, [], ◌∷◌, if◌then◌else◌, ◌==◌}
use Rattle.std.specs.Option.{option_map}
use Rattle.std.specs.List.{before_first, after_first, position_or_len}
use Rattle.sei_script.specs.Numbers.{number_of, exact_of}

-- a byte before the first of these lines, or before the rest where there is no line
abbrev pub onto_first_line : ℕ → List (List ℕ) × List ℕ → List (List ℕ) × List ℕ
onto_first_line b ([], rest) = ([], b ∷ rest)
onto_first_line b (line ∷ lines, rest) = ((b ∷ line) ∷ lines, rest)

-- the lines that end in an LF, without it, and what stands behind the last LF
abbrev pub lines_in : List ℕ → List (List ℕ) × List ℕ
lines_in [] = ([], [])
lines_in (b ∷ bs) = if b == 10 then ([] ∷ (lines_in bs).0, (lines_in bs).1) else onto_first_line b (lines_in bs)

-- the word before the first space
abbrev pub word_of : List ℕ → List ℕ
word_of text = before_first (λ b. b == 32) text

-- what stands behind the first space, where there is one
abbrev pub behind_word : List ℕ → Option (List ℕ)
behind_word text = if nat_lt (position_or_len (λ b. b == 32) text) (length text) then Some (after_first (λ b. b == 32) text) else None

-- a number, and what stands behind the space after it
pub record Part : Type 0 where
  pub number : ℕ
  pub rest : Option (List ℕ)

abbrev pub part : ℕ → Option (List ℕ) → Part
part n text = record { number = n; rest = text }

-- the number that a text begins with, and what stands behind the space after it
abbrev pub first_number : Option (List ℕ) → Option Part
first_number None = None
first_number (Some text) = option_map (λ n. part n (behind_word text)) (number_of (word_of text))

-- the same part, but that the number is at most the last u64
abbrev pub IsCapped : Option Part → Option Part → Type 0
IsCapped capped first = capped ≡ option_map (λ p. part (min p.number (2 ^ 64 - 1)) p.rest) first

-- as `first_number`, of a number below 2^64
abbrev pub first_exact : Option (List ℕ) → Option Part
first_exact None = None
first_exact (Some text) = option_map (λ n. part n (behind_word text)) (exact_of (word_of text))

-- the number below 2^64 that a whole text spells
abbrev pub last_exact : Option (List ℕ) → Option ℕ
last_exact None = None
last_exact (Some text) = exact_of text
