-- The words of a line: runs of bytes other than spaces.
use Rattle.std.specs.Prelude.{◌≡◌, ℕ, ◌-◌, ◌==◌, ◌<◌, ◌≤◌, List, [], ◌∷◌, ◌++◌, length, slice_index, slice_index_or, slice_range, take, drop, if◌then◌else◌}
use Rattle.mc_model.specs.declared.call.Span.{Span}

abbrev pub closed : List ℕ → List (List ℕ) → List (List ℕ)
closed [] ws = ws
closed (b ∷ bs) ws = (b ∷ bs) ∷ ws

-- a space, 32, ends the word so far, if there is one
abbrev pub words_from : List ℕ → List ℕ → List (List ℕ)
words_from w [] = closed w []
words_from w (b ∷ bs) = if b == 32 then closed w (words_from [] bs) else words_from (w ++ b ∷ []) bs

unfoldable pub words : List ℕ → List (List ℕ)
words line = words_from [] line

-- the nth word, or none
abbrev pub arg : List (List ℕ) → ℕ → List ℕ
arg ws n = slice_index_or ws n []

-- a CR, 13, at the end of a line is dropped
abbrev pub line_end : List ℕ → ℕ
line_end line = if slice_index line (length line - 1) == 13 then length line - 1 else length line

abbrev pub without_cr : List ℕ → List ℕ
without_cr line = take (line_end line) line

-- the first word at a place or after it
pub record IsNextWord (line : List ℕ) (at : ℕ) (s : Span) : Type 0 where
  pub word : words (drop at line) ≡ slice_range line s.from s.to ∷ words (drop s.to line)
  pub from : at ≤ s.from
  pub some : s.from < s.to
  pub within : s.to ≤ length line
