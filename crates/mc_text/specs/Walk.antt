-- The position of an iterator over the words of a line, or over the calls of a request.
use Rattle.std.specs.Prelude.{◌≡◌, ℕ, ◌+◌, ◌<◌, ◌≤◌, List, length, take, drop}
use Rattle.mc_text.specs.declared.parsed.Kind.TheVariants.{Each}
use Rattle.mc_text.specs.declared.request.Request.{Request}
use Rattle.mc_text.specs.declared.cursor.Cursor.{Cursor}
use Rattle.mc_text.specs.declared.scan.Scan.{Scan}
use Rattle.mc_text.specs.Words.{words}

-- the number of the call that it gives next
abbrev pub place_of : Cursor → ℕ
place_of c = c.nth

-- the keys of the calls that it has not given are the words from its position in the line on
pub record IsAt (bytes : List ℕ) (r : Request) (c : Cursor) : Type 0 where
  pub line : c.at ≤ r.line
  pub keys : r.template.kind ≡ Each → words (drop c.at (take r.line bytes)) ≡ drop (r.template.first + c.nth) (words (take r.line bytes))

-- the number of the word that it gives next
abbrev pub next_of : Scan → ℕ
next_of s = s.nth

-- the words that it has not given are those from its position in the line on
pub record IsScan (line : List ℕ) (s : Scan) : Type 0 where
  pub within : s.at ≤ length line
  pub words : words (drop s.at line) ≡ drop s.nth (words line)

-- whether there are n words, by the last of them, which is empty if it is missing
pub record IsLast (ws : List (List ℕ)) (n : ℕ) (last : List ℕ) : Type 0 where
  pub some : 0 < length last → n ≤ length ws
  pub none : length last ≤ 0 → length ws < n
