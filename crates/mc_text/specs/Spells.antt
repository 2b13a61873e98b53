-- The grammar: what request a whole text spells.
-- Source: memcached's protocol.txt, "Commands", "Storage commands", "Retrieval command" and "Error strings".
-- docs/PROTOCOL.md tells the part of it that is spoken here.
use Rattle.std.specs.Prelude.{◌≡◌, ℕ, suc, ◌<◌, true, false, ◌==◌, nat_le, List, [], ◌∷◌, ◌++◌, Option, Some, None, length, take, ◌≤◌, if◌then◌else◌}
use Rattle.std.specs.Str.{bytes_eq}
use Rattle.mc_model.specs.Call.{Call}
use Rattle.mc_text.specs.declared.limits.Limits.{Limits}
use Rattle.mc_text.specs.Bounds.{longest_line}
use Rattle.mc_model.specs.Texts.{bad_data_chunk_text, line_too_long_text, object_too_large_text}
use Rattle.mc_text.specs.Words.{words, without_cr}
use Rattle.mc_text.specs.Meaning.{Meaning, One, Each}
use Rattle.mc_text.specs.Lines.{LineMeaning, Ends, Wants, words_say, fixed}

abbrev pub one_behind : Option ℕ → Option ℕ
one_behind None = None
one_behind (Some k) = Some (suc k)

-- the place of the first LF
abbrev pub lf : List ℕ → Option ℕ
lf [] = None
lf (b ∷ bs) = if b == 10 then Some 0 else one_behind (lf bs)

-- a line without its LF
pub record IsLine (line : List ℕ) : Type 0 where
  pub short : length line < longest_line
  pub one : lf line ≡ None

-- what a line asks for, by its words, without a CR at its end
unfoldable pub line_says : List ℕ → LineMeaning
line_says line = words_say (words (without_cr line))

abbrev pub too_long : Meaning
too_long = One (fixed line_too_long_text false) true

-- the end of a block
abbrev pub crlf : List ℕ
crlf = 13 ∷ 10 ∷ []

-- the text that refuses a block, if it is refused: by the two bytes after it, and then by the limit
abbrev pub block_refusal : Limits → List ℕ → List ℕ → Option ℕ
block_refusal l block ending =
    if bytes_eq ending crlf then (if nat_le (length block) l.value_bytes then None else Some object_too_large_text) else Some bad_data_chunk_text

-- the call at its keys, with its block; or the text that refuses the block
abbrev pub settled : Call → List (List ℕ) → List ℕ → Option ℕ → Meaning
settled c keys block None = Each (record c { block = block }) keys
settled c keys block (Some text) = One (fixed text c.noreply) false

-- a request with its block and the two bytes after it
unfoldable pub finished : Limits → Call → List (List ℕ) → List ℕ → List ℕ → Meaning
finished l c keys block ending = settled c keys block (block_refusal l block ending)

-- as many bytes as a line has at most, without LF; a line; a line, a block and two bytes after it
pub data Spells (l : Limits) (text : List ℕ) (m : Meaning) : Type 0 where
  TooLong : length text ≡ longest_line → lf text ≡ None → m ≡ too_long → Spells l text m
  OneLine : (line : List ℕ) → IsLine line → text ≡ line ++ 10 ∷ [] → line_says line ≡ Ends m → Spells l text m
  WithBlock : (line block ending : List ℕ) (c : Call) (keys : List (List ℕ)) → IsLine line → text ≡ line ++ 10 ∷ (block ++ ending)
      → line_says line ≡ Wants c keys (length block) → length ending ≡ 2 → m ≡ finished l c keys block ending → Spells l text m

-- the first k bytes spell it
pub record Begins (l : Limits) (bytes : List ℕ) (k : ℕ) (m : Meaning) : Type 0 where
  pub within : k ≤ length bytes
  pub spelled : Spells l (take k bytes) m

-- some bytes after these make them the spelling of a request
pub record Completed (l : Limits) (bytes : List ℕ) : Type 0 where
  pub tail : List ℕ
  pub request : Meaning
  pub spelled : Spells l (bytes ++ tail) request
