-- What a handler does with an input, and with output words.
use Rattle.std.specs.Prelude.{ℕ, List, [], length, nat_le, Option, Some, None, if◌then◌else◌}
use Rattle.sei_code.specs.Kept.{Kept}
use Rattle.sei_code.specs.declared.modes.Rendered.{Rendered}
use Rattle.sei_code.specs.declared.modes.Rendered.TheVariants.{Done, Full, Bad}
use Rattle.sei_stmt.specs.declared.stmt.Stmt.{Stmt}

-- a call of an input: its bucket, and the input words of its pass
pub record Parsed : Type 0 where
  pub bucket : ℕ
  pub words : List ℕ

-- what a handler does:
-- - the statements of its table,
-- - how many calls an input has, or none if it is not one whole request,
-- - each call of an input, by its number from 0,
-- - the bytes that output words stand for, or none if they are malformed
pub record Behavior : Type 0 where
  pub statements : List Stmt
  pub calls : List ℕ → Option ℕ
  pub parsed : List ℕ → ℕ → Option Parsed
  pub rendered : List ℕ → Option (List ℕ)

-- the words that a pass is given, which are none if there is no such call
abbrev pub parsed_words : Option Parsed → List ℕ
parsed_words None = []
parsed_words (Some p) = p.words

-- the bucket of the call, if there is such a call
abbrev pub parsed_bucket : Option Parsed → Option ℕ
parsed_bucket None = None
parsed_bucket (Some p) = Some p.bucket

-- a list with the same room that holds these items
abbrev pub refilled : {A : Type 0} → Kept A → List A → Kept A
refilled k items = record { items = items; room = k.room }

-- the outcome of making bytes in a buffer of this room; there are none if the words are malformed
abbrev pub rendered_as : Option (List ℕ) → ℕ → Rendered
rendered_as None room = Bad
rendered_as (Some bytes) room = if nat_le (length bytes) room then Done else Full

-- the bytes that were made
abbrev pub rendered_bytes : Option (List ℕ) → ℕ → List ℕ
rendered_bytes None room = []
rendered_bytes (Some bytes) room = if nat_le (length bytes) room then bytes else []
