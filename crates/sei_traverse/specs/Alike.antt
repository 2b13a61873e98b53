-- When two logs say the same of the words.
use Rattle.std.specs.Prelude.{◌≡◌, ℕ, List, Option, Some, None, ⊤, slice_get}
use Rattle.sei_log.specs.declared.log.Change.{Change}

-- two changes with the same address, old word and new word
pub record Alike (c d : Change) : Type 0 where
  pub address : c.address ≡ d.address
  pub was : c.was ≡ d.was
  pub becomes : c.becomes ≡ d.becomes

-- both are there and say the same, or neither is there
abbrev pub AlikeAt : Option Change → Option Change → Type 0
AlikeAt None None = ⊤
AlikeAt (Some c) (Some d) = Alike c d
AlikeAt None (Some d) = ⊥
AlikeAt (Some c) None = ⊥

abbrev pub AlikeLogs : List Change → List Change → Type 0
AlikeLogs one two = (place : ℕ) → AlikeAt (slice_get one place) (slice_get two place)
