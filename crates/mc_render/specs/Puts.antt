-- Bytes that are put into a buffer.
use Rattle.std.specs.Prelude.{◌≡◌, ℕ, ◌+◌, ◌<◌, ◌≤◌, List, ◌++◌, length, Result, IfOk, IfErr}
use Rattle.sei_code.specs.Kept.{Kept}

-- the text is after what was there, or there was no room for both. The room stays, and is kept to if it was before
pub record Puts {T E : Type 0} (old new : Kept ℕ) (text : List ℕ) (result : Result T E) : Type 0 where
  pub items : IfOk result (λ _. new.items ≡ old.items ++ text)
  pub within : IfOk result (λ _. length old.items ≤ old.room → length new.items ≤ old.room)
  pub full : IfErr result (λ _. old.room < length old.items + length text)
  pub room : new.room ≡ old.room
