-- Changes of words, and what undoing or making all changes of a log leaves.
use Rattle.std.specs.Prelude.{◌≡◌, ◌≢◌, ℕ, List, [], ◌∷◌, length, Some, slice_get, slice_set}
use Rattle.sei_log.specs.declared.log.Change.{Change}

-- the word at an address becomes another one
abbrev pub change_of : ℕ → ℕ → ℕ → Change
change_of address was becomes = record { address = address; was = was; becomes = becomes }

-- the words after the undoing of all these changes, the last one first
abbrev pub undone : List Change → List ℕ → List ℕ
undone [] words = words
undone (c ∷ rest) words = slice_set (undone rest words) c.address c.was

-- the words after all these changes, made in their order
abbrev pub applied : List Change → List ℕ → List ℕ
applied [] words = words
applied (c ∷ rest) words = applied rest (slice_set words c.address c.becomes)

-- the change is at this place of the log
abbrev pub Stands : List Change → ℕ → Change → Type 0
Stands log place c = slice_get log place ≡ Some c

-- no change of the log has this address
abbrev pub IsFree : List Change → ℕ → Type 0
IsFree log address = (place : ℕ) (c : Change) → Stands log place c → address ≢ c.address

-- two lists of words differ at most where the log has a change
pub record SameOff (log : List Change) (words those : List ℕ) : Type 0 where
  pub long : length words ≡ length those
  pub same : (address : ℕ) → IsFree log address → slice_get words address ≡ slice_get those address

-- no address is in the log twice
pub record IsDistinct (log : List Change) : Type 0 where
  pub distinct : (p q : ℕ) (c d : Change) → Stands log p c → Stands log q d → c.address ≡ d.address → p ≡ q
