-- How a change is undone, and which words are left after all changes of a log are.
use Rattle.std.specs.Prelude.{◌≡◌, ℕ, zero, suc, ◌-◌, length, List, [], ◌∷◌, Option, Some, None, slice_get, slice_set}
use Rattle.std.specs.declared.result.Result.{Result}
use Rattle.std.specs.declared.result.Result.TheVariants.{Ok, Err}
use Rattle.sei_fault.specs.declared.cause.AbortCause.{AbortCause}
use Rattle.sei_fault.specs.declared.cause.AbortCause.TheVariants.{Range}
use Rattle.sei_fault.specs.Question.Question.{Value, Written}
use Rattle.sei_fault.specs.Tree.{Tree, honest}
use Rattle.sei_fault.specs.Tree.Tree.{Done, Ask}
use Rattle.sei_log.specs.declared.log.Change.{Change}

-- the words after one change was undone, and the cause if it aborts
pub record Undone : Type 0 where
  pub words : List ℕ
  pub cause : Option AbortCause

abbrev pub undo_word : List ℕ → ℕ → ℕ → Option ℕ → Tree Undone
undo_word words a was None = Done (record { words = words; cause = Some (Range a) })
undo_word words a was (Some word) = Ask (Written was) (λ w. Done (record { words = slice_set words a w; cause = None }))

-- the address is read, and the old word, which is written there
abbrev pub undo_tree : List ℕ → Change → Tree Undone
undo_tree words c = Ask (Value c.address) (λ a. Ask (Value c.was) (λ was. undo_word words a was (slice_get words a)))

-- undoing the change at a place of a log; if there is none, nothing is asked
abbrev pub undo_at : List ℕ → Option Change → Tree Undone
undo_at words None = Done (record { words = words; cause = None })
undo_at words (Some c) = undo_tree words c

-- undoing the change n places before the last one
abbrev pub undo_nth : List Change → ℕ → List ℕ → Tree Undone
undo_nth log n words = undo_at words (slice_get log (length log - 1 - n))

-- what an undoing came to, by the words that it left and the answer of the call
abbrev pub undone_of : List ℕ → Result (Unit {0}) AbortCause → Undone
undone_of words (Ok u) = record { words = words; cause = None }
undone_of words (Err cause) = record { words = words; cause = Some cause }

-- the changes, in their order, lead from these words to those, and each old word is the one that was there
abbrev pub LeadsTo : List ℕ → List Change → List ℕ → Type 0
LeadsTo before [] after = after ≡ before
LeadsTo before (c ∷ rest) after = (slice_get before c.address ≡ Some c.was) × LeadsTo (slice_set before c.address c.becomes) rest after

-- the words after the changes at the last n places are undone without a strike, the last one first
abbrev pub restored : List Change → List ℕ → ℕ → List ℕ
restored log words zero = words
restored log words (suc n) = (honest (undo_nth log n (restored log words n))).words
