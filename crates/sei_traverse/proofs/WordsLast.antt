-- A statement leaves as many words as there were, whatever the answers are.
use Rattle.std.proofs.Common.{◌≡◌, ◌∙◌, ℕ, length, refl}
use Rattle.std.proofs.lemmas.List.{length-set}
use Rattle.sei_fault.specs.Tree.{Always}
use Rattle.sei_stmt.specs.declared.stmt.Stmt.{Stmt}
use Rattle.sei_stmt.specs.Machine.{Machine, Setting, After}
use Rattle.sei_stmt.specs.Statements.{statement_tree}
use Rattle.sei_stmt.proofs.PublicStatementEnds.{statement_keeps}

-- as many words as before
abbrev pub Lasts : Machine → Machine → Type 0
Lasts m y = length y.words ≡ length m.words

pub lasts : (g : Setting) (i : ℕ) (m : Machine) (s : Stmt) → Always (λ (x : After). Lasts m x.machine) (statement_tree g i m s)
lasts g i m s = statement_keeps g s (Lasts m) (record {
  assigned = λ y to w h. h;
  logged = λ is y a was w entry e r h. length-set y.words a w ∙ h;
  emits = λ y w r h. h;
  timed = λ is r y note h. h;
  slotted = λ is r y note h. h;
  filled = λ y h. h;
  first = λ y word w words e h. h;
  coded = λ is y code h. h;
  emptied = λ is y h. h;
  rendered = λ is y byte bytes small fits h. h;
}) i m refl
