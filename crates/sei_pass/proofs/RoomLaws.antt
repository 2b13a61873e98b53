-- What every statement keeps, whatever the answers are.
use Rattle.std.proofs.Common.{◌≡◌, ◌∙◌, ℕ, ◌≤◌, List, [], ◌∷◌, ◌++◌, length, true, refl, ap, arith, length-append}
use Rattle.std.proofs.lemmas.Bool.{ltb-true}
use Rattle.std.proofs.lemmas.List.{length-set}
use Rattle.sei_code.specs.Kept.{Kept, has_room}
use Rattle.sei_fault.specs.Tree.{Always}
use Rattle.sei_fault.proofs.Public.{always_map}
use Rattle.sei_stmt.specs.declared.stmt.Stmt.{Stmt}
use Rattle.sei_stmt.specs.Handling.{parsed_words}
use Rattle.sei_stmt.specs.Machine.{Machine, Setting, After}
use Rattle.sei_stmt.specs.Statements.{statement_tree}
use Rattle.sei_stmt.proofs.PublicStatementEnds.{IsKeptBy, statement_keeps}

-- the rooms and the number of statements stay; the changes, the output words and the output bytes fit into their rooms, and
-- so do the input words, where those do that the pass is given
pub record Keeps (given : List ℕ) (m y : Machine) : Type 0 where
  pub registers : length y.registers ≡ length m.registers
  pub input : y.input.room ≡ m.input.room
  pub output : y.output.room ≡ m.output.room
  pub bytes : y.bytes.room ≡ m.bytes.room
  pub log : y.log.room ≡ m.log.room
  pub made : y.made ≡ m.made
  pub fits : length m.output.items ≤ m.output.room → length y.output.items ≤ y.output.room
  pub log_fits : length m.log.items ≤ m.log.room → length y.log.items ≤ y.log.room
  pub bytes_fit : length m.bytes.items ≤ m.bytes.room → length y.bytes.items ≤ y.bytes.room
  pub input_fits : length given ≤ m.input.room → length m.input.items ≤ m.input.room → length y.input.items ≤ y.input.room

-- what no statement changes
abbrev Rooms : Machine → Machine → Type 0
Rooms m y = (y.input.room ≡ m.input.room) × (y.output.room ≡ m.output.room) × (y.bytes.room ≡ m.bytes.room) × (y.log.room ≡ m.log.room) × (y.made ≡ m.made)

-- a list that fits into its room still does
abbrev Fits : {A : Type 0} → Kept A → Kept A → Type 0
Fits k l = length k.items ≤ k.room → length l.items ≤ l.room

-- the same, part by part: a change of a machine concerns one of them alone
abbrev Parts : List ℕ → Machine → Machine → Type 0
Parts given m y =
    (length y.registers ≡ length m.registers) × Rooms m y × Fits m.output y.output × Fits m.log y.log × Fits m.bytes y.bytes
    × (length given ≤ m.input.room → length m.input.items ≤ m.input.room → length y.input.items ≤ y.input.room)

one_fits : {A : Type 0} (k : Kept A) (x : A) → has_room k ≡ true → length (k.items ++ x ∷ []) ≤ k.room
one_fits k x h = let below = ltb-true (length k.items) k.room h in grind (arith, length-append)

parts : (g : Setting) (m : Machine) (s : Stmt) → IsKeptBy g s (Parts (parsed_words g.parsed) m)
parts g m s = record {
  assigned = λ y to w h. (length-set y.registers to w ∙ h.0, h.1, h.2, h.3, h.4, h.5);
  logged = λ is y a was w entry e r h. (h.0, h.1, h.2, λ f. one_fits y.log entry r, h.4, h.5);
  emits = λ y w r h. (h.0, h.1, λ f. one_fits y.output w r, h.3, h.4, h.5);
  timed = λ is r y note h. h;
  slotted = λ is r y note h. h;
  filled = λ y h. (h.0, h.1, h.2, h.3, h.4, λ few f. omega (arith, few, h.1.0));
  first = λ y word w words e h. (h.0, h.1, h.2, h.3, h.4, λ few f. omega (arith, h.5 few f, ap length e));
  coded = λ is y code h. h;
  emptied = λ is y h. (h.0, h.1, h.2, h.3, λ f. omega arith, h.5);
  rendered = λ is y byte bytes small fits h. (h.0, h.1, h.2, h.3, λ f. fits, h.5);
}

pub keeps : (g : Setting) (i : ℕ) (m : Machine) (s : Stmt) → Always (λ (x : After). Keeps (parsed_words g.parsed) m x.machine) (statement_tree g i m s)
keeps g i m s =
    let given = parsed_words g.parsed in
    always_map (λ x. Parts given m x.machine) (λ x. Keeps given m x.machine) (statement_tree g i m s)
    (λ x h. record {
      registers = h.0;
      input = h.1.0;
      output = h.1.1;
      bytes = h.1.2;
      log = h.1.3;
      made = h.1.4;
      fits = h.2;
      log_fits = h.3;
      bytes_fit = h.4;
      input_fits = h.5;
    })
    (statement_keeps g s (Parts given m) (parts g m s) i m (refl, (refl, refl, refl, refl, refl), λ f. f, λ f. f, λ f. f, λ few f. f))
