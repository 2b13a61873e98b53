-- The machine with which a pass begins, and what the pass is given.
use Rattle.std.specs.Prelude.{◌≡◌, ℕ, Bool, true, false, List, Option, Some, None, replicate}
use Rattle.sei_code.specs.Coded.{sealed}
use Rattle.sei_code.specs.Kept.{empty_kept}
use Rattle.sei_log.specs.declared.log.Change.{Change}
use Rattle.sei_log.specs.declared.notes.Notes.{Notes}
use Rattle.sei_stmt.specs.declared.stmt.Stmt.{Stmt}
use Rattle.sei_stmt.specs.Handling.{Parsed}
use Rattle.sei_stmt.specs.Machine.{Machine, Setting}

-- how many items the lists of a pass hold at most
pub record Rooms : Type 0 where
  pub input : ℕ
  pub output : ℕ
  pub bytes : ℕ
  pub log : ℕ

-- what each pass of a geometry has: rooms, a budget, slots, and which of them are free in which words at which moment
pub record Space : Type 0 where
  pub rooms : Rooms
  pub budget : ℕ
  pub slots : ℕ
  pub is_free : List ℕ → ℕ → ℕ → Bool

-- a pass that begins, on these words and with these notes
abbrev pub beginning : Rooms → List ℕ → Notes → Machine
beginning rooms words notes = record {
  registers = replicate 32 0;
  input = empty_kept ℕ rooms.input;
  output = empty_kept ℕ rooms.output;
  bytes = empty_kept ℕ rooms.bytes;
  code = None;
  made = 0;
  words = words;
  log = empty_kept Change rooms.log;
  notes = notes;
}

-- the setting of a pass of this table in this space
pub record IsPassOf (statements : List Stmt) (rendered : List ℕ → Option (List ℕ)) (space : Space) (g : Setting) : Type 0 where
  pub statements_are : g.statements ≡ statements
  pub rendered_are : g.rendered ≡ rendered
  pub budget_is : g.budget ≡ space.budget
  pub slots_are : g.slots ≡ space.slots
  pub free_are : g.is_free ≡ space.is_free

-- the sealed input is intact, has the sealed call, and the bucket of the call is lent
pub record IsServed (g : Setting) (p : Parsed) : Type 0 where
  pub intact : g.intact ≡ true
  pub parsed : g.parsed ≡ Some p
  pub lent : g.lent ≡ Some p.bucket

-- the notes of these two answers
abbrev pub notes_of : ℕ → ℕ → Notes
notes_of now slot = record { now = Some (sealed now); slot = Some (sealed slot) }

-- the answers of a pass: the first one is told the time by the clock, the second has notes of a time and a slot
pub data IsTold (g : Setting) (now : ℕ) (notes : Notes) : Type 0 where
  ByClock : g.reading ≡ false → now ≡ g.now → IsTold g now notes
  ByNotes : g.reading ≡ true → (slot : ℕ) → notes ≡ notes_of now slot → IsTold g now notes
