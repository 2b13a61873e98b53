-- The run of a table that belongs to a pass.
use Rattle.std.specs.Prelude.{◌≡◌, true, false, ℕ, List}
use Rattle.sei_log.specs.declared.notes.Notes.{Notes}
use Rattle.sei_stmt.specs.Machine.{Setting}
use Rattle.sei_stmt.specs.Slots.{lowest_free, is_admissible}
use Rattle.sei_stmt.specs.Passes.{Rooms, notes_of}
use Rattle.sei_stmt.specs.Runs.{Given}

-- what stays through it: these input words, this time and this choice of a slot
abbrev pub given_of : Setting → Rooms → List ℕ → ℕ → (List ℕ → ℕ → ℕ) → Given
given_of g rooms input now slot = record {
  input = input;
  now = now;
  slot = slot;
  is_fit = is_admissible g;
  rendered = g.rendered;
  out_room = rooms.output;
  byte_room = rooms.bytes;
  log_room = rooms.log;
  budget = g.budget;
}

-- where the answers come from: the first pass is told the time by the clock and takes the lowest slot, the second reads
-- its notes
pub data Answers (g : Setting) (now : ℕ) (slot : List ℕ → ℕ → ℕ) (notes : Notes) : Type 0 where
  Made : g.reading ≡ false → now ≡ g.now → slot ≡ lowest_free g → Answers g now slot notes
  Noted : (noted : ℕ) → g.reading ≡ true → slot ≡ (λ words moment. noted) → notes ≡ notes_of now noted → Answers g now slot notes
