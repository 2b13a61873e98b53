-- The most that a program can change.
use Rattle.std.specs.Prelude.{◌≡◌, ℕ, ◌+◌, ◌<◌, ◌≤◌, List, [], ◌∷◌, length, Bool, true, false, ◌&&◌, slice_index}
use Rattle.sei_log.specs.declared.log.Change.{Change}
use Rattle.sei_stmt.specs.declared.stmt.Stmt.{Stmt}
use Rattle.sei_stmt.specs.declared.stmt.Stmt.TheVariants.{Const, Move, Add, Sub, Input, Load, Store, Emit, Jump, JumpEq, JumpLt, Now, Alloc, Parse, Render, Halt}
use Rattle.sei_stmt.specs.Runs.{RunState}
use Rattle.sei_stmt.specs.Programs.{Prog, Block, Seq, IfEq, IfLt, RepeatLt}

-- the registers that may be written, and whether words may be stored, output words made, and the stage
-- changed, which Parse, Now, Alloc and Render do
pub record Touch : Type 0 where
  pub regs : ℕ → Bool
  pub words : Bool
  pub out : Bool
  pub stage : Bool

abbrev pub anything : Touch
anything = record { regs = λ r. true; words = true; out = true; stage = true }

abbrev pub stmt_within : Touch → Stmt → Bool
stmt_within w (Const to n) = w.regs to
stmt_within w (Move to from) = w.regs to
stmt_within w (Add to l r) = w.regs to
stmt_within w (Sub to l r) = w.regs to
stmt_within w (Input to i) = w.regs to
stmt_within w (Load to a) = w.regs to
stmt_within w (Store a from) = w.words
stmt_within w (Emit from) = w.out
stmt_within w (Jump o) = true
stmt_within w (JumpEq l r o) = true
stmt_within w (JumpLt l r o) = true
stmt_within w (Now to) = w.stage && w.regs to
stmt_within w (Alloc to m) = w.stage && w.regs to
stmt_within w Parse = w.stage
stmt_within w Render = w.stage
stmt_within w Halt = true

abbrev pub all_within : Touch → List Stmt → Bool
all_within w [] = true
all_within w (x ∷ xs) = stmt_within w x && all_within w xs

-- the program changes no more than this. It is `refl` at a program that is written out
abbrev pub within : Touch → Prog → Bool
within w (Block xs) = all_within w xs
within w (Seq p q) = within w p && within w q
within w (IfEq l r p q) = within w p && within w q
within w (IfLt l r p q) = within w p && within w q
within w (RepeatLt l r b) = within w b

-- the addresses of the changes rise strictly, from lo on and below n
abbrev pub Rises : ℕ → List Change → ℕ → Type 0
Rises lo [] n = lo ≤ n
Rises lo (c ∷ cs) n = (lo ≤ c.address) × Rises (c.address + 1) cs n

-- how state t may differ from state s, after a program that changes no more than w allows
pub record Framed (w : Touch) (s t : RunState) : Type 0 where
  pub regs : (r : ℕ) → w.regs r ≡ false → t.regs r ≡ s.regs r
  pub words : w.words ≡ false → t.words ≡ s.words
  pub stores : w.words ≡ false → t.stores ≡ s.stores
  pub still : w.words ≡ false → t.floor ≡ s.floor
  pub out : w.out ≡ false → t.out ≡ s.out
  pub emitted : w.out ≡ false → t.emitted ≡ s.emitted
  pub stage : w.stage ≡ false → t.stage ≡ s.stage
  pub bytes : w.stage ≡ false → t.bytes ≡ s.bytes
  -- the stage never falls
  pub later : s.stage ≤ t.stage
  pub size : length t.words ≡ length s.words
  pub rises : s.floor ≤ t.floor
  -- words are changed between the two floors alone
  pub below : (a : ℕ) → a < s.floor → slice_index t.words a ≡ slice_index s.words a
  pub above : (a : ℕ) → t.floor ≤ a → slice_index t.words a ≡ slice_index s.words a
  -- addresses that rose go on rising
  pub changes : (lo : ℕ) → Rises lo s.changes s.floor → Rises lo t.changes t.floor
