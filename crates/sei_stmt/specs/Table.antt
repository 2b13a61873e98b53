-- Tables: lists of statements that can be carried out from the first one to a Halt.
use Rattle.std.specs.Prelude.{◌≡◌, ℕ, ◌+◌, ◌-◌, ◌<◌, ◌≤◌, Bool, true, false, ◌&&◌, nat_lt, nat_le, List, length, slice_get, Some, IsSomeAnd, ⊤, ℤ, pos, negsuc}
use Rattle.sei_stmt.specs.declared.stmt.Stmt.{Stmt}
use Rattle.sei_stmt.specs.declared.stmt.Stmt.TheVariants.{Const, Move, Add, Sub, Input, Load, Store, Emit, Jump, JumpEq, JumpLt, Now, Alloc, Parse, Render, Halt}
use Rattle.sei_stmt.specs.declared.table.TableError.{TableError}
use Rattle.sei_stmt.specs.declared.table.TableError.TheVariants.{Empty, BadRegister, JumpOut, NoHalt}

-- there are 32 registers
abbrev pub is_register : ℕ → Bool
is_register r = nat_lt r 32

-- a statement names registers alone
abbrev pub registers_fit : Stmt → Bool
registers_fit (Const to number) = is_register to
registers_fit (Move to from) = is_register to && is_register from
registers_fit (Add to left right) = is_register to && is_register left && is_register right
registers_fit (Sub to left right) = is_register to && is_register left && is_register right
registers_fit (Input to index) = is_register to && is_register index
registers_fit (Load to address) = is_register to && is_register address
registers_fit (Store address from) = is_register address && is_register from
registers_fit (Emit from) = is_register from
registers_fit (Jump offset) = true
registers_fit (JumpEq left right offset) = is_register left && is_register right
registers_fit (JumpLt left right offset) = is_register left && is_register right
registers_fit (Now to) = is_register to
registers_fit (Alloc to moment) = is_register to && is_register moment
registers_fit Parse = true
registers_fit Render = true
registers_fit Halt = true

-- the same as a fact
abbrev pub HasRegisters : Stmt → Type 0
HasRegisters (Const to number) = to < 32
HasRegisters (Move to from) = (to < 32) × (from < 32)
HasRegisters (Add to left right) = (to < 32) × (left < 32) × (right < 32)
HasRegisters (Sub to left right) = (to < 32) × (left < 32) × (right < 32)
HasRegisters (Input to index) = (to < 32) × (index < 32)
HasRegisters (Load to address) = (to < 32) × (address < 32)
HasRegisters (Store address from) = (address < 32) × (from < 32)
HasRegisters (Emit from) = from < 32
HasRegisters (Jump offset) = ⊤
HasRegisters (JumpEq left right offset) = (left < 32) × (right < 32)
HasRegisters (JumpLt left right offset) = (left < 32) × (right < 32)
HasRegisters (Now to) = to < 32
HasRegisters (Alloc to moment) = (to < 32) × (moment < 32)
HasRegisters Parse = ⊤
HasRegisters Render = ⊤
HasRegisters Halt = ⊤

-- where a jump at index i goes: i + 1 + offset. A `negsuc n` is -(n + 1).
abbrev pub target : ℕ → ℤ → ℕ
target i (pos n) = i + 1 + n
target i (negsuc n) = i - n

-- a jump at index i does not go to before the first statement
abbrev pub IsTarget : ℕ → ℤ → Type 0
IsTarget i (pos n) = ⊤
IsTarget i (negsuc n) = n ≤ i

-- a jump at index i goes to one of n statements
abbrev pub is_inside : ℕ → ℕ → ℤ → Bool
is_inside count i (pos n) = nat_lt (i + 1 + n) count
is_inside count i (negsuc n) = nat_le n i && nat_lt (i - n) count

-- the same as a fact
pub record IsInside (count i : ℕ) (offset : ℤ) : Type 0 where
  pub not_before : IsTarget i offset
  pub below : target i offset < count

-- the statement at index i is no jump, or goes to one of n statements
abbrev pub jump_fits : ℕ → ℕ → Stmt → Bool
jump_fits count i (Jump offset) = is_inside count i offset
jump_fits count i (JumpEq left right offset) = is_inside count i offset
jump_fits count i (JumpLt left right offset) = is_inside count i offset
jump_fits count i s = true

-- the same as a fact
abbrev pub JumpsInside : ℕ → ℕ → Stmt → Type 0
JumpsInside count i (Jump offset) = IsInside count i offset
JumpsInside count i (JumpEq left right offset) = IsInside count i offset
JumpsInside count i (JumpLt left right offset) = IsInside count i offset
JumpsInside count i s = ⊤

-- of n statements, the one at index i has a next one, if it may go on to that
abbrev pub HasNext : ℕ → ℕ → Stmt → Type 0
HasNext count i (Jump offset) = ⊤
HasNext count i Halt = ⊤
HasNext count i s = i + 1 < count

abbrev pub is_halt : Stmt → Bool
is_halt Halt = true
is_halt s = false

-- each statement before index n passes a test of its index and itself
abbrev pub FitBefore : (ℕ → Stmt → Bool) → List Stmt → ℕ → Type 0
FitBefore test stmts n = (i : ℕ) (s : Stmt) → i < n → slice_get stmts i ≡ Some s → test i s ≡ true

abbrev pub AllFit : (ℕ → Stmt → Bool) → List Stmt → Type 0
AllFit test stmts = FitBefore test stmts (length stmts)

-- the statement at this index does not pass, and each before it does
pub record IsFirstUnfit (test : ℕ → Stmt → Bool) (stmts : List Stmt) (at : ℕ) : Type 0 where
  pub unfit : IsSomeAnd (slice_get stmts at) (λ s. test at s ≡ false)
  pub before : FitBefore test stmts at

-- the test of registers, which does not ask for the index
abbrev pub registers_at : ℕ → Stmt → Bool
registers_at i s = registers_fit s

-- there is a last statement, and whether it is a Halt is this answer
abbrev pub EndsIn : Bool → List Stmt → Type 0
EndsIn answer stmts = IsSomeAnd (slice_get stmts (length stmts - 1)) (λ s. is_halt s ≡ answer)

-- each register is there, each jump goes to a statement, and the last statement is a Halt
pub record IsTable (stmts : List Stmt) : Type 0 where
  pub registers : AllFit registers_at stmts
  pub jumps : AllFit (jump_fits (length stmts)) stmts
  pub last : EndsIn true stmts

-- all registers and jumps fit, and the last statement is no Halt
pub record LacksHalt (stmts : List Stmt) : Type 0 where
  pub registers : AllFit registers_at stmts
  pub jumps : AllFit (jump_fits (length stmts)) stmts
  pub last : EndsIn false stmts

-- all registers fit, and the first jump that goes to no statement is at this index
pub record IsFirstJumpOut (stmts : List Stmt) (at : ℕ) : Type 0 where
  pub registers : AllFit registers_at stmts
  pub first : IsFirstUnfit (jump_fits (length stmts)) stmts at

-- for which cause a list is no table: each list that is none has one of these, and no list has two
abbrev pub IsRefusedAs : List Stmt → TableError → Type 0
IsRefusedAs stmts Empty = length stmts ≡ 0
IsRefusedAs stmts (BadRegister at) = IsFirstUnfit registers_at stmts at
IsRefusedAs stmts (JumpOut at) = IsFirstJumpOut stmts at
IsRefusedAs stmts NoHalt = LacksHalt stmts
