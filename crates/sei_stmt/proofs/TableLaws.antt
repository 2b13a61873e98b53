-- What holds of the statements of a table, and that no list is refused for two causes.
use Rattle.std.proofs.Common.{◌≡◌, ℕ, ◌+◌, ◌-◌, ◌<◌, ◌≤◌, ◌⊎◌, inl, inr, true, List, length, get_or, Option, Some, None, sym, ◌∙◌, ap, subst, arith}
use Rattle.std.specs.Prelude.{slice_get, IsSomeAnd, ℤ, pos, negsuc}
use Rattle.std.proofs.lemmas.Option.{slice_get_within, slice_get_past, slice_get_read}
use Rattle.std.proofs.lemmas.Bool.Decides.{nat_tests}
use Rattle.sei_stmt.specs.declared.stmt.Stmt.{Stmt}
use Rattle.sei_stmt.specs.declared.stmt.Stmt.TheVariants.{Const, Move, Add, Sub, Input, Load, Store, Emit, Jump, JumpEq, JumpLt, Now, Alloc, Parse, Render, Halt}
use Rattle.sei_stmt.specs.Table.{registers_fit, HasRegisters, is_inside, IsInside, jump_fits, JumpsInside, HasNext, is_halt, IsTable}

-- the test and the fact say the same
pub registers_are_there : (s : Stmt) → registers_fit s ≡ true → HasRegisters s
registers_are_there (Const to number) h = grind (arith, nat_tests)
registers_are_there (Move to from) h = grind (arith, nat_tests)
registers_are_there (Add to left right) h = grind (arith, nat_tests)
registers_are_there (Sub to left right) h = grind (arith, nat_tests)
registers_are_there (Input to index) h = grind (arith, nat_tests)
registers_are_there (Load to address) h = grind (arith, nat_tests)
registers_are_there (Store address from) h = grind (arith, nat_tests)
registers_are_there (Emit from) h = grind (arith, nat_tests)
registers_are_there (JumpEq left right offset) h = grind (arith, nat_tests)
registers_are_there (JumpLt left right offset) h = grind (arith, nat_tests)
registers_are_there (Now to) h = grind (arith, nat_tests)
registers_are_there (Alloc to moment) h = grind (arith, nat_tests)
registers_are_there (Jump offset) h = tt
registers_are_there Parse h = tt
registers_are_there Render h = tt
registers_are_there Halt h = tt

pub target_is_inside : (count i : ℕ) (offset : ℤ) → is_inside count i offset ≡ true → IsInside count i offset
target_is_inside count i (pos n) h = record { not_before = tt; below = grind (arith, nat_tests) }
target_is_inside count i (negsuc n) h = record { not_before = grind (arith, nat_tests); below = grind (arith, nat_tests) }

pub jump_is_inside : (count i : ℕ) (s : Stmt) → jump_fits count i s ≡ true → JumpsInside count i s
jump_is_inside count i (Jump offset) h = target_is_inside count i offset h
jump_is_inside count i (JumpEq left right offset) h = target_is_inside count i offset h
jump_is_inside count i (JumpLt left right offset) h = target_is_inside count i offset h
jump_is_inside count i s h = tt

-- the statements of a table name registers alone
pub table_registers : (stmts : List Stmt) (i : ℕ) (s : Stmt) → IsTable stmts → slice_get stmts i ≡ Some s → HasRegisters s
table_registers stmts i s h e = registers_are_there s (h.registers i s (slice_get_within stmts i s e) e)

-- the jumps of a table stay inside
pub table_jump : (stmts : List Stmt) (i : ℕ) (s : Stmt) → IsTable stmts → slice_get stmts i ≡ Some s → JumpsInside (length stmts) i s
table_jump stmts i s h e = jump_is_inside (length stmts) i s (h.jumps i s (slice_get_within stmts i s e) e)

next_of : (count i : ℕ) (s : Stmt) → (is_halt s ≡ true) ⊎ (i + 1 < count) → HasNext count i s
next_of count i (Jump offset) h = tt
next_of count i Halt h = tt
next_of count i s (inr h) = h
next_of count i s (inl h) = absurd cc

some_is : (P : Stmt → Type 0) (o : Option Stmt) (s : Stmt) → IsSomeAnd o P → o ≡ Some s → P s
some_is P o s h e = let at : IsSomeAnd (Some s) P = subst (λ p. IsSomeAnd p P) e h in at

last_or_not : (i n : ℕ) → i < n → (i ≡ n - 1) ⊎ (i + 1 < n)
last_or_not i n h = grind arith

-- a statement of a table that may go on to the next one is not the last
pub table_next : (stmts : List Stmt) (i : ℕ) (s : Stmt) → IsTable stmts → slice_get stmts i ≡ Some s → HasNext (length stmts) i s
table_next stmts i s h e =
    let within : i < length stmts = slice_get_within stmts i s e in
    next_of (length stmts) i s (elim (last_or_not i (length stmts) within) as (λ _. (is_halt s ≡ true) ⊎ (i + 1 < length stmts)) [
      | inl last ↦ inl (some_is (λ t. is_halt t ≡ true) (slice_get stmts (length stmts - 1)) s h.last (ap (slice_get stmts) (sym last) ∙ e))
      | inr more ↦ inr more
    ])

-- the statement that was read at i of the list that a table holds
pub statement_there : (held stmts : List Stmt) (n i : ℕ) (s : Stmt) → held ≡ stmts → n ≡ length stmts → i < n → s ≡ get_or held i s → slice_get stmts i ≡ Some s
statement_there held stmts n i s same count within there = slice_get_read stmts n i s count within (there ∙ ap (λ xs. get_or xs i s) same)

pub no_statement_there : (stmts : List Stmt) (n i : ℕ) → n ≡ length stmts → n ≤ i → ◌≡◌ {A = Option Stmt} None (slice_get stmts i)
no_statement_there stmts n i count past = sym (slice_get_past stmts i (omega (arith, count, past)))
