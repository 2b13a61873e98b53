-- What may be used of programs: their table is a table, a weaker fact after one, and a choice by halves.
use Rattle.std.proofs.Common.{◌≡◌, ℕ, zero, suc, ◌+◌, ◌-◌, ◌<◌, true, List, [], ◌∷◌, length, arith, length-append}
use Rattle.std.specs.Prelude.{Bool, ◌&&◌, ℤ, pos, negsuc}
use Rattle.std.proofs.lemmas.Bool.{and_parts, lt-ltb, le-leb}
use Rattle.sei_stmt.specs.declared.stmt.Stmt.{Stmt}
use Rattle.sei_stmt.specs.declared.stmt.Stmt.TheVariants.{Const, Move, Add, Sub, Input, Load, Store, Emit, Jump, JumpEq, JumpLt, Now, Alloc, Parse, Render, Halt}
use Rattle.sei_stmt.specs.Table.{is_register, registers_fit, registers_at, is_inside, jump_fits, IsTable}
use Rattle.sei_stmt.specs.Programs.{Prog, Block, Seq, IfEq, IfLt, RepeatLt, hop, choice, looped, code, flatten, table_of, is_plain, is_straight}
use Rattle.sei_stmt.proofs.FitLaws.{FitFrom, fit_append, fit_by_statement, halted_is_table}
pub use Rattle.sei_stmt.proofs.SwitchLaws.{Chosen, more, halves_ends}
pub use Rattle.sei_stmt.proofs.TableLaws.{table_registers}

-- a statement at this index fits among so many
abbrev fits : ℕ → ℕ → Stmt → Bool
fits count i s = jump_fits count i s && registers_fit s

parted : (count a : ℕ) (xs : List Stmt) → FitFrom (fits count) a xs → FitFrom registers_at a xs × FitFrom (jump_fits count) a xs
parted count a [] h = (tt, tt)
parted count a (s ∷ xs) h =
    let y = and_parts (jump_fits count a s) (registers_fit s) h.0 in
    let z = parted count (a + 1) xs h.1 in
    ((y.1, z.0), (y.0, z.1))

plain_fits : (count i : ℕ) (s : Stmt) → is_plain s ≡ true → fits count i s ≡ true
plain_fits count i (Const to n) h = h
plain_fits count i (Move to from) h = h
plain_fits count i (Add to l r) h = h
plain_fits count i (Sub to l r) h = h
plain_fits count i (Input to index) h = h
plain_fits count i (Load to address) h = h
plain_fits count i (Store address from) h = h
plain_fits count i (Emit from) h = h
plain_fits count i (Jump o) h = absurd (cc)
plain_fits count i (JumpEq l r o) h = absurd (cc)
plain_fits count i (JumpLt l r o) h = absurd (cc)
plain_fits count i (Now to) h = h
plain_fits count i (Alloc to moment) h = h
plain_fits count i Parse h = h
plain_fits count i Render h = h
plain_fits count i Halt h = absurd (cc)

hop_fits : (k a count : ℕ) → a + length (hop k) + k < count → FitFrom (fits count) a (hop k)
hop_fits zero a count lt = tt
hop_fits (suc k) a count lt = (simp (lt-ltb (a + 1 + suc k) count (omega (arith, lt))), tt)

-- a jump over a list that stands there, and back over one
over_fits : (a n count : ℕ) → a + 1 + n < count → is_inside count a (pos n) ≡ true
over_fits a n count lt = lt-ltb (a + 1 + n) count lt

back_fits : (a n count : ℕ) → a + n < count → is_inside count (a + n) (negsuc n) ≡ true
back_fits a n count lt = simp (le-leb n (a + n) (omega arith), lt-ltb (a + n - n) count (omega (arith, lt)))

choice_fits : (test : ℤ → Stmt) (ya na : List Stmt) (a k count : ℕ) → a + length (choice test ya na) + k < count → fits count a (test (pos (length na))) ≡ true →
    (a + 1 + length na + (length ya + k) < count → FitFrom (fits count) (a + 1) na) → (a + 1 + length na + length ya + k < count → FitFrom (fits count) (a + 1 + length na) ya) → FitFrom (fits count) a (choice test ya na)
choice_fits test ya na a k count lt h second first =
    (h, fit_append (fits count) (a + 1) na ya (second (omega (arith, lt, length-append na ya))) (first (omega (arith, lt, length-append na ya))))

-- the statements of a program fit wherever they stand, if those to which they jump do
code_fits : (p : Prog) (k a count : ℕ) → is_straight p ≡ true → a + length (code p k) + k < count → FitFrom (fits count) a (code p k)
code_fits (Block xs) k a count h lt =
    fit_append (fits count) a xs (hop k) (fit_by_statement (fits count) is_plain a xs (plain_fits count) h) (hop_fits k (a + length xs) count (omega (arith, lt, length-append xs (hop k))))
code_fits (Seq p q) k a count h lt =
    let y = and_parts (is_straight p) (is_straight q) h in
    let len = length-append (code p 0) (code q k) in
    fit_append (fits count) a (code p 0) (code q k) (code_fits p 0 a count y.0 (omega (arith, lt, len))) (code_fits q k (a + length (code p 0)) count y.1 (omega (arith, lt, len)))
code_fits (IfEq l r p q) k a count h lt =
    let y = and_parts (is_register l && is_register r) (is_straight p && is_straight q) h in
    let z = and_parts (is_straight p) (is_straight q) y.1 in
    let ya = code p k in
    let na = code q (length ya + k) in
    let at : is_inside count a (pos (length na)) ≡ true = over_fits a (length na) count (omega (arith, lt, length-append na ya)) in
    choice_fits (JumpEq l r) ya na a k count lt (simp (at, y.0)) (λ lt. code_fits q (length ya + k) (a + 1) count z.1 lt) (λ lt. code_fits p k (a + 1 + length na) count z.0 lt)
code_fits (IfLt l r p q) k a count h lt =
    let y = and_parts (is_register l && is_register r) (is_straight p && is_straight q) h in
    let z = and_parts (is_straight p) (is_straight q) y.1 in
    let ya = code p k in
    let na = code q (length ya + k) in
    let at : is_inside count a (pos (length na)) ≡ true = over_fits a (length na) count (omega (arith, lt, length-append na ya)) in
    choice_fits (JumpLt l r) ya na a k count lt (simp (at, y.0)) (λ lt. code_fits q (length ya + k) (a + 1) count z.1 lt) (λ lt. code_fits p k (a + 1 + length na) count z.0 lt)
code_fits (RepeatLt l r b) k a count h lt =
    let y = and_parts (is_register l && is_register r) (is_straight b) h in
    let body = code b 0 in
    let test = JumpLt l r (negsuc (length body)) in
    let len = length-append body (test ∷ []) in
    let all = length-append (looped l r body) (hop k) in
    let within : a + length body < count = omega (arith, lt, len, all) in
    let back : is_inside count (a + length body) (negsuc (length body)) ≡ true = back_fits a (length body) count (omega (arith, within)) in
    fit_append (fits count) a (looped l r body) (hop k)
    (fit_append (fits count) a body (test ∷ []) (code_fits b 0 a count y.1 (omega (arith, within))) (simp (back, y.0), tt))
    (hop_fits k (a + length (looped l r body)) count (omega (arith, lt, all)))

-- the table of a program is a table
pub program_is_table : (p : Prog) → is_straight p ≡ true → IsTable (table_of p)
program_is_table p h =
    let stmts = flatten p in
    let y = parted (length stmts + 1) 0 stmts (code_fits p 0 0 (length stmts + 1) h (omega arith)) in
    halted_is_table stmts y.0 y.1
