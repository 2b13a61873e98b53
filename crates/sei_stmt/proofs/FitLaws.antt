-- How a list that is put together from parts is shown to be a table.
use Rattle.std.proofs.Common.{◌≡◌, ℕ, zero, suc, ◌+◌, ◌-◌, Bool, true, false, List, [], ◌∷◌, ◌++◌, length, Some, refl, sym, ◌∙◌, ap, subst, arith, length-append}
use Rattle.std.specs.Prelude.{slice_get, IsSomeAnd, ◌&&◌}
use Rattle.std.specs.List.{list_all}
use Rattle.sei_stmt.specs.declared.stmt.Stmt.{Stmt}
use Rattle.sei_stmt.specs.declared.stmt.Stmt.TheVariants.{Halt}
use Rattle.sei_stmt.specs.Table.{registers_fit, registers_at, jump_fits, is_halt, AllFit, IsTable}

-- each statement of a part that begins at index a passes a test of its index and itself
abbrev pub FitFrom : (ℕ → Stmt → Bool) → ℕ → List Stmt → Type 0
FitFrom test a [] = Unit {0}
FitFrom test a (s ∷ rest) = (test a s ≡ true) × FitFrom test (a + 1) rest

pub fit_append : (test : ℕ → Stmt → Bool) (a : ℕ) (xs ys : List Stmt) → FitFrom test a xs → FitFrom test (a + length xs) ys → FitFrom test a (xs ++ ys)
fit_append test a [] ys h k = let at : a + length {A = Stmt} [] ≡ a = omega arith in subst (λ n. FitFrom test n ys) at k
fit_append test a (s ∷ rest) ys h k =
    let at : a + length (s ∷ rest) ≡ a + 1 + length rest = omega arith in
    (h.0, fit_append test (a + 1) rest ys h.1 (subst (λ n. FitFrom test n ys) at k))

-- a test of the statement alone, which computes on a literal list
pub fit_by_statement : (test : ℕ → Stmt → Bool) (fits : Stmt → Bool) (a : ℕ) (xs : List Stmt) → ((i : ℕ) (s : Stmt) → fits s ≡ true → test i s ≡ true) → list_all fits xs ≡ true → FitFrom test a xs
fit_by_statement test fits a [] so h = tt
fit_by_statement test fits a (s ∷ rest) so h = (so a s (both (fits s) (list_all fits rest) h).0, fit_by_statement test fits (a + 1) rest so (both (fits s) (list_all fits rest) h).1)
  where
    both : (b c : Bool) → (b && c) ≡ true → (b ≡ true) × (c ≡ true)
    both true c h = (refl, h)
    both false c h = absurd cc

pub registers_by_statement : (a : ℕ) (xs : List Stmt) → list_all registers_fit xs ≡ true → FitFrom registers_at a xs
registers_by_statement a xs h = fit_by_statement registers_at registers_fit a xs (λ _ _ fits. fits) h

fit_at : (test : ℕ → Stmt → Bool) (a i : ℕ) (xs : List Stmt) (s : Stmt) → FitFrom test a xs → slice_get xs i ≡ Some s → test (a + i) s ≡ true
fit_at test a i [] s h e = absurd cc
fit_at test a zero (x ∷ rest) s h e =
    let same : x ≡ s = cc in
    let at : a ≡ a + 0 = omega arith in
    subst (λ n. test n s ≡ true) at (subst (λ y. test a y ≡ true) same h.0)
fit_at test a (suc i) (x ∷ rest) s h e =
    let at : a + 1 + i ≡ a + suc i = omega arith in
    subst (λ n. test n s ≡ true) at (fit_at test (a + 1) i rest s h.1 e)

-- the whole begins at index 0
pub all_fit : (test : ℕ → Stmt → Bool) (stmts : List Stmt) → FitFrom test 0 stmts → AllFit test stmts
all_fit test stmts h i s within e = let at : 0 + i ≡ i = omega arith in subst (λ n. test n s ≡ true) at (fit_at test 0 i stmts s h e)

get_last : (xs : List Stmt) (s : Stmt) → slice_get (xs ++ s ∷ []) (length xs) ≡ Some s
get_last [] s = refl
get_last (x ∷ rest) s = get_last rest s

-- what ends in a Halt, and fits, is a table
pub halted_is_table : (xs : List Stmt) → FitFrom registers_at 0 xs → FitFrom (jump_fits (length xs + 1)) 0 xs → IsTable (xs ++ Halt ∷ [])
halted_is_table xs registers jumps =
    let count : length (xs ++ Halt ∷ []) ≡ length xs + 1 = length-append xs (Halt ∷ []) in
    let last : length xs ≡ length (xs ++ Halt ∷ []) - 1 = omega (arith, count) in
    record {
      registers = all_fit registers_at (xs ++ Halt ∷ []) (fit_append registers_at 0 xs (Halt ∷ []) registers (refl, tt));
      jumps = subst (λ n. AllFit (jump_fits n) (xs ++ Halt ∷ [])) (sym count) (all_fit (jump_fits (length xs + 1)) (xs ++ Halt ∷ []) (fit_append (jump_fits (length xs + 1)) 0 xs (Halt ∷ []) jumps (refl, tt)));
      last = subst (λ o. IsSomeAnd o (λ s. is_halt s ≡ true)) (sym (ap (slice_get (xs ++ Halt ∷ [])) (sym last) ∙ get_last xs Halt)) refl;
    }
