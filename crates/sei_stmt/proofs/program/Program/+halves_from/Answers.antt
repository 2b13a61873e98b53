use Rattle.std.proofs.Common.{◌≡◌, ◌≢◌, ◌+◌, ◌-◌, ◌^◌, ℕ, zero, suc, [], ◌∷◌, List, map, take, drop, Result, IfOk, refl, subst, arith}
use Rattle.std.proofs.Math.Nat.{pow-succ'}
use Rattle.std.proofs.lemmas.List.{take-map, drop-map}
use Rattle.sei_stmt.specs.declared.program.Program.{Program}
use Rattle.sei_stmt.specs.declared.stmt.Stmt.TheVariants.{Const}
use Rattle.sei_stmt.specs.Programs.{Prog, Block, Seq, IfLt, halves}
use Rattle.sei_stmt.specs.Written.{prog_of}
use Rattle.sei_stmt.proofs.program.Program.+halves_from.Goals as goal

doubled : (n : ℕ) → n ≢ 0 → 2 ^ (n - 1) + 2 ^ (n - 1) ≡ 2 ^ n
doubled zero ne = absurd (ne refl)
doubled (suc d) ne = let e : suc d - 1 ≡ d = omega arith in rw e (omega (arith, pow-succ' 2 d))

halved : (n v t lo : ℕ) (ps : List Prog) → n ≢ 0 → halves n v t lo ps ≡ Seq (Block (Const t (lo + 2 ^ (n - 1)) ∷ [])) (IfLt v t (halves (n - 1) v t lo (take (2 ^ (n - 1)) ps)) (halves (n - 1) v t (lo + 2 ^ (n - 1)) (drop (2 ^ (n - 1)) ps)))
halved zero v t lo ps ne = absurd (ne refl)
halved (suc d) v t lo ps ne = let e : suc d - 1 ≡ d = omega arith in rw e refl

joined : (n v t lo half : ℕ) (ps low high : List Program) (a b : Prog) → n ≢ 0 → half ≡ 2 ^ (n - 1) → low ≡ take half ps → high ≡ drop half ps →
    a ≡ halves (n - 1) v t lo (map prog_of low) → b ≡ halves (n - 1) v t (lo + half) (map prog_of high) →
    Seq (Block (Const t (lo + half) ∷ [])) (IfLt v t a b) ≡ halves n v t lo (map prog_of ps)
joined n v t lo half ps low high a b ne is kept others is_a is_b = cc (halved n v t lo (map prog_of ps) ne, take-map prog_of half ps, drop-map prog_of half ps)

same_ok : {E : Type 0} (r : Result Program E) (x y : Prog) → x ≡ y → IfOk r (λ p. prog_of p ≡ x) → IfOk r (λ p. prog_of p ≡ y)
same_ok r x y e h = subst (λ z. IfOk r (λ p. prog_of p ≡ z)) e h

pub pow-half-requires : goal.pow-half-requires
pow-half-requires t c = omega (arith, doubled c.args.depth c.if-depth-eq0.false)

pub overflow_add-high : goal.overflow_add-high
overflow_add-high t c = omega (arith, doubled c.args.depth c.if-depth-eq0.false)

pub halves_from-requires : goal.halves_from-requires
halves_from-requires t c = (omega arith, omega (arith, doubled c.args.depth c.if-depth-eq0.false))

pub halves_from-requires-2 : goal.halves_from-requires-2
halves_from-requires-2 t c = (omega arith, omega (arith, doubled c.args.depth c.if-depth-eq0.false))

pub returns : goal.returns
returns t c =
    let e = joined c.args.depth c.args.v c.args.t c.args.low c.pow-half.result _ _ _ _ _ c.if-depth-eq0.false c.pow-half.ensures c.in_ok-later.ensures.kept c.in_ok-later.ensures.others c.in_ok-below.ensures c.in_ok-above.ensures in
    same_ok c.split_at.result _ _ e c.split_at.ensures
