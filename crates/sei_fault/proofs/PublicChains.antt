-- What holds of chains of steps.
use Rattle.std.proofs.Common.{◌≡◌, ℕ, zero, suc, ◌+◌, ◌≤◌, ap, subst, sym, refl, arith}
use Rattle.sei_fault.specs.Chain.{Chain}

-- what each step keeps, a chain keeps
pub chain_keeps : {X : Type 0} (Step : X → X → Type 0) (P : X → Type 0) (n : ℕ) (x z : X) → ((a b : X) → Step a b → P a → P b) → Chain Step n x z → P x → P z
chain_keeps Step P zero x z keeps e p = subst P (sym e) p
chain_keeps Step P (suc n) x z keeps (y, c, r) p = keeps y z r (chain_keeps Step P n x y keeps c p)

-- if each step is a step of another kind, a chain is a chain of those
pub chain_maps : {X Y : Type 0} (Step : X → X → Type 0) (Other : Y → Y → Type 0) (f : X → Y) (n : ℕ) (x z : X) → ((a b : X) → Step a b → Other (f a) (f b)) → Chain Step n x z → Chain Other n (f x) (f z)
chain_maps Step Other f zero x z maps e = ap f e
chain_maps Step Other f (suc n) x z maps (y, c, r) = (f y, chain_maps Step Other f n x y maps c, maps y z r)

-- one chain after another
pub chain_joins : {X : Type 0} (Step : X → X → Type 0) (n m : ℕ) (x y z : X) → Chain Step n x y → Chain Step m y z → Chain Step (n + m) x z
chain_joins Step n zero x y z c e =
    let same : n ≡ n + 0 = omega arith in
    subst (λ k. Chain Step k x z) same (subst (λ w. Chain Step n x w) (sym e) c)
chain_joins Step n (suc m) x y z c (w, d, r) =
    let same : suc (n + m) ≡ n + suc m = omega arith in
    subst (λ k. Chain Step k x z) same (w, chain_joins Step n m x y w c d, r)

-- another beginning, from which each first step goes too
pub chain_begins : {X : Type 0} (Step : X → X → Type 0) (n : ℕ) (v w z : X) → ((y : X) → Step v y → Step w y) → Chain Step (suc n) v z → Chain Step (suc n) w z
chain_begins {X} Step zero v w z goes (y, e, r) = (w, refl, goes z (subst (λ (k : X). Step k z) e r))
chain_begins Step (suc n) v w z goes (y, c, r) = (y, chain_begins Step n v w y goes c, r)

-- what goes from step to step, goes over a chain
pub chain_relates : {X : Type 0} (Step Relation : X → X → Type 0) (n : ℕ) (x z : X) → Relation x x → ((a b : X) → Step a b → Relation x a → Relation x b) → Chain Step n x z → Relation x z
chain_relates Step Relation n x z here on c = chain_keeps Step (Relation x) n x z on c here

-- what a step keeps as long as no more than so many strikes fell, a chain keeps
pub chain_isolates : {X : Type 0} (Step : X → X → Type 0) (Facts : X → Type 0) (struck : X → ℕ) (most n : ℕ) (x z : X) →
    ((a b : X) → Step a b → struck a ≤ struck b) → ((a b : X) → Step a b → struck b ≤ most → Facts a → Facts b) → Chain Step n x z → struck z ≤ most → Facts x → Facts z
chain_isolates Step Facts struck most zero x z rises keeps e h f = subst Facts (sym e) f
chain_isolates Step Facts struck most (suc n) x z rises keeps (y, c, r) h f =
    keeps y z r h (chain_isolates Step Facts struck most n x y rises keeps c (omega (arith, rises y z r, h)) f)
