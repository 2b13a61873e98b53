-- A choice among several programs.
use Rattle.std.proofs.Common.{◌≡◌, ◌≢◌, ℕ, zero, suc, ◌+◌, ◌-◌, ◌*◌, ◌^◌, ◌<◌, ◌≤◌, List, [], ◌∷◌, take, drop, Some, refl, sym, ◌∙◌, subst, arith}
use Rattle.std.specs.Prelude.{slice_get}
use Rattle.std.proofs.Math.Nat.{pow-succ'}
use Rattle.sei_stmt.specs.declared.stmt.Stmt.{Stmt}
use Rattle.sei_stmt.specs.Runs.{Given, RunState, tick, write}
use Rattle.sei_stmt.specs.Programs.{Prog, Block, Seq, IfEq, IfLt, RepeatLt, Post, BeforeAll, Turns, Ends, halves}
use Rattle.sei_stmt.proofs.FrameLaws.{stmt_more, put_other, put_here, some_same}

get_taken : (n i : ℕ) (ps : List Prog) → i < n → slice_get (take n ps) i ≡ slice_get ps i
get_taken zero i ps lt = absurd (omega (arith, lt))
get_taken (suc n) i [] lt = refl
get_taken (suc n) zero (p ∷ ps) lt = refl
get_taken (suc n) (suc i) (p ∷ ps) lt = get_taken n i ps (omega (arith, lt))

get_dropped : (n i : ℕ) (ps : List Prog) → n ≤ i → slice_get (drop n ps) (i - n) ≡ slice_get ps i
get_dropped zero i ps le = let e : i - 0 ≡ i = omega arith in rw e refl
get_dropped (suc n) i [] le = refl
get_dropped (suc n) zero (p ∷ ps) le = absurd (omega (arith, le))
get_dropped (suc n) (suc i) (p ∷ ps) le = let e : suc i - suc n ≡ i - n = omega arith in rw e (get_dropped n i ps (omega (arith, le)))

module _ (e : Given) where
  all_more : (xs : List Stmt) (s : RunState) (Q R : Post) → ((t : RunState) → Q t → R t) → BeforeAll e xs s Q → BeforeAll e xs s R
  all_more [] s Q R f b = f s b
  all_more (x ∷ xs) s Q R f b = stmt_more e x s (λ t. BeforeAll e xs t Q) (λ t. BeforeAll e xs t R) (λ t bt. all_more xs t Q R f bt) b

  turns_more : (n l r : ℕ) (wb : RunState → Post → Type 0) → ((s : RunState) (Q R : Post) → ((t : RunState) → Q t → R t) → wb s Q → wb s R) → (s : RunState) (Q R : Post) → ((t : RunState) → Q t → R t) → Turns n l r wb s Q → Turns n l r wb s R
  turns_more zero l r wb body s Q R f b = (b.0, f (tick s) b.1)
  turns_more (suc n) l r wb body s Q R f b =
      (λ lt. body (tick s) (λ t. Turns n l r wb t Q) (λ t. Turns n l r wb t R) (λ t bt. turns_more n l r wb body t Q R f bt) (b.0 lt), λ le. f (tick s) (b.1 le))

  -- a weaker fact behind the program
  pub more : (p : Prog) (s : RunState) (Q R : Post) → ((t : RunState) → Q t → R t) → Ends e p s Q → Ends e p s R
  more (Block xs) s Q R f b = all_more xs s Q R f b
  more (Seq p q) s Q R f b = more p s (λ t. Ends e q t Q) (λ t. Ends e q t R) (λ t bt. more q t Q R f bt) b
  more (IfEq l r p q) s Q R f b = (λ h. more p (tick s) Q R f (b.0 h), λ h. more q (tick s) (λ t. Q (tick t)) (λ t. R (tick t)) (λ t bt. f (tick t) bt) (b.1 h))
  more (IfLt l r p q) s Q R f b = (λ h. more p (tick s) Q R f (b.0 h), λ h. more q (tick s) (λ t. Q (tick t)) (λ t. R (tick t)) (λ t bt. f (tick t) bt) (b.1 h))
  more (RepeatLt l r p) s Q R f b =
      (b.0, more p s (λ t. Turns b.0 l r (Ends e p) t Q) (λ t. Turns b.0 l r (Ends e p) t R) (λ t bt. turns_more b.0 l r (Ends e p) (λ t Q' R' g bt. more p t Q' R' g bt) t Q R f bt) b.1)

  -- the state in which the chosen program begins: all is the same but register t and the count of statements
  pub record Chosen (t cost : ℕ) (s u : RunState) : Type 0 where
    pub regs : (r : ℕ) → r ≢ t → u.regs r ≡ s.regs r
    pub words : u.words ≡ s.words
    pub out : u.out ≡ s.out
    pub emitted : u.emitted ≡ s.emitted
    pub bytes : u.bytes ≡ s.bytes
    pub changes : u.changes ≡ s.changes
    pub stores : u.stores ≡ s.stores
    pub floor : u.floor ≡ s.floor
    pub stage : u.stage ≡ s.stage
    pub steps : u.steps ≤ s.steps + cost

  -- a choice that begins in s, by a number that register t gets
  chosen_next : (t b c : ℕ) (s u : RunState) → Chosen t (2 * c) (tick (write s t b)) u → Chosen t (2 * suc c) s u
  chosen_next t b c s u h =
      record { regs = λ r ne. h.regs r ne ∙ put_other s.regs t b r ne; words = h.words; out = h.out; emitted = h.emitted; bytes = h.bytes; changes = h.changes; stores = h.stores; floor = h.floor; stage = h.stage; steps = omega (arith, h.steps) }

  -- The choice costs 2 * depth statements before the program. Q m allows m statements more after it
  pub halves_ends : (v t : ℕ) → v ≢ t → (depth lo i : ℕ) (ps : List Prog) (p : Prog) (s : RunState) (Q : ℕ → Post) → i < 2 ^ depth → slice_get ps i ≡ Some p → s.regs v ≡ lo + i →
      ((m : ℕ) (u : RunState) → Q m u → Q (suc m) u) → ((m : ℕ) (u : RunState) → Q m u → Q (suc m) (tick u)) →
      ((u : RunState) → Chosen t (2 * depth) s u → Ends e p u (Q 0)) → Ends e (halves depth v t lo ps) s (Q depth)
  halves_ends v t ne zero lo i [] p s Q lt at is spare late run = absurd (cc)
  halves_ends v t ne zero lo zero (q ∷ ps) p s Q lt at is spare late run =
      subst (λ z. Ends e z s (Q 0)) (sym (some_same q p at)) (run s (record { regs = λ r h. refl; words = refl; out = refl; emitted = refl; bytes = refl; changes = refl; stores = refl; floor = refl; stage = refl; steps = omega arith }))
  halves_ends v t ne zero lo (suc i) (q ∷ ps) p s Q lt at is spare late run = absurd (omega (arith, lt))
  halves_ends v t ne (suc d) lo i ps p s Q lt at is spare late run =
      let b = lo + 2 ^ d in
      let s1 = tick (write s t b) in
      let held : s1.regs v ≡ lo + i = put_other s.regs t b v ne ∙ is in
      let bound : s1.regs t ≡ b = put_here s.regs t b in
      let double : 2 ^ suc d ≡ 2 * 2 ^ d = pow-succ' 2 d in
      let go = λ (u : RunState) (c : Chosen t (2 * d) s1 u). run u (chosen_next t b d s u c) in (
        λ less. let within : i < 2 ^ d = omega (arith, less, held, bound) in
            more (halves d v t lo (take (2 ^ d) ps)) s1 (Q d) (Q (suc d)) (λ u h. spare d u h)
            (halves_ends v t ne d lo i (take (2 ^ d) ps) p s1 Q within (get_taken (2 ^ d) i ps within ∙ at) held spare late go),
        λ above. let from : 2 ^ d ≤ i = omega (arith, above, held, bound) in
            more (halves d v t b (drop (2 ^ d) ps)) s1 (Q d) (λ u. Q (suc d) (tick u)) (λ u h. late d u h)
            (halves_ends v t ne d b (i - 2 ^ d) (drop (2 ^ d) ps) p s1 Q (omega (arith, lt, double, from)) (get_dropped (2 ^ d) i ps from ∙ at) (held ∙ omega (arith, from)) spare late go),
      )
