-- The table of a program does what the program does.
use Rattle.std.proofs.Common.{◌≡◌, ◌≢◌, ℕ, zero, suc, ◌+◌, ◌-◌, ◌<◌, ◌≤◌, List, [], ◌∷◌, ◌++◌, length, Some, refl, ap, ◌∙◌, subst, ◌⊎◌, inl, inr, arith, append_assoc, length-append}
use Rattle.std.specs.Prelude.{Bool, true, false, nat_eq, nat_lt, slice_get, slice_index, if◌then◌else◌, ℤ, pos, negsuc}
use Rattle.std.proofs.Math.Seq.{get_or-append_seam}
use Rattle.std.proofs.lemmas.Bool.{cases_lt, cases_eq, eq-eqb, ne_eqb, lt-ltb, le-ltb, le-leb}
use Rattle.std.proofs.lemmas.Option.{slice_get-get_or}
use Rattle.sei_fault.specs.declared.cause.AbortCause.TheVariants.{LogFull, OutFull}
use Rattle.sei_stmt.specs.declared.stmt.Stmt.{Stmt}
use Rattle.sei_stmt.specs.declared.stmt.Stmt.TheVariants.{Const, Move, Add, Sub, Input, Load, Store, Emit, Jump, JumpEq, JumpLt, Now, Alloc, Parse, Render, Halt}
use Rattle.sei_stmt.specs.Order.{unparsed, parsed, timed, finished, is_parsed, is_open, may_render}
use Rattle.sei_stmt.specs.Table.{target}
use Rattle.sei_stmt.specs.Runs.{Given, RunState, Outcome, Next, Ended, Aborted, Unfit, start, Counted, tick, write, store, emit, parse, take_time, take_slot, render, with_word, with_bytes, if_logged, in_stage, act, exec}
use Rattle.sei_stmt.specs.Programs.{Prog, Block, Seq, IfEq, IfLt, RepeatLt, hop, choice, looped, code, flatten, table_of, Post, Before, BeforeAll, Turns, Ends, at_steps, Halts}
use Rattle.sei_stmt.specs.Touch.{anything, Rises}
use Rattle.sei_stmt.proofs.FrameLaws.{counted_store, counted_emit, any_program, then_so, rising}

-- the statements stand in the table at this place
abbrev pub HasAt : List Stmt → ℕ → List Stmt → Type 0
HasAt table pc [] = Unit {0}
HasAt table pc (x ∷ xs) = (slice_get table pc ≡ Some x) × HasAt table (pc + 1) xs

pub has_front : (table : List Stmt) (pc : ℕ) (a b : List Stmt) → HasAt table pc (a ++ b) → HasAt table pc a
has_front table pc [] b h = tt
has_front table pc (i ∷ a) b h = (h.0, has_front table (pc + 1) a b h.1)

pub has_back : (table : List Stmt) (pc : ℕ) (a b : List Stmt) → HasAt table pc (a ++ b) → HasAt table (pc + length a) b
has_back table pc [] b h = let e : pc ≡ pc + 0 = omega arith in subst (λ n. HasAt table n b) e h
has_back table pc (i ∷ a) b h =
    let e : pc + 1 + length a ≡ pc + length (i ∷ a) = omega arith in
    subst (λ n. HasAt table n b) e (has_back table (pc + 1) a b h.1)

pub has_all : (is pre : List Stmt) → HasAt (pre ++ is) (length pre) is
has_all [] pre = tt
has_all (i ∷ is) pre =
    let within : length pre < length (pre ++ i ∷ is) = omega (arith, length-append pre (i ∷ is)) in
    let here = slice_get-get_or (pre ++ i ∷ is) (length pre) i within ∙ ap Some (get_or-append_seam pre i is i) in
    let n : length (pre ++ i ∷ []) ≡ length pre + 1 = omega (arith, length-append pre (i ∷ [])) in
    let rest = has_all is (pre ++ i ∷ []) in
    let rest' = subst (λ l. HasAt l (length (pre ++ i ∷ [])) is) (append_assoc pre (i ∷ []) is) rest in
    (here, subst (λ m. HasAt (pre ++ i ∷ is) m is) n rest')

-- Each test goes on where its premise holds.

in_place : (right : Bool) (go : Outcome) → right ≡ true → in_stage right go ≡ go
in_place right go h = ap (λ b. in_stage b go) h

with_room : (old v : ℕ) (room : Bool) (go : Outcome) → room ≡ true → if_logged old v room go ≡ go
with_room old v room go h = ap (λ b. if_logged old v b go) h ∙ either (nat_eq old v)
  where
    either : (b : Bool) → (if b then go else if true then go else Aborted LogFull) ≡ go
    either true = refl
    either false = refl

up : (n m : ℕ) → n ≤ m → suc n ≤ suc m
up n m le = omega arith

-- the statement that a jump to a program's exit may cost
spare : ℕ → ℕ
spare zero = 0
spare (suc k) = 1

spare_one : (k : ℕ) → spare k ≤ 1
unfolding spare
spare_one zero = omega arith
spare_one (suc k) = omega arith

module _ (e : Given) (table : List Stmt) where
  -- the run comes from one place and state to another, by as many statements as are counted
  pub record Leads (pc : ℕ) (s : RunState) (pc' : ℕ) (s' : RunState) : Type 0 where
    pub by : (k : ℕ) → (j : ℕ) × (j + s.steps ≡ k + s'.steps) × (exec e table j pc s ≡ exec e table k pc' s')

  -- The run comes to this place in a state that meets Q but for its count of statements, or is not honest. That
  -- count is at most the one of which Q speaks, and so many more
  pub record Comes (pc : ℕ) (s : RunState) (pc' : ℕ) (Q : Post) (more : ℕ) : Type 0 where
    pub by : ((t : RunState) × (m : ℕ) × (m ≤ t.steps + more) × Q t × Counted t × Leads pc s pc' (at_steps t m)) ⊎ ((j : ℕ) × (u : RunState) × (u.steps < e.budget) × (exec e table j pc s ≡ Unfit u))

  -- what comes after each state that meets R, whatever its count
  Onward : (pc1 pc2 : ℕ) (R Q : Post) (more : ℕ) → Type 0
  Onward pc1 pc2 R Q more = (t : RunState) (m : ℕ) → m ≤ t.steps → R t → Counted t → Comes pc1 (at_steps t m) pc2 Q more

  -- one statement, and then the rest
  first : (pc pc1 pc2 : ℕ) (s s1 s2 : RunState) (x : Stmt) → slice_get table pc ≡ Some x → ((next : Next) → act e (Some x) next pc s ≡ next pc1 s1) → s1.steps ≡ suc s.steps → Leads pc1 s1 pc2 s2 → Leads pc s pc2 s2
  first pc pc1 pc2 s s1 s2 x at is more l =
      record { by = λ k. let a = l.by k in (suc a.0, omega (arith, more, a.1), ap (λ o. act e o (exec e table a.0) pc s) at ∙ is (exec e table a.0) ∙ a.2) }

  first_comes : (pc pc1 pc2 : ℕ) (s s1 : RunState) (x : Stmt) (Q : Post) (x' : ℕ) → slice_get table pc ≡ Some x → ((next : Next) → act e (Some x) next pc s ≡ next pc1 s1) → s1.steps ≡ suc s.steps → Comes pc1 s1 pc2 Q x' → Comes pc s pc2 Q x'
  first_comes pc pc1 pc2 s s1 x Q x' at is more c =
      record {
        by = elim c.by [
          | inl r ↦ inl (r.0, r.1, r.2, r.3, r.4, first pc pc1 pc2 s s1 (at_steps r.0 r.1) x at is more r.5)
          | inr u ↦ inr (suc u.0, u.1, u.2, ap (λ o. act e o (exec e table u.0) pc s) at ∙ is (exec e table u.0) ∙ u.3)
        ];
      }

  on : (pc pc1 pc2 : ℕ) (s : RunState) (Q R : Post) (more : ℕ) → Comes pc s pc1 Q 0 → Onward pc1 pc2 Q R more → Comes pc s pc2 R more
  unfolding Onward
  on pc pc1 pc2 s Q R more c d =
      record {
        by = elim c.by [
          | inl r ↦ elim (d r.0 r.1 (omega (arith, r.2)) r.3 r.4).by [
            | inl r2 ↦ inl (r2.0, r2.1, r2.2, r2.3, r2.4, record { by = λ k. let b = r2.5.by k in let a = r.5.by b.0 in (a.0, omega (arith, a.1, b.1), a.2 ∙ b.2) })
            | inr u ↦ (let a = r.5.by u.0 in inr (a.0, u.1, u.2, a.2 ∙ u.3))
          ]
          | inr u ↦ inr u
        ];
      }

  -- the end under another name
  ends_at : (pc pc1 pc2 : ℕ) (s : RunState) (Q : Post) (more : ℕ) → pc1 ≡ pc2 → Comes pc s pc1 Q more → Comes pc s pc2 Q more
  ends_at pc pc1 pc2 s Q more e c = subst (λ p. Comes pc s p Q more) e c

  -- the start under another name
  starts_at : (pc pc1 pc2 : ℕ) (s : RunState) (Q : Post) (more : ℕ) → pc1 ≡ pc → Comes pc1 s pc2 Q more → Comes pc s pc2 Q more
  starts_at pc pc1 pc2 s Q more e c = subst (λ p. Comes p s pc2 Q more) e c

  -- the count of a jump that may not be there
  paid : (pc pc2 : ℕ) (s : RunState) (Q : Post) (more more' : ℕ) → more ≤ 1 → Comes pc s pc2 (λ t. Q (tick t)) more → Comes pc s pc2 Q more'
  paid pc pc2 s Q more more' le c =
      record {
        by = elim c.by [
          | inl r ↦ inl (tick r.0, r.1, omega (arith, r.2, le), r.3, r.4, r.5)
          | inr u ↦ inr u
        ];
      }

  now : (pc : ℕ) (s : RunState) (n : ℕ) (Q : Post) (more : ℕ) → n ≤ s.steps + more → Q s → Counted s → Comes pc (at_steps s n) pc Q more
  now pc s n Q more le q c = record { by = inl (s, n, le, q, c, record { by = λ k. (k, refl, refl) }) }

  -- one statement that leads to s1
  goes : (x : Stmt) (pc pc2 n : ℕ) (s s1 : RunState) (Q R : Post) → n ≤ s.steps → s1.steps ≡ suc s.steps → slice_get table pc ≡ Some x →
      ((next : Next) → act e (Some x) next pc (at_steps s n) ≡ next (pc + 1) (at_steps s1 (suc n))) → R s1 → Counted s1 → Onward (pc + 1) pc2 R Q 0 → Comes pc (at_steps s n) pc2 Q 0
  unfolding Onward
  goes x pc pc2 n s s1 Q R le more at is b c r = first_comes pc (pc + 1) pc2 (at_steps s n) (at_steps s1 (suc n)) x Q 0 at is refl (r s1 (suc n) (omega (arith, le, more)) b c)

  one : (x : Stmt) (pc pc2 n : ℕ) (s : RunState) (Q R : Post) → n ≤ s.steps → Counted s → slice_get table pc ≡ Some x → Before e x s R → Onward (pc + 1) pc2 R Q 0 → Comes pc (at_steps s n) pc2 Q 0
  one (Const to v) pc pc2 n s Q R le c at b r = goes _ pc pc2 n s (write s to v) Q R le refl at (λ next. refl) b c r
  one (Move to from) pc pc2 n s Q R le c at b r = goes _ pc pc2 n s (write s to (s.regs from)) Q R le refl at (λ next. refl) b c r
  one (Add to l r') pc pc2 n s Q R le c at b r = goes _ pc pc2 n s (write s to b.0) Q R le refl at (λ next. ap (λ v. next (pc + 1) (at_steps (write s to v) (suc n))) b.1) b.2 c r
  one (Sub to l r') pc pc2 n s Q R le c at b r = goes _ pc pc2 n s (write s to b.0) Q R le refl at (λ next. ap (λ v. next (pc + 1) (at_steps (write s to v) (suc n))) b.1) b.2 c r
  one (Input to i) pc pc2 n s Q R le c at b r =
      goes _ pc pc2 n s (write s to b.1) Q R le refl at
      (λ next. in_place (is_parsed s.stage) _ b.0 ∙ ap (λ o. with_word o (s.regs i) (λ v. next (pc + 1) (at_steps (write s to v) (suc n)))) b.2) b.3 c r
  one (Load to a) pc pc2 n s Q R le c at b r =
      goes _ pc pc2 n s (write s to b.0) Q R le refl at (λ next. ap (λ o. with_word o (s.regs a) (λ v. next (pc + 1) (at_steps (write s to v) (suc n)))) b.1) b.2 c r
  one (Store a from) pc pc2 n s Q R le c at b r =
      let old = slice_index s.words (s.regs a) in
      let s1 = store s (s.regs a) (s.regs from) in
      let room = nat_lt (length s.changes) e.log_room in
      let has : room ≡ true = lt-ltb (length s.changes) e.log_room (omega (arith, c.1, b.2)) in
      goes _ pc pc2 n s s1 Q R le refl at
      (λ next. ap (λ o. with_word o (s.regs a) (λ w. if_logged w (s.regs from) room (next (pc + 1) (at_steps s1 (suc n))))) (slice_get-get_or s.words (s.regs a) 0 b.0) ∙ with_room old (s.regs from) room (next (pc + 1) (at_steps s1 (suc n))) has)
      b.3 (counted_store s (s.regs a) (s.regs from) c) r
  one (Emit from) pc pc2 n s Q R le c at b r =
      let s1 = emit s (s.regs from) in
      let room : nat_lt (length s.out) e.out_room ≡ true = lt-ltb (length s.out) e.out_room (omega (arith, c.0, b.1)) in
      goes _ pc pc2 n s s1 Q R le refl at
      (λ next. in_place (is_open s.stage) _ b.0 ∙ ap (λ o. if o then next (pc + 1) (at_steps s1 (suc n)) else Aborted OutFull) room)
      b.2 (counted_emit s (s.regs from) c) r
  one (Jump o) pc pc2 n s Q R le c at b r = absurd b
  one (JumpEq l r' o) pc pc2 n s Q R le c at b r = absurd b
  one (JumpLt l r' o) pc pc2 n s Q R le c at b r = absurd b
  one (Now to) pc pc2 n s Q R le c at b r =
      goes _ pc pc2 n s (take_time s to e.now) Q R le refl at (λ next. in_place (nat_eq s.stage parsed) _ (eq-eqb s.stage parsed b.0)) b.1 c r
  one (Alloc to m) pc pc2 n s Q R le c at b r = by_fit (e.is_fit s.words (s.regs m) (e.slot s.words (s.regs m))) refl
    where
      placed : (go : Outcome) → in_stage (nat_eq s.stage timed) go ≡ go
      placed go = in_place (nat_eq s.stage timed) go (eq-eqb s.stage timed b.0)

      by_fit : (o : Bool) → e.is_fit s.words (s.regs m) (e.slot s.words (s.regs m)) ≡ o → Comes pc (at_steps s n) pc2 Q 0
      by_fit true fit =
          let s1 = take_slot s to (e.slot s.words (s.regs m)) in
          goes (Alloc to m) pc pc2 n s s1 Q R le refl at (λ next. placed _ ∙ ap (λ o. if o then next (pc + 1) (at_steps s1 (suc n)) else Unfit (at_steps s n)) fit) (b.2 fit) c r
      by_fit false fit =
          let go = exec e table 0 (pc + 1) (at_steps (take_slot s to (e.slot s.words (s.regs m))) (suc n)) in
          record { by = inr (1, at_steps s n, omega (arith, b.1, le), ap (λ o. act e o (exec e table 0) pc (at_steps s n)) at ∙ placed _ ∙ ap (λ o. if o then go else Unfit (at_steps s n)) fit) }
  one Parse pc pc2 n s Q R le c at b r =
      goes _ pc pc2 n s (parse s) Q R le refl at (λ next. in_place (nat_eq s.stage unparsed) _ (eq-eqb s.stage unparsed b.0)) b.1 c r
  one Render pc pc2 n s Q R le c at b r =
      goes _ pc pc2 n s (render s b.1) Q R le refl at
      (λ next. in_place (may_render s.stage) _ b.0
      ∙ ap (λ o. with_bytes o e.byte_room (λ bytes. next (pc + 1) (at_steps (render s bytes) (suc n)))) b.2
      ∙ ap (λ o. if o then next (pc + 1) (at_steps (render s b.1) (suc n)) else Aborted OutFull) (le-leb (length b.1) e.byte_room b.3))
      b.4 c r
  one Halt pc pc2 n s Q R le c at b r = absurd b

  block_runs : (xs : List Stmt) (pc n : ℕ) (s : RunState) (Q : Post) → n ≤ s.steps → Counted s → HasAt table pc xs → BeforeAll e xs s Q → Comes pc (at_steps s n) (pc + length xs) Q 0
  unfolding Onward
  block_runs [] pc n s Q le c has b = let e : pc ≡ pc + 0 = omega arith in ends_at pc pc (pc + 0) (at_steps s n) Q 0 e (now pc s n Q 0 (omega arith) b c)
  block_runs (x ∷ xs) pc n s Q le c has b =
      let len : pc + 1 + length xs ≡ pc + length (x ∷ xs) = omega arith in
      ends_at pc _ _ (at_steps s n) Q 0 len (one x pc (pc + 1 + length xs) n s Q (λ t. BeforeAll e xs t Q) le c has.0 b (λ t m le' h ct. block_runs xs (pc + 1) m t Q le' ct has.1 h))

  -- the jump to the exit, if there is one
  hop_runs : (k pc n : ℕ) (s : RunState) (Q : Post) → n ≤ s.steps → Q s → Counted s → HasAt table pc (hop k) → Comes pc (at_steps s n) (pc + length (hop k) + k) Q (spare k)
  unfolding spare
  hop_runs zero pc n s Q le q c has = let at : pc ≡ pc + 0 + 0 = omega arith in ends_at pc pc _ (at_steps s n) Q 0 at (now pc s n Q 0 (omega arith) q c)
  hop_runs (suc k) pc n s Q le q c has =
      let at : pc + 1 + suc k ≡ pc + 1 + suc k = refl in
      first_comes pc (pc + 1 + suc k) _ (at_steps s n) (at_steps s (suc n)) (Jump (pos (suc k))) Q 1 has.0 (λ next. refl) refl (now (pc + 1 + suc k) s (suc n) Q 1 (omega (arith, le)) q c)

  -- a part, and then the jump to the exit
  then_hop : (xs : List Stmt) (k pc n : ℕ) (s : RunState) (Q : Post) → HasAt table pc (xs ++ hop k) → Comes pc (at_steps s n) (pc + length xs) Q 0 → Comes pc (at_steps s n) (pc + length (xs ++ hop k) + k) Q (spare k)
  unfolding Onward
  then_hop xs k pc n s Q has c =
      let len : pc + length xs + length (hop k) + k ≡ pc + length (xs ++ hop k) + k = omega (arith, length-append xs (hop k)) in
      ends_at pc _ _ (at_steps s n) Q (spare k) len (on pc (pc + length xs) _ (at_steps s n) Q Q (spare k) c (λ t m le q ct. hop_runs k (pc + length xs) m t Q le q ct (has_back table pc xs (hop k) has)))

  -- both sides of a choice
  choice_runs : (ya na : List Stmt) (test : ℤ → Stmt) (Y N : Type 0) (k pc n : ℕ) (s : RunState) (Q : Post) →
      HasAt table pc (choice test ya na) →
      ((Y × ((next : Next) → act e (Some (test (pos (length na)))) next pc (at_steps s n) ≡ next (pc + 1 + length na) (at_steps s (suc n)))) ⊎ (N × ((next : Next) → act e (Some (test (pos (length na)))) next pc (at_steps s n) ≡ next (pc + 1) (at_steps s (suc n))))) →
      (Y → Comes (pc + 1 + length na) (at_steps s (suc n)) (pc + 1 + length na + length ya + k) Q (spare k)) →
      (N → Comes (pc + 1) (at_steps s (suc n)) (pc + 1 + length na + (length ya + k)) (λ t. Q (tick t)) (spare (length ya + k))) →
      Comes pc (at_steps s n) (pc + length (choice test ya na) + k) Q (spare k)
  choice_runs ya na test Y N k pc n s Q has which ra rb =
      let len : pc + 1 + length na + length ya + k ≡ pc + length (choice test ya na) + k = omega (arith, length-append na ya) in
      let over : pc + 1 + length na + (length ya + k) ≡ pc + length (choice test ya na) + k = omega (arith, length-append na ya) in
      elim which [
        | inl y ↦ first_comes pc (pc + 1 + length na) _ (at_steps s n) (at_steps s (suc n)) (test (pos (length na))) Q (spare k) has.0 y.1 refl (ends_at _ _ _ (at_steps s (suc n)) Q (spare k) len (ra y.0))
        | inr f ↦ first_comes pc (pc + 1) _ (at_steps s n) (at_steps s (suc n)) (test (pos (length na))) Q (spare k) has.0 f.1 refl
            (paid (pc + 1) _ (at_steps s (suc n)) Q (spare (length ya + k)) (spare k) (spare_one (length ya + k)) (ends_at _ _ _ (at_steps s (suc n)) (λ t. Q (tick t)) (spare (length ya + k)) over (rb f.0)))
      ]

  -- a test of two registers
  eq_test : (l r : ℕ) (o : ℤ) (pc : ℕ) (s : RunState) →
      ((s.regs l ≡ s.regs r) × ((next : Next) → act e (Some (JumpEq l r o)) next pc s ≡ next (target pc o) (tick s))) ⊎ ((s.regs l ≢ s.regs r) × ((next : Next) → act e (Some (JumpEq l r o)) next pc s ≡ next (pc + 1) (tick s)))
  eq_test l r o pc s = elim (cases_eq (s.regs l) (s.regs r)) [
    | inl h ↦ inl (h, λ next. ap (λ b. if b then next (target pc o) (tick s) else next (pc + 1) (tick s)) (eq-eqb _ _ h))
    | inr h ↦ inr (h, λ next. ap (λ b. if b then next (target pc o) (tick s) else next (pc + 1) (tick s)) (ne_eqb _ _ h))
  ]

  lt_test : (l r : ℕ) (o : ℤ) (pc : ℕ) (s : RunState) →
      ((s.regs l < s.regs r) × ((next : Next) → act e (Some (JumpLt l r o)) next pc s ≡ next (target pc o) (tick s))) ⊎ ((s.regs r ≤ s.regs l) × ((next : Next) → act e (Some (JumpLt l r o)) next pc s ≡ next (pc + 1) (tick s)))
  lt_test l r o pc s = elim (cases_lt (s.regs l) (s.regs r)) [
    | inl h ↦ inl (h, λ next. ap (λ b. if b then next (target pc o) (tick s) else next (pc + 1) (tick s)) (lt-ltb _ _ h))
    | inr h ↦ inr (h, λ next. ap (λ b. if b then next (target pc o) (tick s) else next (pc + 1) (tick s)) (le-ltb _ _ h))
  ]

  -- the turns of a loop, from its test on
  turns_run : (j l r : ℕ) (body : List Stmt) (wb : RunState → Post → Type 0) (pc : ℕ) →
      slice_get table (pc + length body) ≡ Some (JumpLt l r (negsuc (length body))) →
      ((s : RunState) (n : ℕ) (Q : Post) → n ≤ s.steps → Counted s → wb s Q → Comes pc (at_steps s n) (pc + length body) Q 0) →
      (s : RunState) (n : ℕ) (Q : Post) → n ≤ s.steps → Counted s → Turns j l r wb s Q → Comes (pc + length body) (at_steps s n) (pc + length body + 1) Q 0
  unfolding Onward
  turns_run zero l r body wb pc at rb s n Q le c w = elim (lt_test l r (negsuc (length body)) (pc + length body) (at_steps s n)) [
    | inl h ↦ absurd (omega (arith, w.0, h.0))
    | inr h ↦ first_comes _ (pc + length body + 1) _ (at_steps s n) (at_steps s (suc n)) (JumpLt l r (negsuc (length body))) Q 0 at h.1 refl (now _ (tick s) (suc n) Q 0 (omega (arith, le)) w.1 c)
  ]
  turns_run (suc j) l r body wb pc at rb s n Q le c w =
      let back : pc ≡ pc + length body - length body = omega arith in
      elim (lt_test l r (negsuc (length body)) (pc + length body) (at_steps s n)) [
        | inl h ↦
            first_comes _ (pc + length body - length body) _ (at_steps s n) (at_steps s (suc n)) (JumpLt l r (negsuc (length body))) Q 0 at h.1 refl
            (starts_at _ pc _ (at_steps s (suc n)) Q 0 back
            (on pc (pc + length body) _ (at_steps s (suc n)) (λ t. Turns j l r wb t Q) Q 0 (rb (tick s) (suc n) _ (up _ _ le) c (w.0 h.0)) (λ t m le' v ct. turns_run j l r body wb pc at rb t m Q le' ct v)))
        | inr h ↦ first_comes _ (pc + length body + 1) _ (at_steps s n) (at_steps s (suc n)) (JumpLt l r (negsuc (length body))) Q 0 at h.1 refl (now _ (tick s) (suc n) Q 0 (omega (arith, le)) (w.1 h.0) c)
      ]

  -- nothing is jumped over
  straight : (pc pc2 : ℕ) (s : RunState) (Q : Post) → Comes pc s (pc2 + 0) Q (spare 0) → Comes pc s pc2 Q 0
  unfolding spare
  straight pc pc2 s Q c = let at : pc2 + 0 ≡ pc2 = omega arith in ends_at pc (pc2 + 0) pc2 s Q 0 at c

  -- the statements of a program do what it does, wherever they stand
  runs : (p : Prog) (k pc n : ℕ) (s : RunState) (Q : Post) → n ≤ s.steps → Counted s → HasAt table pc (code p k) → Ends e p s Q → Comes pc (at_steps s n) (pc + length (code p k) + k) Q (spare k)
  unfolding Onward
  runs (Block xs) k pc n s Q le c has w = then_hop xs k pc n s Q has (block_runs xs pc n s Q le c (has_front table pc xs (hop k) has) w)
  runs (Seq p q) k pc n s Q le c has w =
      let pa = code p 0 in
      let qa = code q k in
      let len : pc + length pa + length qa + k ≡ pc + length (pa ++ qa) + k = omega (arith, length-append pa qa) in
      ends_at pc _ _ (at_steps s n) Q (spare k) len (on pc (pc + length pa) _ (at_steps s n) (λ t. Ends e q t Q) Q (spare k)
      (straight pc (pc + length pa) (at_steps s n) (λ t. Ends e q t Q) (runs p 0 pc n s _ le c (has_front table pc pa qa has) w))
      (λ t m le' v ct. runs q k (pc + length pa) m t Q le' ct (has_back table pc pa qa has) v))
  runs (IfEq l r p q) k pc n s Q le c has w =
      let ya = code p k in
      let na = code q (length ya + k) in
      choice_runs ya na (JumpEq l r) _ _ k pc n s Q has (eq_test l r (pos (length na)) pc (at_steps s n))
      (λ y. runs p k (pc + 1 + length na) (suc n) (tick s) Q (up _ _ le) c (has_back table (pc + 1) na ya has.1) (w.0 y))
      (λ f. runs q (length ya + k) (pc + 1) (suc n) (tick s) (λ t. Q (tick t)) (up _ _ le) c (has_front table (pc + 1) na ya has.1) (w.1 f))
  runs (IfLt l r p q) k pc n s Q le c has w =
      let ya = code p k in
      let na = code q (length ya + k) in
      choice_runs ya na (JumpLt l r) _ _ k pc n s Q has (lt_test l r (pos (length na)) pc (at_steps s n))
      (λ y. runs p k (pc + 1 + length na) (suc n) (tick s) Q (up _ _ le) c (has_back table (pc + 1) na ya has.1) (w.0 y))
      (λ f. runs q (length ya + k) (pc + 1) (suc n) (tick s) (λ t. Q (tick t)) (up _ _ le) c (has_front table (pc + 1) na ya has.1) (w.1 f))
  runs (RepeatLt l r b) k pc n s Q le c has w =
      let body = code b 0 in
      let all = looped l r body in
      let here = has_front table pc all (hop k) has in
      let front = has_front table pc body (JumpLt l r (negsuc (length body)) ∷ []) here in
      let test = has_back table pc body (JumpLt l r (negsuc (length body)) ∷ []) here in
      let len : pc + length body + 1 ≡ pc + length all = omega (arith, length-append body (JumpLt l r (negsuc (length body)) ∷ [])) in
      let turn = λ (t : RunState) (m : ℕ) (R : Post) (le' : m ≤ t.steps) (ct : Counted t) (v : Ends e b t R). straight pc (pc + length body) (at_steps t m) R (runs b 0 pc m t R le' ct front v) in
      then_hop all k pc n s Q has (ends_at pc _ _ (at_steps s n) Q 0 len
      (on pc (pc + length body) _ (at_steps s n) (λ t. Turns w.0 l r (Ends e b) t Q) Q 0 (turn s n _ le c w.1)
      (λ t m le' v ct. turns_run w.0 l r body (Ends e b) pc test.0 turn t m Q le' ct v)))

-- the table of a program that ends after Render comes to its Halt, or the run is not honest
pub halts : (e : Given) (p : Prog) (s : RunState) (Q : Post) → Counted s → ((t : RunState) → Q t → t.stage ≡ finished) → Ends e p s Q → Halts e (table_of p) s (λ t. Q t × Counted t)
halts e p s Q c over w =
    let table = table_of p in
    let has = has_all table [] in
    let comes = straight e table 0 (0 + length (flatten p)) s Q (runs e table p 0 0 s.steps s Q (omega arith) c (has_front table 0 (flatten p) (Halt ∷ []) has) w) in
    let last = (has_back table 0 (flatten p) (Halt ∷ []) has).0 in
    elim comes.by [
      | inl r ↦ (let a = r.5.by 1 in
          let t = r.0 in
          let count : suc r.1 ≡ a.0 + s.steps = omega (arith, a.1) in
          inl (a.0, t, omega (arith, count, r.2), a.2 ∙ ap (λ o. act e o (exec e table 0) (0 + length (flatten p)) (at_steps t r.1)) last ∙ in_place (nat_eq t.stage finished) (Ended (at_steps t (suc r.1))) (eq-eqb t.stage finished (over t r.3)) ∙ ap (λ m. Ended (at_steps t m)) count, (r.3, r.4)))
      | inr u ↦ inr u
    ]

-- a whole run, whose changes rise in their addresses
pub whole : (e : Given) (p : Prog) (regs : ℕ → ℕ) (words : List ℕ) (Q : Post) → ((t : RunState) → Q t → t.stage ≡ finished) → Ends e p (start regs words) Q →
    Halts e (table_of p) (start regs words) (λ t. Q t × Counted t × Rises 0 t.changes t.floor)
whole e p regs words Q over w =
    let s = start regs words in
    let R : Post = λ t. Q t × Rises 0 t.changes t.floor in
    let w' = then_so e anything p s Q R (any_program p) (λ t f q. (q, rising anything s t refl f)) w in
    elim (halts e p s R (refl, omega arith) (λ t r. over t r.0) w') [
      | inl r ↦ inl (r.0, r.1, r.2, r.3, (r.4.0.0, r.4.1, r.4.0.1))
      | inr u ↦ inr u
    ]
