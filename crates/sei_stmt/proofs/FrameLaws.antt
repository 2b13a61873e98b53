-- What a program does not touch stays, and how to prove that a loop ends.
use Rattle.std.proofs.Common.{Some, ◌≡◌, ◌≢◌, ℕ, zero, suc, ◌+◌, ◌<◌, ◌≤◌, List, [], ◌∷◌, ◌++◌, length, refl, sym, ap, ◌∙◌, subst, inl, inr, arith, length-append, get_or-set_other}
use Rattle.std.specs.Prelude.{slice_index, true, false, nat_eq, nat_lt, if◌then◌else◌}
use Rattle.std.proofs.Math.ListN.{length-set}
use Rattle.std.proofs.lemmas.Bool.{cases_lt, ne_eqb, eq-eqb, and_parts, both_ways, ltb-true, lt-ltb}
use Rattle.sei_log.specs.Changes.{change_of}
use Rattle.sei_log.specs.declared.log.Change.{Change}
use Rattle.sei_stmt.specs.declared.stmt.Stmt.{Stmt}
use Rattle.sei_stmt.specs.declared.stmt.Stmt.TheVariants.{Const, Move, Add, Sub, Input, Load, Store, Emit, Jump, JumpEq, JumpLt, Now, Alloc, Parse, Render, Halt}
use Rattle.sei_stmt.specs.Order.{unparsed, parsed, timed, slotted, finished}
use Rattle.sei_stmt.specs.Runs.{Given, RunState, Counted, logged, put, tick, write, store, emit, reach, render}
use Rattle.sei_stmt.specs.Programs.{Prog, Block, Seq, IfEq, IfLt, RepeatLt, IsParsed, IsOpen, MayRender, Post, Before, BeforeAll, Turns, Ends}
use Rattle.sei_stmt.specs.Touch.{Touch, anything, stmt_within, all_within, within, Framed, Rises}

pub put_other : (f : ℕ → ℕ) (to v r : ℕ) → r ≢ to → put f to v r ≡ f r
put_other f to v r ne = simp (ne_eqb r to ne)

pub put_here : (f : ℕ → ℕ) (to v : ℕ) → put f to v to ≡ v
put_here f to v = simp (eq-eqb to to refl)

-- a register that may not be written is not one that was
apart : (w : Touch) (to r : ℕ) → w.regs to ≡ true → w.regs r ≡ false → r ≢ to
apart w to r ok not_in e = both_ways (w.regs r) not_in (ap w.regs e ∙ ok)

-- The stages.

pub open_is_parsed : (n : ℕ) → IsOpen n → IsParsed n
open_is_parsed n h = (and_parts (nat_lt unparsed n) (nat_lt n finished) h).0

pub may_render_below : (n : ℕ) → MayRender n → n < finished
may_render_below n h = ltb-true n finished (and_parts (nat_lt parsed n) (nat_lt n finished) h).1

pub may_render_open : (n : ℕ) → MayRender n → IsOpen n
may_render_open n h =
    let y = and_parts (nat_lt parsed n) (nat_lt n finished) h in
    simp (lt-ltb unparsed n (omega (arith, ltb-true parsed n y.0)), y.1)

-- Addresses that rise.

rises_more : (lo : ℕ) (cs : List Change) (n n' : ℕ) → n ≤ n' → Rises lo cs n → Rises lo cs n'
rises_more lo [] n n' le h = omega (arith, h)
rises_more lo (c ∷ cs) n n' le h = (h.0, rises_more (c.address + 1) cs n n' le h.1)

rises_one : (lo : ℕ) (cs : List Change) (n : ℕ) (x : Change) → n ≤ x.address → Rises lo cs n → Rises lo (cs ++ x ∷ []) (suc x.address)
rises_one lo [] n x le h = (omega (arith, h), omega arith)
rises_one lo (c ∷ cs) n x le h = (h.0, rises_one (c.address + 1) cs n x le h.1)

rises_logged : (lo : ℕ) (cs : List Change) (n a old v : ℕ) → n ≤ a → Rises lo cs n → Rises lo (logged cs a old v) (suc a)
unfolding logged
rises_logged lo cs n a old v le h = elim (nat_eq old v) as (λ b. Rises lo (if b then cs else cs ++ change_of a old v ∷ []) (suc a)) [
  | true ↦ rises_more lo cs n (suc a) (omega arith) h
  | false ↦ rises_one lo cs n (change_of a old v) le h
]

-- The counts.

length_logged : (cs : List Change) (a old v n : ℕ) → length cs ≤ n → length (logged cs a old v) ≤ suc n
unfolding logged
length_logged cs a old v n le = elim (nat_eq old v) as (λ b. length (if b then cs else cs ++ change_of a old v ∷ []) ≤ suc n) [
  | true ↦ omega arith
  | false ↦ omega (arith, length-append cs (change_of a old v ∷ []))
]

pub counted_store : (s : RunState) (a v : ℕ) → Counted s → Counted (store s a v)
counted_store s a v c = (c.0, length_logged s.changes a (slice_index s.words a) v s.stores c.1)

pub counted_emit : (s : RunState) (v : ℕ) → Counted s → Counted (emit s v)
counted_emit s v c = (omega (arith, length-append s.out (v ∷ []), c.0), c.1)

-- The frame, statement by statement.

framed_refl : (w : Touch) (s : RunState) → Framed w s s
framed_refl w s = record { regs = λ r h. refl; words = λ h. refl; stores = λ h. refl; still = λ h. refl; out = λ h. refl; emitted = λ h. refl; stage = λ h. refl; bytes = λ h. refl; later = omega arith; size = refl; rises = omega arith; below = λ a h. refl; above = λ a h. refl; changes = λ lo h. h }

framed_tick : (w : Touch) (s t : RunState) → Framed w s t → Framed w s (tick t)
framed_tick w s t f = record { regs = f.regs; words = f.words; stores = f.stores; still = f.still; out = f.out; emitted = f.emitted; stage = f.stage; bytes = f.bytes; later = f.later; size = f.size; rises = f.rises; below = f.below; above = f.above; changes = f.changes }

framed_write : (w : Touch) (s t : RunState) (to v : ℕ) → w.regs to ≡ true → Framed w s t → Framed w s (write t to v)
framed_write w s t to v ok f =
    record { regs = λ r not_in. put_other t.regs to v r (apart w to r ok not_in) ∙ f.regs r not_in; words = f.words; stores = f.stores; still = f.still; out = f.out; emitted = f.emitted; stage = f.stage; bytes = f.bytes; later = f.later; size = f.size; rises = f.rises; below = f.below; above = f.above; changes = f.changes }

framed_store : (w : Touch) (s t : RunState) (a v : ℕ) → w.words ≡ true → t.floor ≤ a → Framed w s t → Framed w s (store t a v)
framed_store w s t a v ok le f =
    record {
      regs = f.regs;
      words = λ not_in. absurd (both_ways w.words not_in ok);
      stores = λ not_in. absurd (both_ways w.words not_in ok);
      still = λ not_in. absurd (both_ways w.words not_in ok);
      out = f.out;
      emitted = f.emitted;
      stage = f.stage;
      bytes = f.bytes;
      later = f.later;
      size = length-set t.words a v ∙ f.size;
      rises = omega (arith, f.rises);
      below = λ b lt. let ne : b ≢ a = omega (arith, f.rises) in get_or-set_other t.words a b v 0 ne ∙ f.below b lt;
      above = λ b up. let ne : b ≢ a = omega arith in let up' : t.floor ≤ b = omega arith in get_or-set_other t.words a b v 0 ne ∙ f.above b up';
      changes = λ lo h. rises_logged lo t.changes t.floor a (slice_index t.words a) v le (f.changes lo h);
    }

framed_emit : (w : Touch) (s t : RunState) (v : ℕ) → w.out ≡ true → Framed w s t → Framed w s (emit t v)
framed_emit w s t v ok f =
    record { regs = f.regs; words = f.words; stores = f.stores; still = f.still; out = λ not_in. absurd (both_ways w.out not_in ok); emitted = λ not_in. absurd (both_ways w.out not_in ok); stage = f.stage; bytes = f.bytes; later = f.later; size = f.size; rises = f.rises; below = f.below; above = f.above; changes = f.changes }

framed_reach : (w : Touch) (s t : RunState) (n : ℕ) → w.stage ≡ true → t.stage ≤ n → Framed w s t → Framed w s (reach n t)
framed_reach w s t n ok le f =
    record { regs = f.regs; words = f.words; stores = f.stores; still = f.still; out = f.out; emitted = f.emitted; stage = λ not_in. absurd (both_ways w.stage not_in ok); bytes = f.bytes; later = omega (arith, f.later); size = f.size; rises = f.rises; below = f.below; above = f.above; changes = f.changes }

framed_render : (w : Touch) (s t : RunState) (bytes : List ℕ) → w.stage ≡ true → MayRender t.stage → Framed w s t → Framed w s (render t bytes)
framed_render w s t bytes ok may f =
    record { regs = f.regs; words = f.words; stores = f.stores; still = f.still; out = f.out; emitted = f.emitted; stage = λ not_in. absurd (both_ways w.stage not_in ok); bytes = λ not_in. absurd (both_ways w.stage not_in ok); later = omega (arith, f.later, may_render_below t.stage may); size = f.size; rises = f.rises; below = f.below; above = f.above; changes = f.changes }

module _ (e : Given) where
  pub stmt_more : (x : Stmt) (s : RunState) (Q R : Post) → ((t : RunState) → Q t → R t) → Before e x s Q → Before e x s R
  stmt_more (Const to n) s Q R f b = f _ b
  stmt_more (Move to from) s Q R f b = f _ b
  stmt_more (Add to l r) s Q R f b = (b.0, b.1, f _ b.2)
  stmt_more (Sub to l r) s Q R f b = (b.0, b.1, f _ b.2)
  stmt_more (Input to i) s Q R f b = (b.0, b.1, b.2, f _ b.3)
  stmt_more (Load to a) s Q R f b = (b.0, b.1, f _ b.2)
  stmt_more (Store a from) s Q R f b = (b.0, b.1, b.2, f _ b.3)
  stmt_more (Emit from) s Q R f b = (b.0, b.1, f _ b.2)
  stmt_more (Jump o) s Q R f b = b
  stmt_more (JumpEq l r o) s Q R f b = b
  stmt_more (JumpLt l r o) s Q R f b = b
  stmt_more (Now to) s Q R f b = (b.0, f _ b.1)
  stmt_more (Alloc to m) s Q R f b = (b.0, b.1, λ fit. f _ (b.2 fit))
  stmt_more Parse s Q R f b = (b.0, f _ b.1)
  stmt_more Render s Q R f b = (b.0, b.1, b.2, b.3, f _ b.4)
  stmt_more Halt s Q R f b = b

  stmt_frame : (w : Touch) (x : Stmt) (s0 s : RunState) (Q R : Post) → stmt_within w x ≡ true → Framed w s0 s → ((t : RunState) → Framed w s0 t → Q t → R t) → Before e x s Q → Before e x s R
  stmt_frame w (Const to n) s0 s Q R ok fr f b = f _ (framed_write w s0 s to _ ok fr) b
  stmt_frame w (Move to from) s0 s Q R ok fr f b = f _ (framed_write w s0 s to _ ok fr) b
  stmt_frame w (Add to l r) s0 s Q R ok fr f b = (b.0, b.1, f _ (framed_write w s0 s to _ ok fr) b.2)
  stmt_frame w (Sub to l r) s0 s Q R ok fr f b = (b.0, b.1, f _ (framed_write w s0 s to _ ok fr) b.2)
  stmt_frame w (Input to i) s0 s Q R ok fr f b = (b.0, b.1, b.2, f _ (framed_write w s0 s to _ ok fr) b.3)
  stmt_frame w (Load to a) s0 s Q R ok fr f b = (b.0, b.1, f _ (framed_write w s0 s to _ ok fr) b.2)
  stmt_frame w (Store a from) s0 s Q R ok fr f b = (b.0, b.1, b.2, f _ (framed_store w s0 s (s.regs a) _ ok b.1 fr) b.3)
  stmt_frame w (Emit from) s0 s Q R ok fr f b = (b.0, b.1, f _ (framed_emit w s0 s _ ok fr) b.2)
  stmt_frame w (Jump o) s0 s Q R ok fr f b = b
  stmt_frame w (JumpEq l r o) s0 s Q R ok fr f b = b
  stmt_frame w (JumpLt l r o) s0 s Q R ok fr f b = b
  stmt_frame w (Now to) s0 s Q R ok fr f b =
      let y = and_parts w.stage (w.regs to) ok in
      (b.0, f _ (framed_reach w s0 (write s to e.now) timed y.0 (omega (arith, b.0)) (framed_write w s0 s to e.now y.1 fr)) b.1)
  stmt_frame w (Alloc to m) s0 s Q R ok fr f b =
      let y = and_parts w.stage (w.regs to) ok in
      let slot = e.slot s.words (s.regs m) in
      (b.0, b.1, λ fit. f _ (framed_reach w s0 (write s to slot) slotted y.0 (omega (arith, b.0)) (framed_write w s0 s to slot y.1 fr)) (b.2 fit))
  stmt_frame w Parse s0 s Q R ok fr f b =
      (b.0, f _ (framed_reach w s0 (tick s) parsed ok (omega (arith, b.0)) (framed_tick w s0 s fr)) b.1)
  stmt_frame w Render s0 s Q R ok fr f b = (b.0, b.1, b.2, b.3, f _ (framed_render w s0 s b.1 ok b.0 fr) b.4)
  stmt_frame w Halt s0 s Q R ok fr f b = b

  all_frame : (w : Touch) (xs : List Stmt) (s0 s : RunState) (Q R : Post) → all_within w xs ≡ true → Framed w s0 s → ((t : RunState) → Framed w s0 t → Q t → R t) → BeforeAll e xs s Q → BeforeAll e xs s R
  all_frame w [] s0 s Q R ok fr f b = f s fr b
  all_frame w (x ∷ xs) s0 s Q R ok fr f b =
      let y = and_parts (stmt_within w x) (all_within w xs) ok in
      stmt_frame w x s0 s (λ t. BeforeAll e xs t Q) (λ t. BeforeAll e xs t R) y.0 fr (λ t ft bt. all_frame w xs s0 t Q R y.1 ft f bt) b

  turns_frame : (w : Touch) (n l r : ℕ) (wb : RunState → Post → Type 0) (s0 : RunState) →
      ((s : RunState) (Q R : Post) → Framed w s0 s → ((t : RunState) → Framed w s0 t → Q t → R t) → wb s Q → wb s R) →
      (s : RunState) (Q R : Post) → Framed w s0 s → ((t : RunState) → Framed w s0 t → Q t → R t) → Turns n l r wb s Q → Turns n l r wb s R
  turns_frame w zero l r wb s0 body s Q R fr f b = (b.0, f (tick s) (framed_tick w s0 s fr) b.1)
  turns_frame w (suc n) l r wb s0 body s Q R fr f b =
      (λ lt. body (tick s) (λ t. Turns n l r wb t Q) (λ t. Turns n l r wb t R) (framed_tick w s0 s fr) (λ t ft bt. turns_frame w n l r wb s0 body t Q R ft f bt) (b.0 lt), λ le. f (tick s) (framed_tick w s0 s fr) (b.1 le))

  -- a weaker fact behind the program, with what the program kept since s0
  frame_more : (w : Touch) (p : Prog) (s0 s : RunState) (Q R : Post) → within w p ≡ true → Framed w s0 s → ((t : RunState) → Framed w s0 t → Q t → R t) → Ends e p s Q → Ends e p s R
  frame_more w (Block xs) s0 s Q R ok fr f b = all_frame w xs s0 s Q R ok fr f b
  frame_more w (Seq p q) s0 s Q R ok fr f b =
      let y = and_parts (within w p) (within w q) ok in
      frame_more w p s0 s (λ t. Ends e q t Q) (λ t. Ends e q t R) y.0 fr (λ t ft bt. frame_more w q s0 t Q R y.1 ft f bt) b
  frame_more w (IfEq l r p q) s0 s Q R ok fr f b =
      let y = and_parts (within w p) (within w q) ok in
      (λ h. frame_more w p s0 (tick s) Q R y.0 (framed_tick w s0 s fr) f (b.0 h), λ h. frame_more w q s0 (tick s) (λ t. Q (tick t)) (λ t. R (tick t)) y.1 (framed_tick w s0 s fr) (λ t ft bt. f (tick t) (framed_tick w s0 t ft) bt) (b.1 h))
  frame_more w (IfLt l r p q) s0 s Q R ok fr f b =
      let y = and_parts (within w p) (within w q) ok in
      (λ h. frame_more w p s0 (tick s) Q R y.0 (framed_tick w s0 s fr) f (b.0 h), λ h. frame_more w q s0 (tick s) (λ t. Q (tick t)) (λ t. R (tick t)) y.1 (framed_tick w s0 s fr) (λ t ft bt. f (tick t) (framed_tick w s0 t ft) bt) (b.1 h))
  frame_more w (RepeatLt l r p) s0 s Q R ok fr f b = (
    b.0,
    frame_more w p s0 s (λ t. Turns b.0 l r (Ends e p) t Q) (λ t. Turns b.0 l r (Ends e p) t R) ok fr
        (λ t ft bt. turns_frame w b.0 l r (Ends e p) s0 (λ u Q' R' fu g bu. frame_more w p s0 u Q' R' ok fu g bu) t Q R ft f bt) b.1,
  )

  -- a program that was proved to end in Q, where R follows from Q and from what it keeps
  pub then_so : (w : Touch) (p : Prog) (s : RunState) (Q R : Post) → within w p ≡ true → ((t : RunState) → Framed w s t → Q t → R t) → Ends e p s Q → Ends e p s R
  then_so w p s Q R ok f b = frame_more w p s s Q R ok (framed_refl w s) f b

  -- one program, and then another
  pub seq : (w : Touch) (p q : Prog) (s : RunState) (Q R : Post) → within w p ≡ true → Ends e p s Q → ((t : RunState) → Framed w s t → Q t → Ends e q t R) → Ends e (Seq p q) s R
  seq w p q s Q R ok b f = then_so w p s Q (λ t. Ends e q t R) ok f b

  -- a loop: after a turn I n holds, if at most n more turns are made. What the body does not touch is as at the start
  pub repeat : (w : Touch) (l r : ℕ) (b : Prog) (s0 : RunState) (I : ℕ → RunState → Type 0) (Q : Post) → within w b ≡ true →
      ((n : ℕ) (t : RunState) → Framed w s0 t → I n t → t.regs l < t.regs r → (m : ℕ) × (suc m ≡ n) × Ends e b (tick t) (I m)) →
      ((n : ℕ) (t : RunState) → Framed w s0 t → I n t → t.regs r ≤ t.regs l → Q (tick t)) →
      (n : ℕ) → Ends e b s0 (I n) → Ends e (RepeatLt l r b) s0 Q
  repeat w l r b s0 I Q ok step done n first = (n, frame_more w b s0 s0 (I n) (λ t. Turns n l r (Ends e b) t Q) ok (framed_refl w s0) (λ t ft it. go n t ft it) first)
    where
      go : (n : ℕ) (t : RunState) → Framed w s0 t → I n t → Turns n l r (Ends e b) t Q
      go zero t ft it = elim (cases_lt (t.regs l) (t.regs r)) [
        | inl lt ↦ let not_in = step zero t ft it lt in absurd (omega (arith, not_in.1))
        | inr le ↦ (le, done zero t ft it le)
      ]
      go (suc n) t ft it = (
        λ lt. let s = step (suc n) t ft it lt in let eq : s.0 ≡ n = omega (arith, s.1) in
            frame_more w b s0 (tick t) (I s.0) (λ u. Turns n l r (Ends e b) u Q) ok (framed_tick w s0 t ft) (λ u fu iu. go n u fu (subst (λ k. I k u) eq iu)) s.2,
        λ le. done (suc n) t ft it le,
      )

-- Every program is within everything.

any_stmt : (x : Stmt) → stmt_within anything x ≡ true
any_stmt (Const to n) = refl
any_stmt (Move to from) = refl
any_stmt (Add to l r) = refl
any_stmt (Sub to l r) = refl
any_stmt (Input to i) = refl
any_stmt (Load to a) = refl
any_stmt (Store a from) = refl
any_stmt (Emit from) = refl
any_stmt (Jump o) = refl
any_stmt (JumpEq l r o) = refl
any_stmt (JumpLt l r o) = refl
any_stmt (Now to) = refl
any_stmt (Alloc to m) = refl
any_stmt Parse = refl
any_stmt Render = refl
any_stmt Halt = refl

any_stmts : (xs : List Stmt) → all_within anything xs ≡ true
any_stmts [] = refl
any_stmts (x ∷ xs) = simp (any_stmt x, any_stmts xs)

pub any_program : (p : Prog) → within anything p ≡ true
any_program (Block xs) = any_stmts xs
any_program (Seq p q) = simp (any_program p, any_program q)
any_program (IfEq l r p q) = simp (any_program p, any_program q)
any_program (IfLt l r p q) = simp (any_program p, any_program q)
any_program (RepeatLt l r b) = any_program b

-- where nothing was changed before, all addresses rise
pub rising : (w : Touch) (s t : RunState) → s.changes ≡ [] → Framed w s t → Rises 0 t.changes t.floor
rising w s t none f = f.changes 0 (subst (λ cs. Rises 0 cs s.floor) (sym none) (omega arith))

pub some_same : {X : Type 0} (a b : X) → Some a ≡ Some b → a ≡ b
some_same a b e = cc
