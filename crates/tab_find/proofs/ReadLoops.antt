-- The loops that read words: what went to a sink, and how many more may go.
use Rattle.std.proofs.Common.{◌≡◌, ◌≢◌, ℕ, suc, pred, ◌+◌, ◌*◌, ◌^◌, ◌<◌, ◌≤◌, Bool, true, false, List, [], ◌∷◌, ◌++◌, length, refl, sym, ap, ◌∙◌, subst, arith, take, take_all, append_assoc, append-nil}
use Rattle.std.specs.Prelude.{slice_index, nat_eq, ◌||◌}
use Rattle.std.proofs.lemmas.List.{take_more}
use Rattle.mc_model.specs.Packed.{words_for}
use Rattle.sei_words.specs.Stored.{StoredAt}
use Rattle.sei_stmt.specs.declared.stmt.Stmt.{Stmt}
use Rattle.sei_stmt.specs.declared.stmt.Stmt.TheVariants.{Add, Load}
use Rattle.sei_stmt.specs.Order.{is_open}
use Rattle.sei_stmt.specs.Runs.{Given, RunState, tick, write, emit}
use Rattle.sei_stmt.specs.Programs.{Prog, Block, RepeatLt, Ends, BeforeAll, IsOpen, HasWord, Post}
use Rattle.sei_stmt.specs.Touch.{Touch, within}
use Rattle.sei_stmt.proofs.Public.{repeat, put_other}
use Rattle.tab_find.specs.Registers.{r_one, r_address, r_word, r_index, r_other, r_limit, r_passed, r_flags, r_unique, r_value_length, r_eight}
use Rattle.tab_find.specs.ShowPrograms.{Sink, Out, sink_stmt, read_run, read_value}
use Rattle.tab_find.proofs.MachineLaws.{sum_is, word_is}
use Rattle.tab_find.proofs.StoreValue.{value_registers}

-- What went to a sink.

abbrev pub told : Sink → RunState → List ℕ
told Out s = s.out

abbrev pub told_count : Sink → RunState → ℕ
told_count Out s = s.emitted

-- the most words that may go there
abbrev pub told_room : Sink → Given → ℕ
told_room Out e = e.out_room

-- whether they are output words
abbrev pub is_output : Sink → Bool
is_output Out = true

-- these are all words that went there so far
pub record Told (k : Sink) (said : List ℕ) (bound most : ℕ) (t : RunState) : Type 0 where
  pub steps : t.steps ≤ bound
  pub emitted : told_count k t ≤ most
  pub made : told k t ≡ said

-- these are all output words so far
abbrev pub Made : List ℕ → (bound most : ℕ) → RunState → Type 0
Made said bound most t = Told Out said bound most t

-- these went there, and so many more may go
pub record CanTell (said : List ℕ) (count most room at gone : ℕ) (words : List ℕ) : Type 0 where
  pub stage : IsOpen at
  pub made : words ≡ said
  pub few : gone + count ≤ most
  pub fits : most ≤ room

-- the same of a state
abbrev pub MayTell : Sink → Given → List ℕ → (count most : ℕ) → RunState → Type 0
MayTell k e said count most s = CanTell said count most (told_room k e) s.stage (told_count k s) (told k s)

-- a state that is another but for registers and statements
pub tell_same : (k : Sink) (e : Given) (said : List ℕ) (count most : ℕ) (s t : RunState) → t.stage ≡ s.stage → t.emitted ≡ s.emitted → t.out ≡ s.out → MayTell k e said count most s → MayTell k e said count most t
tell_same Out e said count most s t stage emitted out m = record { stage = ap is_open stage ∙ m.stage; made = out ∙ m.made; few = omega (arith, emitted, m.few); fits = m.fits }

-- The bodies of the two loops.

abbrev pub run_turn : Sink → Prog
run_turn k = Block (Load r_word r_address ∷ sink_stmt k ∷ Add r_address r_address r_one ∷ [])

abbrev pub value_turn : Sink → Prog
value_turn k = Block (Load r_word r_address ∷ sink_stmt k ∷ Add r_address r_address r_one ∷ Add r_passed r_passed r_eight ∷ [])

pub told_tick : (k : Sink) (said : List ℕ) (low bound most : ℕ) (t : RunState) → Told k said low most t → low + 1 ≤ bound → Told k said bound most (tick t)
told_tick Out said low bound most t d le = record { steps = omega (arith, d.steps, le); emitted = d.emitted; made = d.made }

-- What the programs write.

-- the registers of a value, and where the words go
abbrev pub reader : Sink → Touch
reader k = record { regs = value_registers; words = false; out = is_output k; stage = false }

-- an address, a word, and how many bytes were passed
abbrev pub runner : Sink → Touch
runner k = record { regs = λ r. nat_eq r r_address || nat_eq r r_word || nat_eq r r_passed; words = false; out = is_output k; stage = false }

-- an address, an end, and the fields of an item
abbrev pub item_loader : Touch
item_loader = record { regs = λ r. nat_eq r r_address || nat_eq r r_limit || nat_eq r r_flags || nat_eq r r_unique || nat_eq r r_value_length; words = false; out = false; stage = false }

-- two words, an address and the index of an input word
abbrev pub uniques_loader : Touch
uniques_loader = record { regs = λ r. (nat_eq r r_address || nat_eq r r_word) || (nat_eq r r_index || nat_eq r r_other); words = false; out = false; stage = false }

-- a word of scratch, and output words
abbrev pub sayer : Touch
sayer = record { regs = λ r. nat_eq r r_address; words = false; out = true; stage = false }

run_turn_within : (k : Sink) → within (runner k) (run_turn k) ≡ true
run_turn_within Out = refl

pub value_turn_within : (k : Sink) → within (runner k) (value_turn k) ≡ true
value_turn_within Out = refl

pub run_within : (k : Sink) → within (runner k) (read_run k) ≡ true
run_within Out = refl

pub value_within : (k : Sink) → within (reader k) (read_value k) ≡ true
value_within Out = refl

-- Runs of words.

module _ (e : Given) (ws vs said : List ℕ) (a most : ℕ) (stored : StoredAt ws a vs) (inside : a + length vs ≤ length ws) (few : length ws < 2 ^ 32) where
  -- j of them were read
  pub record Read (k : Sink) (j : ℕ) (t : RunState) : Type 0 where
    pub within : j ≤ length vs
    pub address : t.regs r_address ≡ a + j
    pub emitted : told_count k t + length vs ≤ most + j
    pub made : told k t ≡ said ++ take j vs

  read_tick : (k : Sink) (j : ℕ) (t : RunState) → Read k j t → Read k j (tick t)
  read_tick Out j t r = record { within = r.within; address = r.address; emitted = r.emitted; made = r.made }

  read_write : (k : Sink) (j : ℕ) (t : RunState) (to v : ℕ) → r_address ≢ to → Read k j t → Read k j (write t to v)
  read_write Out j t to v apart r = record { within = r.within; address = put_other t.regs to v r_address apart ∙ r.address; emitted = r.emitted; made = r.made }

  pub none_read : (k : Sink) (t : RunState) → t.regs r_address ≡ a → MayTell k e said (length vs) most t → Read k 0 t
  none_read k t address m = record { within = omega arith; address = omega (arith, address); emitted = omega (arith, m.few); made = m.made ∙ sym (append-nil said) }

  pub all_read : (k : Sink) (j bound : ℕ) (t : RunState) → Read k j t → length vs ≤ j → t.steps ≤ bound → Told k (said ++ vs) bound most t
  all_read k j bound t r le steps =
      let all : j ≡ length vs = omega (arith, r.within, le) in
      record { steps = steps; emitted = omega (arith, r.emitted, all); made = r.made ∙ ap (λ l. said ++ l) (take_all j vs (omega (arith, all))) }

  -- one more
  turn_ends : (k : Sink) (j : ℕ) (rest : List Stmt) (t : RunState) (Q : Post) → IsOpen t.stage → t.words ≡ ws → t.regs r_one ≡ 1 → most ≤ told_room k e → j < length vs → Read k j t →
      ((u : RunState) → Read k (j + 1) u → u.steps ≡ t.steps + 3 → u.regs r_passed ≡ t.regs r_passed → u.regs r_eight ≡ t.regs r_eight → BeforeAll e rest u Q) →
      Ends e (Block (Load r_word r_address ∷ sink_stmt k ∷ Add r_address r_address r_one ∷ rest)) t Q
  turn_ends Out j rest t Q stage same one outs lt r more =
      let v = slice_index vs j in (
        v,
        subst (λ l. HasWord l (t.regs r_address) v) (sym same) (subst (λ w. HasWord ws (t.regs r_address) w) (stored j lt) (word_is ws (t.regs r_address) (a + j) r.address (omega (arith, lt, inside)))),
        (
          stage,
          omega (arith, r.emitted, lt, outs),
          (
            a + (j + 1),
            sum_is _ _ _ (omega (arith, r.address, one)) (omega (arith, lt, inside, few)),
            more (write (emit (write t r_word v) v) r_address (a + (j + 1)))
                (record { within = omega (arith, lt); address = refl; emitted = omega (arith, r.emitted); made = ap (λ l. l ++ v ∷ []) r.made ∙ append_assoc said (take j vs) (v ∷ []) ∙ sym (ap (λ l. said ++ l) (take_more vs j 0 lt)) })
                (omega arith) refl refl,
          ),
        ),
      )

  -- the words up to a limit
  record Running (k : Sink) (bound more : ℕ) (t : RunState) : Type 0 where
    j : ℕ
    read : Read k j t
    left : length vs ≤ j + more
    steps : t.steps + 4 * more + 1 ≤ bound

  running_ends : (k : Sink) (j more bound : ℕ) (t : RunState) → IsOpen t.stage → t.words ≡ ws → t.regs r_one ≡ 1 → most ≤ told_room k e → j < length vs → Read k j t →
      length vs ≤ j + 1 + more → t.steps + 4 * more + 4 ≤ bound → Ends e (run_turn k) t (Running k bound more)
  running_ends k j more bound t stage same one outs lt r left steps =
      turn_ends k j [] t (Running k bound more) stage same one outs lt r (λ u ru su pu eu. record { j = j + 1; read = ru; left = left; steps = omega (arith, steps, su) })

  pub run_ends : (k : Sink) (s : RunState) (bound : ℕ) → 1 ≤ length vs → s.regs r_address ≡ a → s.regs r_limit ≡ a + length vs → s.words ≡ ws → s.regs r_one ≡ 1 → MayTell k e said (length vs) most s →
      s.steps + 4 * length vs ≤ bound → Ends e (read_run k) s (Told k (said ++ vs) bound most)
  run_ends k s bound some address limit same one m steps =
      let more = pred (length vs) in
      repeat e (runner k) r_address r_limit (run_turn k) s (Running k bound) (Told k (said ++ vs) bound most) (run_turn_within k)
      (λ n t f it h.
      let lt : it.j < length vs = omega (arith, h, it.read.address, f.regs r_limit refl, limit) in
      let some_left : suc (pred n) ≡ n = omega (arith, it.left, lt) in (
        pred n,
        some_left,
        running_ends k it.j (pred n) bound (tick t) (ap is_open (f.stage refl) ∙ m.stage) (f.words refl ∙ same) (f.regs r_one refl ∙ one) m.fits lt (read_tick k it.j t it.read)
            (omega (arith, it.left, some_left)) (omega (arith, it.steps, some_left)),
      ))
      (λ n t f it le. all_read k it.j bound (tick t) (read_tick k it.j t it.read) (omega (arith, le, it.read.address, f.regs r_limit refl, limit)) (omega (arith, it.steps)))
      more
      (running_ends k 0 more bound s m.stage same one m.fits some (none_read k s address m) (omega arith) (omega (arith, steps, some)))

  -- the words in which so many bytes are packed
  record Passing (k : Sink) (bound more : ℕ) (t : RunState) : Type 0 where
    j : ℕ
    read : Read k j t
    passed : t.regs r_passed ≡ 8 * j
    left : length vs ≤ j + more
    steps : t.steps + 5 * more + 1 ≤ bound

  passing_ends : (k : Sink) (j more bound : ℕ) (t : RunState) → IsOpen t.stage → t.words ≡ ws → t.regs r_one ≡ 1 → t.regs r_eight ≡ 8 → most ≤ told_room k e → j < length vs → Read k j t → t.regs r_passed ≡ 8 * j →
      length vs ≤ j + 1 + more → t.steps + 5 * more + 5 ≤ bound → Ends e (value_turn k) t (Passing k bound more)
  passing_ends k j more bound t stage same one eight outs lt r passed left steps =
      turn_ends k j (Add r_passed r_passed r_eight ∷ []) t (Passing k bound more) stage same one outs lt r (λ u ru su pu eu. (
        8 * (j + 1),
        sum_is _ _ _ (omega (arith, pu, eu, passed, eight)) (omega (arith, lt, inside, few)),
        record { j = j + 1; read = read_write k (j + 1) u r_passed (8 * (j + 1)) (omega arith) ru; passed = refl; left = left; steps = omega (arith, steps, su) },
      ))

  pub pass_ends : (k : Sink) (n : ℕ) (s : RunState) (bound : ℕ) → 1 ≤ n → length vs ≡ words_for n → s.regs r_value_length ≡ n → s.regs r_passed ≡ 0 → s.regs r_eight ≡ 8 → s.regs r_address ≡ a → s.words ≡ ws → s.regs r_one ≡ 1 → MayTell k e said (length vs) most s →
      s.steps + 5 * length vs ≤ bound → Ends e (RepeatLt r_passed r_value_length (value_turn k)) s (Told k (said ++ vs) bound most)
  pass_ends k n s bound some count long passed eight address same one m steps =
      let more = pred (length vs) in
      let some_words : 0 < length vs = omega (arith, count, some) in
      repeat e (runner k) r_passed r_value_length (value_turn k) s (Passing k bound) (Told k (said ++ vs) bound most) (value_turn_within k)
      (λ i t f it h.
      let lt : it.j < length vs = omega (arith, h, it.passed, f.regs r_value_length refl, long, count) in
      let some_left : suc (pred i) ≡ i = omega (arith, it.left, lt) in (
        pred i,
        some_left,
        passing_ends k it.j (pred i) bound (tick t) (ap is_open (f.stage refl) ∙ m.stage) (f.words refl ∙ same) (f.regs r_one refl ∙ one) (f.regs r_eight refl ∙ eight) m.fits lt (read_tick k it.j t it.read) it.passed
            (omega (arith, it.left, some_left)) (omega (arith, it.steps, some_left)),
      ))
      (λ i t f it le. all_read k it.j bound (tick t) (read_tick k it.j t it.read) (omega (arith, le, it.passed, f.regs r_value_length refl, long, count)) (omega (arith, it.steps)))
      more
      (passing_ends k 0 more bound s m.stage same one eight m.fits some_words (none_read k s address m) passed (omega arith) (omega (arith, steps, some_words)))
