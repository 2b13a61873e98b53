-- What an honest run does by registers as a function, a pass does by its list of registers.
use Rattle.std.proofs.Common.{◌≡◌, ℕ, zero, suc, ◌+◌, ◌-◌, ◌%◌, ◌^◌, ◌<◌, ◌≤◌, ◌⊎◌, inl, inr, List, [], ◌∷◌, ◌++◌, length, Option, Some, None, refl, sym, ap, ◌∙◌, subst, arith, get_or-set_other, get_or-set_same, append_assoc, append-nil}
use Rattle.std.specs.Prelude.{slice_index, slice_set, slice_get, Bool, true, false, nat_lt, nat_le, nat_eq, ◌==◌, ◌&&◌, ◌||◌, if◌then◌else◌, All}
use Rattle.std.proofs.Math.ListN.{length-set}
use Rattle.std.proofs.lemmas.Bool.{cases_eq, eq-eqb, eqb-true, lt-ltb, ltb-true, and_parts, both_ways}
use Rattle.std.proofs.lemmas.List.{set-get_or}
use Rattle.std.proofs.lemmas.Option.{get_or_from_slice_get}
use Rattle.sei_code.specs.Codes.{message_code}
use Rattle.sei_code.specs.Coded.{sealed, read_of, complement}
use Rattle.sei_code.specs.Kept.{has_room}
use Rattle.sei_log.specs.Changes.{change_of}
use Rattle.sei_log.specs.declared.log.Change.{Change}
use Rattle.sei_log.specs.declared.notes.Notes as noting
use Rattle.sei_fault.specs.Tree.{Tree, honest}
use Rattle.sei_fault.specs.declared.cause.AbortCause.TheVariants.{Notes, LogFull, OutFull}
use Rattle.sei_stmt.specs.declared.stmt.Stmt.{Stmt}
use Rattle.sei_stmt.specs.declared.stmt.Stmt.TheVariants.{Const, Move, Add, Sub, Input, Load, Store, Emit, Jump, JumpEq, JumpLt, Now, Alloc, Parse, Render, Halt}
use Rattle.sei_stmt.specs.Table.{HasRegisters, target}
use Rattle.sei_stmt.specs.Handling.{Parsed, parsed_words}
use Rattle.sei_stmt.specs.Machine.{Machine, Setting, After, register, time_noted, slot_noted, with_register, with_input, emitted, with_bytes, with_code, one_made, stored, with_notes, note_time, note_slot}
use Rattle.sei_stmt.specs.Machine.Outcome.{Next, Halted, Bad}
use Rattle.sei_stmt.specs.Slots.{lowest_free, is_admissible, first_free}
use Rattle.sei_stmt.specs.Statements.{same_if, store_if, store_word, emit_if, now_tree, now_by, noted_now, noted_value, alloc_by, fit_if, noted_slot, noted_slot_value, parse_first, bucket_if, parse_call, intact_if, store_bytes, render_if, statement_tree, count_if, step_tree, found_tree, read_word, render_words, render_bytes, parse_tree}
use Rattle.sei_stmt.specs.Honest.{after}
use Rattle.sei_stmt.specs.Order.{unparsed, parsed, timed, finished, is_parsed, is_open, may_render, slotted, only, stage_behind, stage_behind_found, stage_onward, stage_after}
use Rattle.sei_stmt.specs.Runs.{Given, RunState, Ended, Aborted, Misplaced, Unfit, Unfinished, put, write, tick, logged, exec, act}
use Rattle.sei_stmt.specs.Runs as runs
use Rattle.sei_stmt.specs.Passes.{Rooms, IsServed}
use Rattle.sei_stmt.specs.Given.{given_of, Answers}
use Rattle.sei_stmt.specs.Given.Answers.{Made, Noted}
use Rattle.sei_stmt.proofs.HonestLaws.{after_one}
use Rattle.sei_stmt.proofs.FrameLaws.{put_here, put_other}

-- the 32 registers, as a function and as a list
pub record TiedRegisters (f : ℕ → ℕ) (registers : List ℕ) : Type 0 where
  pub long : length registers ≡ 32
  pub each : (r : ℕ) → r < 32 → slice_index registers r ≡ f r

tied_put : (f : ℕ → ℕ) (registers : List ℕ) (to v w : ℕ) → to < 32 → w ≡ v → TiedRegisters f registers → TiedRegisters (put f to v) (slice_set registers to w)
tied_put f registers to v w lt same t =
    record {
      long = length-set registers to w ∙ t.long;
      each = λ r h. elim (cases_eq r to) [
        | inl e ↦ subst (λ n. slice_index (slice_set registers to w) n ≡ put f to v n) (sym e) (get_or-set_same registers to w 0 (omega (arith, lt, t.long)) ∙ same ∙ sym (put_here f to v))
        | inr ne ↦ get_or-set_other registers to r w 0 ne ∙ t.each r h ∙ sym (put_other f to v r ne)
      ];
    }

made_tree : (g : Setting) (pc : ℕ) (m : Machine) (st : Stmt) → slice_get g.statements pc ≡ Some st → m.made < g.budget → step_tree g pc m ≡ statement_tree g pc (one_made m) st
made_tree g pc m st is lt = ap (found_tree g pc m) is ∙ ap (λ b. count_if b g pc m st) (lt-ltb m.made g.budget lt)

read_sealed : (v : ℕ) → read_of (sealed v) ≡ Some v
read_sealed v = simp (eq-eqb (complement v) (complement v) refl)

render_parsed : (stage : ℕ) → may_render stage ≡ true → is_parsed stage ≡ true
render_parsed stage h = lt-ltb 0 stage (omega (arith, ltb-true 1 stage (and_parts _ _ h).0))

-- the tests of the input, with the lent bucket and the call apart
abbrev parse_there : Setting → Option ℕ → Option Parsed → ℕ → Machine → Tree After
parse_there g lent o pc m = parse_call (record g { lent = lent; parsed = o }) pc m

-- the lowest free slot is free, or all are in use
first_of : (free : ℕ → Bool) (i n : ℕ) → ((first_free free i n < i + n) × (free (first_free free i n) ≡ true)) ⊎ (first_free free i n ≡ i + n)
first_of free i zero = inr (omega arith)
first_of free i (suc n) = by_free (free i) refl (first_of free (i + 1) n)
  where
    by_free : (b : Bool) → free i ≡ b → (((first_free free (i + 1) n < i + 1 + n) × (free (first_free free (i + 1) n) ≡ true)) ⊎ (first_free free (i + 1) n ≡ i + 1 + n)) →
        (((if b then i else first_free free (i + 1) n) < i + suc n) × (free (if b then i else first_free free (i + 1) n) ≡ true)) ⊎ ((if b then i else first_free free (i + 1) n) ≡ i + suc n)
    by_free true is rest = inl (omega arith, is)
    by_free false is (inl h) = inl (omega (arith, h.0), h.1)
    by_free false is (inr h) = inr (omega (arith, h))

or_right : (a b : Bool) → b ≡ true → (a || b) ≡ true
or_right true b h = refl
or_right false b h = h

and_both : (a b : Bool) → a ≡ true → b ≡ true → (a && b) ≡ true
and_both true b h k = k
and_both false b h k = h

pub lowest_admissible : (g : Setting) (words : List ℕ) (moment : ℕ) → is_admissible g words moment (lowest_free g words moment) ≡ true
lowest_admissible g words moment = elim (first_of (g.is_free words moment) 0 g.slots) [
  | inl h ↦ simp (lt-ltb (lowest_free g words moment) g.slots (omega (arith, h.0)), h.1)
  | inr h ↦
      let e : lowest_free g words moment ≡ g.slots = omega (arith, h) in
      or_right _ _ (and_both _ _ (eq-eqb (lowest_free g words moment) g.slots e) (eq-eqb (lowest_free g words moment) g.slots e))
]

module _ (g : Setting) (rooms : Rooms) (p : Parsed) (now : ℕ) (slot : List ℕ → ℕ → ℕ) where
  -- a state of the run and the machine of the pass that stands there
  pub record Tied (s : RunState) (m : Machine) : Type 0 where
    pub registers : TiedRegisters s.regs m.registers
    pub made : m.made ≡ s.steps
    pub words : m.words ≡ s.words
    pub out : m.output.items ≡ s.out
    pub out_room : m.output.room ≡ rooms.output
    pub byte_room : m.bytes.room ≡ rooms.bytes
    pub log : m.log.items ≡ s.changes
    pub log_room : m.log.room ≡ rooms.log
    pub input : is_parsed s.stage ≡ true → m.input.items ≡ p.words
    pub done : s.stage ≡ finished → (m.bytes.items ≡ s.bytes) × (m.code ≡ Some (message_code g.answer s.bytes))
    pub answers : Answers g now slot m.notes

  -- so many honest steps lead there, where they are within the budget
  abbrev pub Stands : (start : Machine) → RunState → Machine → ℕ → Type 0
  Stands start s m pc = s.steps ≤ g.budget → (after g start s.steps ≡ record { machine = m; outcome = Next pc }) × (stage_after g start s.steps ≡ Some s.stage)

  -- what the end of a run says of the pass
  abbrev pub Ends : (start : Machine) → ℕ → runs.Outcome → Type 0
  Ends start lo (Ended t) = (lo < t.steps) × (t.steps ≤ g.budget → (m : Machine) × (after g start t.steps ≡ record { machine = m; outcome = Halted }) × (stage_after g start t.steps ≡ Some finished) × Tied t m)
  Ends start lo (Unfit s) = (lo ≤ s.steps) × (s.steps < g.budget → (g.reading ≡ true) × (m : Machine) × (after g start (suc s.steps) ≡ record { machine = m; outcome = Bad Notes }))
  Ends start lo (Aborted cause) = Unit {0}
  Ends start lo Misplaced = Unit {0}
  Ends start lo Unfinished = Unit {0}

  -- from one statement on
  later : (start : Machine) (lo : ℕ) (o : runs.Outcome) → Ends start (suc lo) o → Ends start lo o
  later start lo (Ended t) h = (omega (arith, h.0), h.1)
  later start lo (Unfit s) h = (omega (arith, h.0), h.1)
  later start lo (Aborted cause) h = h
  later start lo Misplaced h = h
  later start lo Unfinished h = h

  tied_write : (s : RunState) (m : Machine) (to v w : ℕ) → to < 32 → w ≡ v → Tied s m → Tied (write s to v) (with_register (one_made m) to w)
  tied_write s m to v w lt same t = record {
    registers = tied_put s.regs m.registers to v w lt same t.registers;
    made = omega (arith, t.made);
    words = t.words;
    out = t.out;
    out_room = t.out_room;
    byte_room = t.byte_room;
    log = t.log;
    log_room = t.log_room;
    input = t.input;
    done = t.done;
    answers = t.answers;
  }

  tied_tick : (s : RunState) (m : Machine) → Tied s m → Tied (tick s) (one_made m)
  tied_tick s m t = record {
    registers = t.registers;
    made = omega (arith, t.made);
    words = t.words;
    out = t.out;
    out_room = t.out_room;
    byte_room = t.byte_room;
    log = t.log;
    log_room = t.log_room;
    input = t.input;
    done = t.done;
    answers = t.answers;
  }

  -- one statement more is made
  one_more : (start : Machine) (s : RunState) (m : Machine) (pc : ℕ) (st : Stmt) (x : After) → Tied s m → Stands start s m pc → slice_get g.statements pc ≡ Some st →
      honest (statement_tree g pc (one_made m) st) ≡ x → s.steps < g.budget → after g start (suc s.steps) ≡ x
  one_more start s m pc st x t at is end lt =
      let w = at (omega (arith, lt)) in
      let made : m.made < g.budget = omega (arith, t.made, lt) in
      after_one g start m pc s.steps x w.0 (sym (ap honest (made_tree g pc m st is made) ∙ end))

  -- and it stands where it may
  one_stage : (start : Machine) (s : RunState) (m : Machine) (pc : ℕ) (st : Stmt) (stage : ℕ) → Stands start s m pc → slice_get g.statements pc ≡ Some st →
      stage_behind s.stage st ≡ Some stage → s.steps < g.budget → stage_after g start (suc s.steps) ≡ Some stage
  one_stage start s m pc st stage at is right lt =
      let w = at (omega (arith, lt)) in
      ap (λ o. stage_onward g o (after g start s.steps).outcome) w.1 ∙ ap (λ x. stage_onward g (Some s.stage) x.outcome) w.0 ∙ ap (stage_behind_found s.stage) is ∙ right

  goes_on : (start : Machine) (s s1 : RunState) (m m1 : Machine) (pc pc1 : ℕ) (st : Stmt) → Tied s m → Stands start s m pc → slice_get g.statements pc ≡ Some st →
      honest (statement_tree g pc (one_made m) st) ≡ record { machine = m1; outcome = Next pc1 } → stage_behind s.stage st ≡ Some s1.stage → s1.steps ≡ suc s.steps → Stands start s1 m1 pc1
  goes_on start s s1 m m1 pc pc1 st t at is end right one = λ le.
      let lt : s.steps < g.budget = omega (arith, le, one) in (
        ap (after g start) one ∙ one_more start s m pc st (record { machine = m1; outcome = Next pc1 }) t at is end lt,
        ap (stage_after g start) one ∙ one_stage start s m pc st s1.stage at is right lt,
      )

  abbrev given : Given
  given = given_of g rooms p.words now slot

  -- the honest end of a statement, from equal parts

  read_honest : (pc : ℕ) (m : Machine) (to a v : ℕ) (o : Option ℕ) → o ≡ Some v → honest (read_word pc m to a o) ≡ record { machine = with_register m to v; outcome = Next (pc + 1) }
  read_honest pc m to a v o is = ap (λ o. honest (read_word pc m to a o)) is

  render_honest : (pc : ℕ) (m : Machine) (read ws : List ℕ) → honest (render_words g pc m read ws) ≡ honest (render_bytes g pc m (g.rendered (read ++ ws)))
  render_honest pc m read [] = ap (λ l. honest (render_bytes g pc m (g.rendered l))) (sym (append-nil read))
  render_honest pc m read (w ∷ ws) = render_honest pc m (read ++ w ∷ []) ws ∙ ap (λ l. honest (render_bytes g pc m (g.rendered l))) (append_assoc read (w ∷ []) ws)

  module _ (served : IsServed g p) (bytes_fit : (ws bs : List ℕ) → g.rendered ws ≡ Some bs → All (λ b. b < 256) bs)
      (fine : (i : ℕ) (st : Stmt) → slice_get g.statements i ≡ Some st → HasRegisters st) (start : Machine) where
    abbrev Tie : ℕ → Type 0
    Tie n = (pc : ℕ) (s : RunState) (m : Machine) → Tied s m → Stands start s m pc → Ends start s.steps (exec given g.statements n pc s)

    -- a register gets a value
    writes : (n pc : ℕ) (s : RunState) (m : Machine) (st : Stmt) (to v w : ℕ) → Tie n → Tied s m → Stands start s m pc → slice_get g.statements pc ≡ Some st → to < 32 → w ≡ v →
        honest (statement_tree g pc (one_made m) st) ≡ record { machine = with_register (one_made m) to w; outcome = Next (pc + 1) } → stage_behind s.stage st ≡ Some s.stage →
        Ends start s.steps (exec given g.statements n (pc + 1) (write s to v))
    writes n pc s m st to v w ih t at is lt same end right =
        later start s.steps (exec given g.statements n (pc + 1) (write s to v))
        (ih (pc + 1) (write s to v) (with_register (one_made m) to w) (tied_write s m to v w lt same t)
        (goes_on start s (write s to v) m (with_register (one_made m) to w) pc (pc + 1) st t at is end right refl))

    -- a statement goes on elsewhere, and changes nothing
    moves : (n pc pc1 : ℕ) (s : RunState) (m : Machine) (st : Stmt) → Tie n → Tied s m → Stands start s m pc → slice_get g.statements pc ≡ Some st →
        honest (statement_tree g pc (one_made m) st) ≡ record { machine = one_made m; outcome = Next pc1 } → stage_behind s.stage st ≡ Some s.stage →
        Ends start s.steps (exec given g.statements n pc1 (tick s))
    moves n pc pc1 s m st ih t at is end right =
        later start s.steps (exec given g.statements n pc1 (tick s))
        (ih pc1 (tick s) (one_made m) (tied_tick s m t) (goes_on start s (tick s) m (one_made m) pc pc1 st t at is end right refl))

    same_register : (s : RunState) (m : Machine) (r : ℕ) → Tied s m → r < 32 → register m r ≡ s.regs r
    same_register s m r t lt = t.registers.each r lt

    loads : (n pc : ℕ) (s : RunState) (m : Machine) (to a : ℕ) (o : Option ℕ) → Tie n → Tied s m → Stands start s m pc → slice_get g.statements pc ≡ Some (Load to a) → to < 32 → a < 32 →
        slice_get s.words (s.regs a) ≡ o → Ends start s.steps (runs.with_word o (s.regs a) (λ v. exec given g.statements n (pc + 1) (write s to v)))
    loads n pc s m to a None ih t at is lt lt' word = tt
    loads n pc s m to a (Some v) ih t at is lt lt' word =
        writes n pc s m (Load to a) to v v ih t at is lt refl
        (read_honest pc (one_made m) to (register m a) v (slice_get m.words (register m a)) (ap (λ l. slice_get l (register m a)) t.words ∙ ap (slice_get s.words) (same_register s m a t lt') ∙ word)) refl

    inputs : (n pc : ℕ) (s : RunState) (m : Machine) (to a : ℕ) (o : Option ℕ) → is_parsed s.stage ≡ true → Tie n → Tied s m → Stands start s m pc → slice_get g.statements pc ≡ Some (Input to a) → to < 32 → a < 32 →
        slice_get p.words (s.regs a) ≡ o → Ends start s.steps (runs.with_word o (s.regs a) (λ v. exec given g.statements n (pc + 1) (write s to v)))
    inputs n pc s m to a None begun ih t at is lt lt' word = tt
    inputs n pc s m to a (Some v) begun ih t at is lt lt' word =
        writes n pc s m (Input to a) to v v ih t at is lt refl
        (read_honest pc (one_made m) to (register m a) v (slice_get m.input.items (register m a)) (ap (λ l. slice_get l (register m a)) (t.input begun) ∙ ap (slice_get p.words) (same_register s m a t lt') ∙ word)) (ap (λ b. only b s.stage) begun)

    staged : (right : Bool) (o : runs.Outcome) (lo : ℕ) → (right ≡ true → Ends start lo o) → Ends start lo (runs.in_stage right o)
    staged false o lo h = tt
    staged true o lo h = h refl

    -- a store: of the word that is there already, of another one, or where the log is full

    store_same : (pc : ℕ) (m : Machine) (from a old v : ℕ) (o : Option ℕ) → o ≡ Some old → register m from ≡ v → (old == v) ≡ true →
        honest (store_word pc m from a o) ≡ record { machine = m; outcome = Next (pc + 1) }
    store_same pc m from a old v o is from_is same =
        ap (λ o. honest (store_word pc m from a o)) is
        ∙ ap (λ b. honest (same_if b pc m a old (register m from))) (ap (λ n. old == n) from_is ∙ same)

    store_other : (pc : ℕ) (m : Machine) (from a old v : ℕ) (o : Option ℕ) → o ≡ Some old → register m from ≡ v → (old == v) ≡ false → has_room m.log ≡ true →
        honest (store_word pc m from a o) ≡ record { machine = stored m a (change_of a old v) v; outcome = Next (pc + 1) }
    store_other pc m from a old v o is from_is other room =
        ap (λ o. honest (store_word pc m from a o)) is
        ∙ ap (λ b. honest (same_if b pc m a old (register m from))) (ap (λ n. old == n) from_is ∙ other)
        ∙ ap (λ n. honest (store_if (has_room m.log) pc m a old n)) from_is
        ∙ ap (λ b. honest (store_if b pc m a old v)) room

    stored_words : (ws : List ℕ) (a old v : ℕ) → slice_get ws a ≡ Some old → (old == v) ≡ true → slice_set ws a v ≡ ws
    stored_words ws a old v is same =
        let e : v ≡ slice_index ws a = sym (eqb-true old v same) ∙ sym (get_or_from_slice_get ws a old 0 is) in
        ap (slice_set ws a) e ∙ set-get_or ws a 0

    logged_same : (cs : List Change) (a was old v : ℕ) → was ≡ old → (old == v) ≡ true → logged cs a was v ≡ cs
    unfolding logged
    logged_same cs a was old v e same = ap (λ b. if b then cs else cs ++ change_of a was v ∷ []) (ap (λ n. nat_eq n v) e ∙ same)

    logged_other : (cs : List Change) (a was old v : ℕ) → was ≡ old → (old == v) ≡ false → logged cs a was v ≡ cs ++ change_of a old v ∷ []
    unfolding logged
    logged_other cs a was old v e other =
        ap (λ b. if b then cs else cs ++ change_of a was v ∷ []) (ap (λ n. nat_eq n v) e ∙ other)
        ∙ ap (λ n. cs ++ record { address = a; was = n; becomes = v } ∷ []) e

    stores : (n pc : ℕ) (s : RunState) (m : Machine) (a from : ℕ) (o : Option ℕ) → Tie n → Tied s m → Stands start s m pc → slice_get g.statements pc ≡ Some (Store a from) → a < 32 → from < 32 →
        slice_get s.words (s.regs a) ≡ o →
        Ends start s.steps (runs.with_word o (s.regs a) (λ old. runs.if_logged old (s.regs from) (nat_lt (length s.changes) rooms.log) (exec given g.statements n (pc + 1) (runs.store s (s.regs a) (s.regs from)))))
    stores n pc s m a from None ih t at is lt lt' word = tt
    stores n pc s m a from (Some old) ih t at is lt lt' word = by_change (old == s.regs from) refl
      where
        here : slice_get m.words (register m a) ≡ Some old
        here = ap (λ l. slice_get l (register m a)) t.words ∙ ap (slice_get s.words) (same_register s m a t lt) ∙ word

        was : slice_index s.words (s.regs a) ≡ old
        was = get_or_from_slice_get s.words (s.regs a) old 0 word

        next : RunState
        next = runs.store s (s.regs a) (s.regs from)

        by_room : (old == s.regs from) ≡ false → (b : Bool) → nat_lt (length s.changes) rooms.log ≡ b → Ends start s.steps (if b then exec given g.statements n (pc + 1) next else Aborted LogFull)
        by_room other false full = tt
        by_room other true room =
            let m1 = stored (one_made m) (register m a) (change_of (register m a) old (s.regs from)) (s.regs from) in
            later start s.steps (exec given g.statements n (pc + 1) next)
            (ih (pc + 1) next m1
            (record {
              registers = t.registers;
              made = omega (arith, t.made);
              words = ap (λ l. slice_set l (register m a) (s.regs from)) t.words ∙ ap (λ n. slice_set s.words n (s.regs from)) (same_register s m a t lt);
              out = t.out;
              out_room = t.out_room;
              byte_room = t.byte_room;
              log = ap (λ l. l ++ change_of (register m a) old (s.regs from) ∷ []) t.log ∙ ap (λ n. s.changes ++ change_of n old (s.regs from) ∷ []) (same_register s m a t lt) ∙ sym (logged_other s.changes (s.regs a) (slice_index s.words (s.regs a)) old (s.regs from) was other);
              log_room = t.log_room;
              input = t.input;
              done = t.done;
              answers = t.answers;
            })
            (goes_on start s next m m1 pc (pc + 1) (Store a from) t at is
            (store_other pc (one_made m) from (register m a) old (s.regs from) (slice_get m.words (register m a)) here (same_register s m from t lt') other
            (ap (λ l. nat_lt (length l) m.log.room) t.log ∙ ap (λ n. nat_lt (length s.changes) n) t.log_room ∙ room))
            refl refl))

        by_change : (b : Bool) → (old == s.regs from) ≡ b → Ends start s.steps (if b then exec given g.statements n (pc + 1) next else if nat_lt (length s.changes) rooms.log then exec given g.statements n (pc + 1) next else Aborted LogFull)
        by_change true same =
            later start s.steps (exec given g.statements n (pc + 1) next)
            (ih (pc + 1) next (one_made m)
            (record {
              registers = t.registers;
              made = omega (arith, t.made);
              words = t.words ∙ sym (stored_words s.words (s.regs a) old (s.regs from) word same);
              out = t.out;
              out_room = t.out_room;
              byte_room = t.byte_room;
              log = t.log ∙ sym (logged_same s.changes (s.regs a) (slice_index s.words (s.regs a)) old (s.regs from) was same);
              log_room = t.log_room;
              input = t.input;
              done = t.done;
              answers = t.answers;
            })
            (goes_on start s next m (one_made m) pc (pc + 1) (Store a from) t at is
            (store_same pc (one_made m) from (register m a) old (s.regs from) (slice_get m.words (register m a)) here (same_register s m from t lt') same)
            refl refl))
        by_change false other = by_room other (nat_lt (length s.changes) rooms.log) refl

    emits : (n pc : ℕ) (s : RunState) (m : Machine) (from : ℕ) (b : Bool) → is_open s.stage ≡ true → Tie n → Tied s m → Stands start s m pc → slice_get g.statements pc ≡ Some (Emit from) → from < 32 →
        nat_lt (length s.out) rooms.output ≡ b → Ends start s.steps (if b then exec given g.statements n (pc + 1) (runs.emit s (s.regs from)) else Aborted OutFull)
    emits n pc s m from false begun ih t at is lt full = tt
    emits n pc s m from true begun ih t at is lt room =
        let next = runs.emit s (s.regs from) in
        let m1 = emitted (one_made m) (register m from) in
        later start s.steps (exec given g.statements n (pc + 1) next)
        (ih (pc + 1) next m1
        (record {
          registers = t.registers;
          made = omega (arith, t.made);
          words = t.words;
          out = ap (λ l. l ++ register m from ∷ []) t.out ∙ ap (λ n. s.out ++ n ∷ []) (same_register s m from t lt);
          out_room = t.out_room;
          byte_room = t.byte_room;
          log = t.log;
          log_room = t.log_room;
          input = t.input;
          done = t.done;
          answers = t.answers;
        })
        (goes_on start s next m m1 pc (pc + 1) (Emit from) t at is
        (ap (λ b. honest (emit_if b pc (one_made m) from))
        (ap (λ l. nat_lt (length l) m.output.room) t.out ∙ ap (λ n. nat_lt (length s.out) n) t.out_room ∙ room))
        (ap (λ b. only b s.stage) begun) refl))

    -- a jump by two registers
    jumps : (n pc to : ℕ) (s : RunState) (m : Machine) (st : Stmt) (b c : Bool) → Tie n → Tied s m → Stands start s m pc → slice_get g.statements pc ≡ Some st → c ≡ b →
        honest (statement_tree g pc (one_made m) st) ≡ record { machine = one_made m; outcome = Next (if c then to else pc + 1) } → stage_behind s.stage st ≡ Some s.stage →
        Ends start s.steps (if b then exec given g.statements n to (tick s) else exec given g.statements n (pc + 1) (tick s))
    jumps n pc to s m st true c ih t at is e end right = moves n pc to s m st ih t at is (end ∙ ap (λ c. record { machine = one_made m; outcome = Next (if c then to else pc + 1) }) e) right
    jumps n pc to s m st false c ih t at is e end right = moves n pc (pc + 1) s m st ih t at is (end ∙ ap (λ c. record { machine = one_made m; outcome = Next (if c then to else pc + 1) }) e) right

    -- the time

    now_ends : (pc : ℕ) (s : RunState) (m : Machine) (to : ℕ) (o : Answers g now slot m.notes) →
        (notes : noting.Notes) × Answers g now slot notes × (honest (now_tree g pc m to) ≡ record { machine = with_register (with_notes m notes) to now; outcome = Next (pc + 1) })
    now_ends pc s m to (Made first clock lowest) =
        let notes = time_noted m.notes (sealed now) in (
          notes,
          Made first clock lowest,
          ap (λ b. honest (now_by b g pc m to)) first
              ∙ ap (λ n. record { machine = with_register (note_time m (sealed n)) to n; outcome = Next (pc + 1) }) (sym clock),
        )
    now_ends pc s m to (Noted noted second slots is) = (
      m.notes,
      Noted noted second slots is,
      ap (λ b. honest (now_by b g pc m to)) second
          ∙ ap (λ n. honest (noted_now pc m to n.now)) is
          ∙ ap (λ o. honest (noted_value pc m to o)) (read_sealed now),
    )

    times : (n pc : ℕ) (s : RunState) (m : Machine) (to : ℕ) → s.stage ≡ parsed → Tie n → Tied s m → Stands start s m pc → slice_get g.statements pc ≡ Some (Now to) → to < 32 →
        Ends start s.steps (exec given g.statements n (pc + 1) (runs.take_time s to now))
    times n pc s m to stage ih t at is lt =
        let next = runs.take_time s to now in
        let end = now_ends pc s (one_made m) to t.answers in
        let m1 = with_register (with_notes (one_made m) end.0) to now in
        later start s.steps (exec given g.statements n (pc + 1) next)
        (ih (pc + 1) next m1
        (record {
          registers = tied_put s.regs m.registers to now now lt refl t.registers;
          made = omega (arith, t.made);
          words = t.words;
          out = t.out;
          out_room = t.out_room;
          byte_room = t.byte_room;
          log = t.log;
          log_room = t.log_room;
          input = λ e. t.input (ap is_parsed stage);
          done = λ e. absurd (omega (arith, e));
          answers = end.1;
        })
        (goes_on start s next m m1 pc (pc + 1) (Now to) t at is end.2 (ap (λ n. only (n == parsed) timed) stage) refl))

    -- a slot

    alloc_ends : (pc : ℕ) (m : Machine) (to t v : ℕ) → v ≡ t → (o : Answers g now slot m.notes) → is_admissible g m.words t (slot m.words t) ≡ true →
        (notes : noting.Notes) × Answers g now slot notes × (honest (alloc_by g.reading g pc m to v) ≡ record { machine = with_register (with_notes m notes) to (slot m.words t); outcome = Next (pc + 1) })
    alloc_ends pc m to t v same (Made first clock lowest) fit =
        let notes = slot_noted m.notes (sealed (slot m.words t)) in (
          notes,
          Made first clock lowest,
          ap (λ n. honest (alloc_by g.reading g pc m to n)) same
              ∙ ap (λ b. honest (alloc_by b g pc m to t)) first
              ∙ ap (λ (f : List ℕ → ℕ → ℕ). record { machine = with_register (note_slot m (sealed (f m.words t))) to (f m.words t); outcome = Next (pc + 1) }) (sym lowest),
        )
    alloc_ends pc m to t v same (Noted noted second slots is) fit =
        let here : slot m.words t ≡ noted = ap (λ (f : List ℕ → ℕ → ℕ). f m.words t) slots in (
          m.notes,
          Noted noted second slots is,
          ap (λ n. honest (alloc_by g.reading g pc m to n)) same
              ∙ ap (λ b. honest (alloc_by b g pc m to t)) second
              ∙ ap (λ n. honest (noted_slot g pc m to t n.slot)) is
              ∙ ap (λ o. honest (noted_slot_value g pc m to t o)) (read_sealed noted)
              ∙ ap (λ b. honest (fit_if b pc m to noted)) (ap (is_admissible g m.words t) (sym here) ∙ fit)
              ∙ ap (λ n. record { machine = with_register m to n; outcome = Next (pc + 1) }) (sym here),
        )

    unfit_ends : (pc : ℕ) (m : Machine) (to t v : ℕ) → v ≡ t → (o : Answers g now slot m.notes) → is_admissible g m.words t (slot m.words t) ≡ false →
        (g.reading ≡ true) × (honest (alloc_by g.reading g pc m to v) ≡ record { machine = m; outcome = Bad Notes })
    unfit_ends pc m to t v same (Made first clock lowest) unfit =
        absurd (both_ways (is_admissible g m.words t (slot m.words t)) unfit (ap (λ (f : List ℕ → ℕ → ℕ). is_admissible g m.words t (f m.words t)) lowest ∙ lowest_admissible g m.words t))
    unfit_ends pc m to t v same (Noted noted second slots is) unfit =
        let here : slot m.words t ≡ noted = ap (λ (f : List ℕ → ℕ → ℕ). f m.words t) slots in (
          second,
          ap (λ n. honest (alloc_by g.reading g pc m to n)) same
              ∙ ap (λ b. honest (alloc_by b g pc m to t)) second
              ∙ ap (λ n. honest (noted_slot g pc m to t n.slot)) is
              ∙ ap (λ o. honest (noted_slot_value g pc m to t o)) (read_sealed noted)
              ∙ ap (λ b. honest (fit_if b pc m to noted)) (ap (is_admissible g m.words t) (sym here) ∙ unfit),
        )

    slots : (n pc : ℕ) (s : RunState) (m : Machine) (to moment : ℕ) (b : Bool) → s.stage ≡ timed → Tie n → Tied s m → Stands start s m pc → slice_get g.statements pc ≡ Some (Alloc to moment) → to < 32 → moment < 32 →
        is_admissible g s.words (s.regs moment) (slot s.words (s.regs moment)) ≡ b →
        Ends start s.steps (if b then exec given g.statements n (pc + 1) (runs.take_slot s to (slot s.words (s.regs moment))) else Unfit s)
    slots n pc s m to moment true stage ih t at is lt lt' fit =
        let next = runs.take_slot s to (slot s.words (s.regs moment)) in
        let end = alloc_ends pc (one_made m) to (s.regs moment) (register m moment) (same_register s m moment t lt') t.answers (ap (λ l. is_admissible g l (s.regs moment) (slot l (s.regs moment))) t.words ∙ fit) in
        let m1 = with_register (with_notes (one_made m) end.0) to (slot m.words (s.regs moment)) in
        later start s.steps (exec given g.statements n (pc + 1) next)
        (ih (pc + 1) next m1
        (record {
          registers = tied_put s.regs m.registers to (slot s.words (s.regs moment)) (slot m.words (s.regs moment)) lt (ap (λ l. slot l (s.regs moment)) t.words) t.registers;
          made = omega (arith, t.made);
          words = t.words;
          out = t.out;
          out_room = t.out_room;
          byte_room = t.byte_room;
          log = t.log;
          log_room = t.log_room;
          input = λ e. t.input (ap is_parsed stage);
          done = λ e. absurd (omega (arith, e));
          answers = end.1;
        })
        (goes_on start s next m m1 pc (pc + 1) (Alloc to moment) t at is end.2 (ap (λ n. only (n == timed) slotted) stage) refl))
    slots n pc s m to moment false stage ih t at is lt lt' unfit =
        let end = unfit_ends pc (one_made m) to (s.regs moment) (register m moment) (same_register s m moment t lt') t.answers (ap (λ l. is_admissible g l (s.regs moment) (slot l (s.regs moment))) t.words ∙ unfit) in
        (omega arith, λ le. (end.0, one_made m, one_more start s m pc (Alloc to moment) (record { machine = one_made m; outcome = Bad Notes }) t at is end.1 le))

    -- the input

    parse_ends : (pc : ℕ) (m : Machine) → honest (parse_tree g pc m) ≡ record { machine = with_input m p.words; outcome = Next (pc + 1) }
    parse_ends pc m =
        ap (λ b. honest (intact_if b g pc m)) served.intact
        ∙ ap (λ o. honest (parse_there g g.lent o pc (with_input m (parsed_words o)))) served.parsed
        ∙ ap (λ o. honest (parse_there g o (Some p) pc (with_input m p.words))) served.lent
        ∙ ap (λ b. honest (bucket_if b pc (with_input m p.words))) (eq-eqb p.bucket p.bucket refl)
        ∙ filled p.words
      where
        filled : (ws : List ℕ) → honest (parse_first pc (with_input m ws) ws) ≡ record { machine = with_input m ws; outcome = Next (pc + 1) }
        filled [] = refl
        filled (w ∷ ws) = refl

    parses : (n pc : ℕ) (s : RunState) (m : Machine) → s.stage ≡ unparsed → Tie n → Tied s m → Stands start s m pc → slice_get g.statements pc ≡ Some Parse → Ends start s.steps (exec given g.statements n (pc + 1) (runs.parse s))
    parses n pc s m stage ih t at is =
        let next = runs.parse s in
        let m1 = with_input (one_made m) p.words in
        later start s.steps (exec given g.statements n (pc + 1) next)
        (ih (pc + 1) next m1
        (record {
          registers = t.registers;
          made = omega (arith, t.made);
          words = t.words;
          out = t.out;
          out_room = t.out_room;
          byte_room = t.byte_room;
          log = t.log;
          log_room = t.log_room;
          input = λ e. refl;
          done = λ e. absurd (omega (arith, e));
          answers = t.answers;
        })
        (goes_on start s next m m1 pc (pc + 1) Parse t at is (parse_ends pc (one_made m)) (ap (λ n. only (n == unparsed) parsed) stage) refl))

    -- the output bytes

    store_ends : (pc : ℕ) (m : Machine) (bs : List ℕ) → All (λ b. b < 256) bs → honest (store_bytes pc m bs) ≡ record { machine = with_bytes m bs; outcome = Next (pc + 1) }
    store_ends pc m [] small = refl
    store_ends pc m (b ∷ bs) small =
        let low = small 0 0 (omega arith) in
        let same : b % 2 ^ 8 ≡ b = omega (arith, low) in
        ap (λ n. record { machine = with_bytes m (n ∷ bs); outcome = Next (pc + 1) }) same

    bytes_end : (pc : ℕ) (m : Machine) (bs : List ℕ) → g.rendered m.output.items ≡ Some bs → nat_le (length bs) m.bytes.room ≡ true →
        honest (statement_tree g pc m Render) ≡ record { machine = with_bytes (with_code m (message_code g.answer bs)) bs; outcome = Next (pc + 1) }
    bytes_end pc m bs is room =
        render_honest pc m [] m.output.items
        ∙ ap (λ o. honest (render_bytes g pc m o)) is
        ∙ ap (λ b. honest (render_if b g pc m bs)) room
        ∙ store_ends pc (with_code m (message_code g.answer bs)) bs (bytes_fit m.output.items bs is)

    renders : (n pc : ℕ) (s : RunState) (m : Machine) (o : Option (List ℕ)) → may_render s.stage ≡ true → Tie n → Tied s m → Stands start s m pc → slice_get g.statements pc ≡ Some Render →
        g.rendered s.out ≡ o → Ends start s.steps (runs.with_bytes o rooms.bytes (λ bytes. exec given g.statements n (pc + 1) (runs.render s bytes)))
    renders n pc s m None begun ih t at is out = tt
    renders n pc s m (Some bs) begun ih t at is out = by_room (nat_le (length bs) rooms.bytes) refl
      where
        next : RunState
        next = runs.render s bs

        by_room : (b : Bool) → nat_le (length bs) rooms.bytes ≡ b → Ends start s.steps (if b then exec given g.statements n (pc + 1) (runs.render s bs) else Aborted OutFull)
        by_room false full = tt
        by_room true room =
            let m1 = with_bytes (with_code (one_made m) (message_code g.answer bs)) bs in
            later start s.steps (exec given g.statements n (pc + 1) (runs.render s bs))
            (ih (pc + 1) (runs.render s bs) m1
            (record {
              registers = t.registers;
              made = omega (arith, t.made);
              words = t.words;
              out = t.out;
              out_room = t.out_room;
              byte_room = t.byte_room;
              log = t.log;
              log_room = t.log_room;
              input = λ e. t.input (render_parsed s.stage begun);
              done = λ e. (refl, refl);
              answers = t.answers;
            })
            (goes_on start s (runs.render s bs) m m1 pc (pc + 1) Render t at is
            (bytes_end pc (one_made m) bs (ap g.rendered t.out ∙ out) (ap (nat_le (length bs)) t.byte_room ∙ room))
            (ap (λ b. only b finished) begun) refl))

    halts_here : (pc : ℕ) (s : RunState) (m : Machine) → s.stage ≡ finished → Tied s m → Stands start s m pc → slice_get g.statements pc ≡ Some Halt → Ends start s.steps (Ended (tick s))
    halts_here pc s m stage t at is = (
      omega arith,
      λ le. (
        one_made m,
        one_more start s m pc Halt (record { machine = one_made m; outcome = Halted }) t at is refl (omega (arith, le)),
        one_stage start s m pc Halt finished at is (ap (λ n. only (n == finished) finished) stage) (omega (arith, le)),
        tied_tick s m t,
      ),
    )

    -- one statement, and the rest

    tie_at : (n pc : ℕ) (s : RunState) (m : Machine) (o : Option Stmt) → Tie n → Tied s m → Stands start s m pc → slice_get g.statements pc ≡ o → Ends start s.steps (act given o (exec given g.statements n) pc s)
    tie_at n pc s m None ih t at is = tt
    tie_at n pc s m (Some (Const to number)) ih t at is = writes n pc s m (Const to number) to number number ih t at is (fine pc _ is) refl refl refl
    tie_at n pc s m (Some (Move to from)) ih t at is =
        let r = fine pc _ is in
        writes n pc s m (Move to from) to (s.regs from) (register m from) ih t at is r.0 (same_register s m from t r.1) refl refl
    tie_at n pc s m (Some (Add to left right)) ih t at is =
        let r = fine pc _ is in
        writes n pc s m (Add to left right) to ((s.regs left + s.regs right) % 2 ^ 64) ((register m left + register m right) % 2 ^ 64) ih t at is r.0
        (ap (λ a. (a + register m right) % 2 ^ 64) (same_register s m left t r.1) ∙ ap (λ b. (s.regs left + b) % 2 ^ 64) (same_register s m right t r.2)) refl refl
    tie_at n pc s m (Some (Sub to left right)) ih t at is =
        let r = fine pc _ is in
        writes n pc s m (Sub to left right) to ((s.regs left + 2 ^ 64 - s.regs right) % 2 ^ 64) ((register m left + 2 ^ 64 - register m right) % 2 ^ 64) ih t at is r.0
        (ap (λ a. (a + 2 ^ 64 - register m right) % 2 ^ 64) (same_register s m left t r.1) ∙ ap (λ b. (s.regs left + 2 ^ 64 - b) % 2 ^ 64) (same_register s m right t r.2)) refl refl
    tie_at n pc s m (Some (Input to index)) ih t at is =
        let r = fine pc _ is in
        staged (is_parsed s.stage) _ s.steps (λ begun. inputs n pc s m to index (slice_get p.words (s.regs index)) begun ih t at is r.0 r.1 refl)
    tie_at n pc s m (Some (Load to address)) ih t at is =
        let r = fine pc _ is in
        loads n pc s m to address (slice_get s.words (s.regs address)) ih t at is r.0 r.1 refl
    tie_at n pc s m (Some (Store address from)) ih t at is =
        let r = fine pc _ is in
        stores n pc s m address from (slice_get s.words (s.regs address)) ih t at is r.0 r.1 refl
    tie_at n pc s m (Some (Emit from)) ih t at is =
        staged (is_open s.stage) _ s.steps (λ begun. emits n pc s m from (nat_lt (length s.out) rooms.output) begun ih t at is (fine pc _ is) refl)
    tie_at n pc s m (Some (Jump offset)) ih t at is = moves n pc (target pc offset) s m (Jump offset) ih t at is refl refl
    tie_at n pc s m (Some (JumpEq left right offset)) ih t at is =
        let r = fine pc _ is in
        jumps n pc (target pc offset) s m (JumpEq left right offset) (nat_eq (s.regs left) (s.regs right)) (register m left == register m right) ih t at is
        (ap (λ a. a == register m right) (same_register s m left t r.0) ∙ ap (λ b. s.regs left == b) (same_register s m right t r.1)) refl refl
    tie_at n pc s m (Some (JumpLt left right offset)) ih t at is =
        let r = fine pc _ is in
        jumps n pc (target pc offset) s m (JumpLt left right offset) (nat_lt (s.regs left) (s.regs right)) (nat_lt (register m left) (register m right)) ih t at is
        (ap (λ a. nat_lt a (register m right)) (same_register s m left t r.0) ∙ ap (λ b. nat_lt (s.regs left) b) (same_register s m right t r.1)) refl refl
    tie_at n pc s m (Some (Now to)) ih t at is =
        staged (nat_eq s.stage 1) _ s.steps (λ stage. times n pc s m to (eqb-true s.stage parsed stage) ih t at is (fine pc _ is))
    tie_at n pc s m (Some (Alloc to moment)) ih t at is =
        let r = fine pc _ is in
        staged (nat_eq s.stage timed) _ s.steps (λ stage. slots n pc s m to moment (is_admissible g s.words (s.regs moment) (slot s.words (s.regs moment))) (eqb-true s.stage timed stage) ih t at is r.0 r.1 refl)
    tie_at n pc s m (Some Parse) ih t at is = staged (nat_eq s.stage 0) _ s.steps (λ stage. parses n pc s m (eqb-true s.stage unparsed stage) ih t at is)
    tie_at n pc s m (Some Render) ih t at is = staged (may_render s.stage) _ s.steps (λ begun. renders n pc s m (g.rendered s.out) begun ih t at is refl)
    tie_at n pc s m (Some Halt) ih t at is = staged (nat_eq s.stage finished) _ s.steps (λ stage. halts_here pc s m (eqb-true s.stage finished stage) t at is)

    -- the end of the run is the end of so many honest steps of the pass
    pub tie : (n : ℕ) → Tie n
    tie zero pc s m t at = tt
    tie (suc n) pc s m t at = tie_at n pc s m (slice_get g.statements pc) (tie n) t at refl
