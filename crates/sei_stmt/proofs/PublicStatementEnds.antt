-- What every end of a statement keeps, whatever is answered. Here alone the trees of all statements are gone through.
use Rattle.std.proofs.Common.{◌≡◌, ◌⊎◌, inl, inr, ℕ, zero, suc, ◌%◌, ◌^◌, ◌<◌, ◌≤◌, Bool, true, false, List, [], ◌∷◌, ◌++◌, length, Option, Some, None, slice_get, refl, arith}
use Rattle.std.proofs.lemmas.Bool.{leb-true}
use Rattle.std.specs.Prelude.{⊤, nat_lt, nat_le}
use Rattle.sei_code.specs.Codes.{message_code}
use Rattle.sei_code.specs.Coded.{sealed, read_of}
use Rattle.sei_code.specs.Kept.{has_room}
use Rattle.sei_code.specs.declared.coded.Coded.{Coded}
use Rattle.sei_fault.specs.Tree.{Tree, honest, Always}
use Rattle.sei_fault.specs.declared.cause.AbortCause.{AbortCause}
use Rattle.sei_fault.specs.declared.cause.AbortCause.TheVariants.{Budget, Table}
use Rattle.sei_log.specs.Changes.{change_of}
use Rattle.sei_log.specs.declared.log.Change.{Change}
use Rattle.sei_stmt.specs.declared.stmt.Stmt.{Stmt}
use Rattle.sei_stmt.specs.declared.stmt.Stmt.TheVariants.{Const, Move, Add, Sub, Input, Load, Store, Emit, Jump, JumpEq, JumpLt, Now, Alloc, Parse, Render, Halt}
use Rattle.sei_stmt.specs.Handling.{parsed_words}
use Rattle.sei_stmt.specs.Honest.{after, onward_from}
use Rattle.sei_stmt.specs.Machine.{Machine, Setting, Outcome, After, with_register, with_input, emitted, with_bytes, with_code, one_made, stored, note_time, note_slot, ends, assign}
use Rattle.sei_stmt.specs.Machine.Outcome.{Next, Halted, Bad}
use Rattle.sei_stmt.specs.Slots.{lowest_free}
use Rattle.sei_stmt.specs.Statements.{read_word, store_if, same_if, store_word, emit_if, noted_value, noted_now, now_by, fit_if, noted_slot_value, noted_slot, alloc_by, parse_first, bucket_if, call_if, intact_if, store_bytes, render_if, render_bytes, render_words, statement_tree, count_if, found_tree, step_tree}

-- Statements that change what others leave.

abbrev pub IsStore : Stmt → Type 0
IsStore (Store address from) = ⊤
IsStore s = ⊥

abbrev pub IsNow : Stmt → Type 0
IsNow (Now to) = ⊤
IsNow s = ⊥

abbrev pub IsAlloc : Stmt → Type 0
IsAlloc (Alloc to moment) = ⊤
IsAlloc s = ⊥

abbrev pub IsRender : Stmt → Type 0
IsRender Render = ⊤
IsRender s = ⊥

pub store_or_not : (s : Stmt) → ((address : ℕ) × (from : ℕ) × (s ≡ Store address from)) ⊎ (IsStore s → ⊥)
store_or_not (Store address from) = inl (address, from, refl)
store_or_not s = inr (λ h. h)

pub now_or_not : (s : Stmt) → ((to : ℕ) × (s ≡ Now to)) ⊎ (IsNow s → ⊥)
now_or_not (Now to) = inl (to, refl)
now_or_not s = inr (λ h. h)

-- P is kept in each way in which this statement may change a machine in this setting. What is logged, noted and written may
-- be anything
pub record IsKeptBy (g : Setting) (s : Stmt) (P : Machine → Type 0) : Type 0 where
  pub assigned : (m : Machine) (to w : ℕ) → P m → P (with_register m to w)
  -- a word is written at an address at which one stands, and an entry is logged
  pub logged : IsStore s → (m : Machine) (a was w : ℕ) (entry : Change) → slice_get m.words a ≡ Some was → has_room m.log ≡ true → P m → P (stored m a entry w)
  pub emits : (m : Machine) (w : ℕ) → has_room m.output ≡ true → P m → P (emitted m w)
  pub timed : IsNow s → g.reading ≡ false → (m : Machine) (note : Coded) → P m → P (note_time m note)
  pub slotted : IsAlloc s → g.reading ≡ false → (m : Machine) (note : Coded) → P m → P (note_slot m note)
  -- the input words are those of the sealed call, and then the first of them is another word
  pub filled : (m : Machine) → P m → P (with_input m (parsed_words g.parsed))
  pub first : (m : Machine) (word w : ℕ) (words : List ℕ) → m.input.items ≡ word ∷ words → P m → P (with_input m (w ∷ words))
  -- the output code is made, and the output bytes are none, or these
  pub coded : IsRender s → (m : Machine) (code : ℕ) → P m → P (with_code m code)
  pub emptied : IsRender s → (m : Machine) → P m → P (with_bytes m [])
  pub rendered : IsRender s → (m : Machine) (byte : ℕ) (bytes : List ℕ) → byte < 256 → length (byte ∷ bytes) ≤ m.bytes.room → P m → P (with_bytes m (byte ∷ bytes))

-- what holds of the machine at an end
abbrev Holds : (Machine → Type 0) → After → Type 0
Holds P x = P x.machine

module _ (g : Setting) (s : Stmt) (P : Machine → Type 0) (k : IsKeptBy g s P) (i : ℕ) where
  assigns : (m : Machine) (to v : ℕ) → P m → Always (Holds P) (assign i m to v)
  assigns m to v h = λ w. k.assigned m to w h

  reads : (m : Machine) (to a : ℕ) (word : Option ℕ) → P m → Always (Holds P) (read_word i m to a word)
  reads m to a None h = h
  reads m to a (Some word) h = λ v. assigns m to v h

  roomy : (m : Machine) (a was word v : ℕ) (room : Bool) → slice_get m.words a ≡ Some word → has_room m.log ≡ room → IsStore s → P m → Always (Holds P) (store_if room i m a was v)
  roomy m a was word v true e r is h = λ w. k.logged is m a word w (change_of a was v) e r h
  roomy m a was word v false e r is h = h

  tested : (m : Machine) (a was word v : ℕ) (same : Bool) → slice_get m.words a ≡ Some word → IsStore s → P m → Always (Holds P) (same_if same i m a was v)
  tested m a was word v true e is h = h
  tested m a was word v false e is h = roomy m a was word v (has_room m.log) e refl is h

  stores : (m : Machine) (from a : ℕ) (o : Option ℕ) → slice_get m.words a ≡ o → IsStore s → P m → Always (Holds P) (store_word i m from a o)
  stores m from a None e is h = h
  stores m from a (Some word) e is h = λ v was same. tested m a was word v same e is h

  emit : (m : Machine) (from : ℕ) (room : Bool) → has_room m.output ≡ room → P m → Always (Holds P) (emit_if room i m from)
  emit m from true r h = λ v w. k.emits m w r h
  emit m from false r h = h

  noted_values : (m : Machine) (to : ℕ) (o : Option ℕ) → P m → Always (Holds P) (noted_value i m to o)
  noted_values m to None h = h
  noted_values m to (Some n) h = λ v. assigns m to v h

  noted_times : (m : Machine) (to : ℕ) (o : Option Coded) → P m → Always (Holds P) (noted_now i m to o)
  noted_times m to None h = h
  noted_times m to (Some note) h = noted_values m to (read_of note) h

  times : (m : Machine) (to : ℕ) (reading : Bool) → g.reading ≡ reading → IsNow s → P m → Always (Holds P) (now_by reading g i m to)
  times m to true r is h = noted_times m to m.notes.now h
  times m to false r is h = λ v. assigns (note_time m (sealed g.now)) to v (k.timed is r m (sealed g.now) h)

  fits : (m : Machine) (to slot : ℕ) (fit : Bool) → P m → Always (Holds P) (fit_if fit i m to slot)
  fits m to slot true h = λ v. assigns m to v h
  fits m to slot false h = h

  slot_values : (m : Machine) (to moment : ℕ) (o : Option ℕ) → P m → Always (Holds P) (noted_slot_value g i m to moment o)
  slot_values m to moment None h = h
  slot_values m to moment (Some slot) h = λ fit. fits m to slot fit h

  noted_slots : (m : Machine) (to moment : ℕ) (o : Option Coded) → P m → Always (Holds P) (noted_slot g i m to moment o)
  noted_slots m to moment None h = h
  noted_slots m to moment (Some note) h = slot_values m to moment (read_of note) h

  allocs : (m : Machine) (to moment : ℕ) (reading : Bool) → g.reading ≡ reading → IsAlloc s → P m → Always (Holds P) (alloc_by reading g i m to moment)
  allocs m to moment true r is h = noted_slots m to moment m.notes.slot h
  allocs m to moment false r is h =
      let note = sealed (lowest_free g m.words moment) in
      λ v. assigns (note_slot m note) to v (k.slotted is r m note h)

  firsts : (m : Machine) (items : List ℕ) → m.input.items ≡ items → P m → Always (Holds P) (parse_first i m items)
  firsts m [] e h = h
  firsts m (word ∷ words) e h = λ w. k.first m word w words e h

  buckets : (m : Machine) (lent : Bool) → P m → Always (Holds P) (bucket_if lent i m)
  buckets m true h = firsts m m.input.items refl h
  buckets m false h = h

  calls : (m : Machine) (there : Bool) → P m → Always (Holds P) (call_if there g i m)
  calls m true h = λ lent. buckets m lent h
  calls m false h = h

  parses : (m : Machine) (intact : Bool) → P m → Always (Holds P) (intact_if intact g i m)
  parses m true h = λ there. calls (with_input m (parsed_words g.parsed)) there (k.filled m h)
  parses m false h = h

  bytes_stored : (m : Machine) (bytes : List ℕ) → length bytes ≤ m.bytes.room → IsRender s → P m → Always (Holds P) (store_bytes i m bytes)
  bytes_stored m [] fits is h = k.emptied is m h
  bytes_stored m (byte ∷ bytes) fits is h = λ w. k.rendered is m (w % 2 ^ 8) bytes (omega arith) fits h

  bytes_fit : (m : Machine) (bytes : List ℕ) (fits : Bool) → nat_le (length bytes) m.bytes.room ≡ fits → IsRender s → P m → Always (Holds P) (render_if fits g i m bytes)
  bytes_fit m bytes true e is h =
      let code = message_code g.answer bytes in
      bytes_stored (with_code m code) bytes (leb-true (length bytes) m.bytes.room e) is (k.coded is m code h)
  bytes_fit m bytes false e is h = k.emptied is m h

  bytes_made : (m : Machine) (o : Option (List ℕ)) → IsRender s → P m → Always (Holds P) (render_bytes g i m o)
  bytes_made m None is h = k.emptied is m h
  bytes_made m (Some bytes) is h = bytes_fit m bytes (nat_le (length bytes) m.bytes.room) refl is h

  renders : (m : Machine) (read words : List ℕ) → IsRender s → P m → Always (Holds P) (render_words g i m read words)
  renders m read [] is h = bytes_made m (g.rendered read) is h
  renders m read (word ∷ words) is h = λ v. renders m (read ++ v ∷ []) words is h

-- each end of a statement keeps what each of its changes keeps
pub statement_keeps : (g : Setting) (s : Stmt) (P : Machine → Type 0) → IsKeptBy g s P → (i : ℕ) (m : Machine) → P m → Always (λ x. P x.machine) (statement_tree g i m s)
statement_keeps g (Const to number) P k i m h = λ w. k.assigned m to w h
statement_keeps g (Move to from) P k i m h = λ v w. k.assigned m to w h
statement_keeps g (Add to left right) P k i m h = λ a b w. k.assigned m to w h
statement_keeps g (Sub to left right) P k i m h = λ a b w. k.assigned m to w h
statement_keeps g (Input to index) P k i m h = λ a. reads g _ P k i m to a (slice_get m.input.items a) h
statement_keeps g (Load to address) P k i m h = λ a. reads g _ P k i m to a (slice_get m.words a) h
statement_keeps g (Store address from) P k i m h = λ a. stores g _ P k i m from a (slice_get m.words a) refl tt h
statement_keeps g (Emit from) P k i m h = emit g _ P k i m from (has_room m.output) refl h
statement_keeps g (Jump offset) P k i m h = h
statement_keeps g (JumpEq left right offset) P k i m h = λ a b yes. h
statement_keeps g (JumpLt left right offset) P k i m h = λ a b yes. h
statement_keeps g (Now to) P k i m h = times g _ P k i m to g.reading refl tt h
statement_keeps g (Alloc to moment) P k i m h = λ t. allocs g _ P k i m to t g.reading refl tt h
statement_keeps g Parse P k i m h = λ intact. parses g _ P k i m intact h
statement_keeps g Render P k i m h = renders g _ P k i m [] m.output.items tt h
statement_keeps g Halt P k i m h = h

-- A step aborts with the machine as it is, or counts a statement and makes it.

step_counts : (g : Setting) (i : ℕ) (m : Machine) (s : Stmt) (T : Tree After → Type 0) (enough : Bool) → nat_lt m.made g.budget ≡ enough → T (ends m (Bad Budget)) →
    (nat_lt m.made g.budget ≡ true → T (statement_tree g i (one_made m) s)) → T (count_if enough g i m s)
step_counts g i m s T true e bad made = made e
step_counts g i m s T false e bad made = bad

step_found : (g : Setting) (i : ℕ) (m : Machine) (T : Tree After → Type 0) (o : Option Stmt) → slice_get g.statements i ≡ o → ((cause : AbortCause) → T (ends m (Bad cause))) →
    ((s : Stmt) → slice_get g.statements i ≡ Some s → nat_lt m.made g.budget ≡ true → T (statement_tree g i (one_made m) s)) → T (found_tree g i m o)
step_found g i m T None e bad made = bad (Table i)
step_found g i m T (Some s) e bad made = step_counts g i m s T (nat_lt m.made g.budget) refl (bad Budget) (made s e)

-- so whatever holds of those trees, holds of a step
pub by_statement : (g : Setting) (i : ℕ) (m : Machine) (T : Tree After → Type 0) → ((cause : AbortCause) → T (ends m (Bad cause))) →
    ((s : Stmt) → slice_get g.statements i ≡ Some s → nat_lt m.made g.budget ≡ true → T (statement_tree g i (one_made m) s)) → T (step_tree g i m)
by_statement g i m T bad made = step_found g i m T (slice_get g.statements i) refl bad made

-- each end of a step keeps what all statements keep, and the count of one statement more
pub step_keeps : (g : Setting) (P : Machine → Type 0) → ((s : Stmt) → IsKeptBy g s P) → ((m : Machine) → P m → P (one_made m)) → (i : ℕ) (m : Machine) → P m → Always (λ x. P x.machine) (step_tree g i m)
step_keeps g P kept counted i m h = by_statement g i m (Always (λ x. P x.machine)) (λ cause. h) (λ s e b. statement_keeps g s P (kept s) i (one_made m) (counted m h))

-- What is kept along an honest run.

onward_holds : (g : Setting) (P : Machine → Type 0) → ((i : ℕ) (m : Machine) → P m → P (honest (step_tree g i m)).machine) → (m : Machine) (o : Outcome) → P m → P (onward_from g m o).machine
onward_holds g P step m (Next i) h = step i m h
onward_holds g P step m Halted h = h
onward_holds g P step m (Bad cause) h = h

-- what holds at the start and is kept by each honest step holds all along
pub all_along : (g : Setting) (P : Machine → Type 0) → ((i : ℕ) (m : Machine) → P m → P (honest (step_tree g i m)).machine) → (start : Machine) → P start → (n : ℕ) → P (after g start n).machine
all_along g P step start h zero = h
all_along g P step start h (suc n) = onward_holds g P step (after g start n).machine (after g start n).outcome (all_along g P step start h n)
