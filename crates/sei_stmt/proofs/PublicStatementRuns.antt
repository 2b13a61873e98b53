-- An honest statement does the same with another log and other notes, in either pass and at any time, unless it looks at
-- them. Here alone the trees of all statements are compared.
use Rattle.std.proofs.Common.{◌≡◌, ℕ, ◌+◌, Bool, true, false, List, [], ◌∷◌, ◌++◌, Option, Some, None, length, slice_get, refl, ap}
use Rattle.std.specs.Prelude.{⊤, is_some, ◌==◌, nat_lt, nat_le}
use Rattle.sei_code.specs.Kept.{Kept, has_room}
use Rattle.sei_fault.specs.Question.{Question, Answer, honestly_to}
use Rattle.sei_fault.specs.Tree.{Tree, honest}
use Rattle.sei_fault.specs.Weights.{weight, weighed}
use Rattle.sei_fault.specs.Tree.Tree.{Ask}
use Rattle.sei_fault.specs.declared.cause.AbortCause.{AbortCause}
use Rattle.sei_fault.specs.declared.cause.AbortCause.TheVariants.{Budget, Table}
use Rattle.sei_log.specs.declared.log.Change.{Change}
use Rattle.sei_log.specs.declared.notes.Notes.{Notes}
use Rattle.sei_stmt.specs.declared.stmt.Stmt.{Stmt}
use Rattle.sei_stmt.specs.declared.stmt.Stmt.TheVariants.{Input, Load, Store, Emit, Now, Alloc, Parse, Render}
use Rattle.sei_stmt.specs.Handling.{parsed_words}
use Rattle.sei_stmt.specs.Machine.{Machine, Setting, Outcome, After, register, with_input, with_code, one_made, with_log, with_notes, at_outcome, ends}
use Rattle.sei_stmt.specs.Machine.Outcome.{Bad}
use Rattle.sei_stmt.specs.Statements.{read_word, store_if, same_if, store_word, store_tree, emit_if, is_lent, parse_first, bucket_if, call_if, intact_if, store_bytes, render_if, render_bytes, render_words, statement_tree, count_if, found_tree, step_tree}
use Rattle.sei_stmt.proofs.PublicStatementEnds.{IsStore}

-- a statement stores, takes the time or a slot, or looks at neither log nor notes

abbrev pub IsPlain : Stmt → Type 0
IsPlain (Store address from) = ⊥
IsPlain (Now to) = ⊥
IsPlain (Alloc to moment) = ⊥
IsPlain s = ⊤

pub data Looks (s : Stmt) : Type 0 where
  Stores : (address from : ℕ) → s ≡ Store address from → Looks s
  Times : (to : ℕ) → s ≡ Now to → Looks s
  Slots : (to moment : ℕ) → s ≡ Alloc to moment → Looks s
  Neither : IsPlain s → Looks s

pub looks : (s : Stmt) → Looks s
looks (Store address from) = Stores address from refl
looks (Now to) = Times to refl
looks (Alloc to moment) = Slots to moment refl
looks s = Neither tt

pub plain_is_no_store : (s : Stmt) → IsPlain s → IsStore s → ⊥
plain_is_no_store (Store address from) p is = p
plain_is_no_store s p is = is

-- one piece of work ends honestly as another but for a part of the machine, its questions weigh as much, and the first leaves
-- these notes
pub record Repeats (part : Machine → Machine) (notes : Notes) (first second : Tree After) : Type 0 where
  pub ended : honest second ≡ at_outcome (part (honest first).machine) (honest first).outcome
  pub asked : weighed second ≡ weighed first
  pub left : (honest first).machine.notes ≡ notes

asking : (part : Machine → Machine) (notes : Notes) {q : Question} {f s : Answer q → Tree After} → Repeats part notes (f (honestly_to q)) (s (honestly_to q)) → Repeats part notes (Ask q f) (Ask q s)
asking part notes {q} r = record { ended = r.ended; asked = ap (λ n. weight q + n) r.asked; left = r.left }

ended : (part : Machine → Machine) (m : Machine) (o : Outcome) → Repeats part m.notes (ends m o) (ends (part m) o)
ended part m o = record { ended = refl; asked = refl; left = refl }

-- another log and other notes, by what they are
abbrev pub parted : (Kept Change → Kept Change) → (Notes → Notes) → Machine → Machine
parted log notes m = with_notes (with_log m (log m.log)) (notes m.notes)

-- another pass, at another time
abbrev pub in_pass : Bool → ℕ → Setting → Setting
in_pass reading now g = record g { reading = reading; now = now }

module _ (reading : Bool) (now : ℕ) (log : Kept Change → Kept Change) (notes : Notes → Notes) (g : Setting) (i : ℕ) where
  abbrev Both : Machine → Tree After → Tree After → Type 0
  Both m first second = Repeats (parted log notes) m.notes first second

  abbrev other : Machine → Machine
  other m = parted log notes m

  abbrev there : Setting
  there = in_pass reading now g

  reads : (m : Machine) (to a : ℕ) (word : Option ℕ) → Both m (read_word i m to a word) (read_word i (other m) to a word)
  reads m to a None = ended (parted log notes) m _
  reads m to a (Some word) = record { ended = refl; asked = refl; left = refl }

  emits : (m : Machine) (from : ℕ) (room : Bool) → Both m (emit_if room i m from) (emit_if room i (other m) from)
  emits m from true = record { ended = refl; asked = refl; left = refl }
  emits m from false = ended (parted log notes) m _

  firsts : (m : Machine) (items : List ℕ) → Both m (parse_first i m items) (parse_first i (other m) items)
  firsts m [] = ended (parted log notes) m _
  firsts m (word ∷ words) = record { ended = refl; asked = refl; left = refl }

  buckets : (m : Machine) (lent : Bool) → Both m (bucket_if lent i m) (bucket_if lent i (other m))
  buckets m true = firsts m m.input.items
  buckets m false = ended (parted log notes) m _

  calls : (m : Machine) (found : Bool) → Both m (call_if found g i m) (call_if found there i (other m))
  calls m true = asking (parted log notes) m.notes (buckets m (is_lent g.lent g.parsed))
  calls m false = ended (parted log notes) m _

  parses : (m : Machine) (intact : Bool) → Both m (intact_if intact g i m) (intact_if intact there i (other m))
  parses m true = asking (parted log notes) m.notes (calls (with_input m (parsed_words g.parsed)) (is_some g.parsed))
  parses m false = ended (parted log notes) m _

  bytes_stored : (m : Machine) (bytes : List ℕ) → Both m (store_bytes i m bytes) (store_bytes i (other m) bytes)
  bytes_stored m [] = record { ended = refl; asked = refl; left = refl }
  bytes_stored m (byte ∷ bytes) = record { ended = refl; asked = refl; left = refl }

  bytes_fit : (m : Machine) (bytes : List ℕ) (fits : Bool) → Both m (render_if fits g i m bytes) (render_if fits there i (other m) bytes)
  bytes_fit m bytes true = bytes_stored (with_code m _) bytes
  bytes_fit m bytes false = record { ended = refl; asked = refl; left = refl }

  bytes_made : (m : Machine) (o : Option (List ℕ)) → Both m (render_bytes g i m o) (render_bytes there i (other m) o)
  bytes_made m None = record { ended = refl; asked = refl; left = refl }
  bytes_made m (Some bytes) = bytes_fit m bytes (nat_le (length bytes) m.bytes.room)

  renders : (m : Machine) (read words : List ℕ) → Both m (render_words g i m read words) (render_words there i (other m) read words)
  renders m read [] = bytes_made m (g.rendered read)
  renders m read (word ∷ words) = asking (parted log notes) m.notes (renders m (read ++ word ∷ []) words)

  pub plain_repeats : (m : Machine) (s : Stmt) → IsPlain s → Repeats (parted log notes) m.notes (statement_tree g i m s) (statement_tree (in_pass reading now g) i (parted log notes m) s)
  plain_repeats m (Input to index) p = asking (parted log notes) m.notes (reads m to (register m index) (slice_get m.input.items (register m index)))
  plain_repeats m (Load to address) p = asking (parted log notes) m.notes (reads m to (register m address) (slice_get m.words (register m address)))
  plain_repeats m (Store address from) p = absurd p
  plain_repeats m (Emit from) p = emits m from (has_room m.output)
  plain_repeats m (Now to) p = absurd p
  plain_repeats m (Alloc to moment) p = absurd p
  plain_repeats m Parse p = asking (parted log notes) m.notes (parses m g.intact)
  plain_repeats m Render p = renders m [] m.output.items
  plain_repeats m s p = record { ended = refl; asked = refl; left = refl }

  -- and so two steps are one: they abort alike, or make the same statement
  by_count : (m : Machine) (s : Stmt) (T : Tree After → Tree After → Type 0) (enough : Bool) → ((cause : AbortCause) → T (ends m (Bad cause)) (ends (other m) (Bad cause))) →
      T (statement_tree g i (one_made m) s) (statement_tree there i (other (one_made m)) s) → T (count_if enough g i m s) (count_if enough there i (other m) s)
  by_count m s T true bad made = made
  by_count m s T false bad made = bad Budget

  by_found : (m : Machine) (T : Tree After → Tree After → Type 0) (o : Option Stmt) → slice_get g.statements i ≡ o → ((cause : AbortCause) → T (ends m (Bad cause)) (ends (other m) (Bad cause))) →
      ((s : Stmt) → slice_get g.statements i ≡ Some s → T (statement_tree g i (one_made m) s) (statement_tree there i (other (one_made m)) s)) → T (found_tree g i m o) (found_tree there i (other m) o)
  by_found m T None e bad made = bad (Table i)
  by_found m T (Some s) e bad made = by_count m s T (nat_lt m.made g.budget) bad (made s e)

  pub by_statements : (m : Machine) (T : Tree After → Tree After → Type 0) → ((cause : AbortCause) → T (ends m (Bad cause)) (ends (parted log notes m) (Bad cause))) →
      ((s : Stmt) → slice_get g.statements i ≡ Some s → T (statement_tree g i (one_made m) s) (statement_tree (in_pass reading now g) i (parted log notes (one_made m)) s)) →
      T (step_tree g i m) (step_tree (in_pass reading now g) i (parted log notes m))
  by_statements m T bad made = by_found m T (slice_get g.statements i) refl bad made

-- a store does the same with other notes

module _ (notes : Notes) (i : ℕ) (m : Machine) where
  abbrev noting : Machine → Machine
  noting y = with_notes y notes

  roomy : (a was v : ℕ) (room : Bool) → Repeats noting m.notes (store_if room i m a was v) (store_if room i (noting m) a was v)
  roomy a was v true = record { ended = refl; asked = refl; left = refl }
  roomy a was v false = ended noting m _

  tested : (a was v : ℕ) (same : Bool) → Repeats noting m.notes (same_if same i m a was v) (same_if same i (noting m) a was v)
  tested a was v true = ended noting m _
  tested a was v false = roomy a was v (has_room m.log)

  stores : (from a : ℕ) (o : Option ℕ) → Repeats noting m.notes (store_word i m from a o) (store_word i (noting m) from a o)
  stores from a None = ended noting m _
  stores from a (Some word) =
      asking noting m.notes (asking noting m.notes (asking noting m.notes (tested a word (register m from) (word == register m from))))

  pub store_repeats : (address from : ℕ) → Repeats (λ y. with_notes y notes) m.notes (store_tree i m address from) (store_tree i (with_notes m notes) address from)
  store_repeats address from = asking noting m.notes (stores from (register m address) (slice_get m.words (register m address)))
