-- Each question of a statement weighs 1.
use Rattle.std.proofs.Common.{◌≡◌, ℕ, Bool, true, false, List, [], ◌∷◌, ◌++◌, Option, Some, None, length, slice_get, refl, arith}
use Rattle.std.specs.Prelude.{is_some, ◌==◌, nat_le}
use Rattle.sei_code.specs.Coded.{read_of}
use Rattle.sei_code.specs.Codes.{message_code}
use Rattle.sei_code.specs.Kept.{has_room}
use Rattle.sei_code.specs.declared.coded.Coded.{Coded}
use Rattle.sei_fault.specs.Question.{Question, Answer, honestly_to}
use Rattle.sei_fault.specs.Tree.{Tree, questions}
use Rattle.sei_fault.specs.Tree.Tree.{Ask}
use Rattle.sei_fault.specs.Weights.{weight, weighed}
use Rattle.sei_stmt.specs.declared.stmt.Stmt.{Stmt}
use Rattle.sei_stmt.specs.declared.stmt.Stmt.TheVariants.{Input, Load, Store, Emit, Now, Alloc, Parse, Render}
use Rattle.sei_stmt.specs.Handling.{parsed_words}
use Rattle.sei_stmt.specs.Machine.{Machine, Setting, After, register, with_input, with_code, one_made}
use Rattle.sei_stmt.specs.Slots.{is_admissible}
use Rattle.sei_stmt.specs.Statements.{read_word, store_if, same_if, store_word, emit_if, noted_value, noted_now, now_by, fit_if, noted_slot_value, noted_slot, alloc_by, is_lent, parse_first, bucket_if, call_if, intact_if, store_bytes, render_if, render_bytes, render_words, statement_tree, step_tree}
use Rattle.sei_stmt.proofs.PublicStatementEnds.{by_statement}

record IsFull (t : Tree After) : Type 0 where
  same : weighed t ≡ questions t

asking : {q : Question} {f : Answer q → Tree After} → weight q ≡ 1 → IsFull (f (honestly_to q)) → IsFull (Ask q f)
asking w r = record { same = omega (arith, w, r.same) }

module _ (g : Setting) (i : ℕ) where
  reads : (m : Machine) (to a : ℕ) (word : Option ℕ) → IsFull (read_word i m to a word)
  reads m to a None = record { same = refl }
  reads m to a (Some word) = record { same = refl }

  roomy : (m : Machine) (a was v : ℕ) (room : Bool) → IsFull (store_if room i m a was v)
  roomy m a was v true = record { same = refl }
  roomy m a was v false = record { same = refl }

  tested : (m : Machine) (a was v : ℕ) (same : Bool) → IsFull (same_if same i m a was v)
  tested m a was v true = record { same = refl }
  tested m a was v false = roomy m a was v (has_room m.log)

  stores : (m : Machine) (from a : ℕ) (o : Option ℕ) → IsFull (store_word i m from a o)
  stores m from a None = record { same = refl }
  stores m from a (Some word) = asking refl (asking refl (asking refl (tested m a word (register m from) (word == register m from))))

  emits : (m : Machine) (from : ℕ) (room : Bool) → IsFull (emit_if room i m from)
  emits m from true = record { same = refl }
  emits m from false = record { same = refl }

  values : (m : Machine) (to : ℕ) (o : Option ℕ) → IsFull (noted_value i m to o)
  values m to None = record { same = refl }
  values m to (Some n) = record { same = refl }

  notes : (m : Machine) (to : ℕ) (note : Option Coded) → IsFull (noted_now i m to note)
  notes m to None = record { same = refl }
  notes m to (Some note) = values m to (read_of note)

  times : (m : Machine) (to : ℕ) (reading : Bool) → IsFull (now_by reading g i m to)
  times m to true = notes m to m.notes.now
  times m to false = record { same = refl }

  fits : (m : Machine) (to slot : ℕ) (fit : Bool) → IsFull (fit_if fit i m to slot)
  fits m to slot true = record { same = refl }
  fits m to slot false = record { same = refl }

  slots : (m : Machine) (to moment : ℕ) (o : Option ℕ) → IsFull (noted_slot_value g i m to moment o)
  slots m to moment None = record { same = refl }
  slots m to moment (Some slot) = asking refl (fits m to slot (is_admissible g m.words moment slot))

  noted : (m : Machine) (to moment : ℕ) (note : Option Coded) → IsFull (noted_slot g i m to moment note)
  noted m to moment None = record { same = refl }
  noted m to moment (Some note) = slots m to moment (read_of note)

  allocs : (m : Machine) (to moment : ℕ) (reading : Bool) → IsFull (alloc_by reading g i m to moment)
  allocs m to moment true = noted m to moment m.notes.slot
  allocs m to moment false = record { same = refl }

  firsts : (m : Machine) (items : List ℕ) → IsFull (parse_first i m items)
  firsts m [] = record { same = refl }
  firsts m (word ∷ words) = record { same = refl }

  buckets : (m : Machine) (lent : Bool) → IsFull (bucket_if lent i m)
  buckets m true = firsts m m.input.items
  buckets m false = record { same = refl }

  calls : (m : Machine) (found : Bool) → IsFull (call_if found g i m)
  calls m true = asking refl (buckets m (is_lent g.lent g.parsed))
  calls m false = record { same = refl }

  parses : (m : Machine) (intact : Bool) → IsFull (intact_if intact g i m)
  parses m true = asking refl (calls (with_input m (parsed_words g.parsed)) (is_some g.parsed))
  parses m false = record { same = refl }

  bytes_stored : (m : Machine) (bytes : List ℕ) → IsFull (store_bytes i m bytes)
  bytes_stored m [] = record { same = refl }
  bytes_stored m (byte ∷ bytes) = record { same = refl }

  bytes_fit : (m : Machine) (bytes : List ℕ) (fit : Bool) → IsFull (render_if fit g i m bytes)
  bytes_fit m bytes true = bytes_stored (with_code m (message_code g.answer bytes)) bytes
  bytes_fit m bytes false = record { same = refl }

  bytes_made : (m : Machine) (o : Option (List ℕ)) → IsFull (render_bytes g i m o)
  bytes_made m None = record { same = refl }
  bytes_made m (Some bytes) = bytes_fit m bytes (nat_le (length bytes) m.bytes.room)

  renders : (m : Machine) (read words : List ℕ) → IsFull (render_words g i m read words)
  renders m read [] = bytes_made m (g.rendered read)
  renders m read (word ∷ words) = asking refl (renders m (read ++ word ∷ []) words)

  statements : (m : Machine) (s : Stmt) → IsFull (statement_tree g i m s)
  statements m (Input to index) = asking refl (reads m to (register m index) (slice_get m.input.items (register m index)))
  statements m (Load to address) = asking refl (reads m to (register m address) (slice_get m.words (register m address)))
  statements m (Store address from) = asking refl (stores m from (register m address) (slice_get m.words (register m address)))
  statements m (Emit from) = emits m from (has_room m.output)
  statements m (Now to) = times m to g.reading
  statements m (Alloc to moment) = asking refl (allocs m to (register m moment) g.reading)
  statements m Parse = asking refl (parses m g.intact)
  statements m Render = renders m [] m.output.items
  statements m s = record { same = refl }

-- so a step asks as many questions as its questions weigh
pub weighs_all : (g : Setting) (i : ℕ) (m : Machine) → weighed (step_tree g i m) ≡ questions (step_tree g i m)
weighs_all g i m = (by_statement g i m (λ t. IsFull t) (λ cause. record { same = refl }) (λ s e b. statements g i (one_made m) s)).same
