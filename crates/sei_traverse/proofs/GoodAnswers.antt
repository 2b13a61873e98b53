-- An honest second pass on the words that were taken, that has halted, answers as an honest run by its noted time does.
use Rattle.std.proofs.Common.{◌≡◌, ◌⊎◌, inl, inr, ℕ, ◌+◌, ◌≤◌, Bool, true, false, List, Option, Some, None, ap, sym, ◌∙◌, arith, refl, subst}
use Rattle.std.specs.Prelude.{◌==◌, is_some, nat_lt, slice_get}
use Rattle.std.proofs.lemmas.Bool.{eqb-true}
use Rattle.sei_fault.specs.declared.cause.AbortCause.{AbortCause}
use Rattle.sei_fault.specs.Tree.{honest}
use Rattle.sei_stmt.specs.declared.stmt.Stmt.{Stmt}
use Rattle.sei_stmt.specs.declared.stmt.Stmt.TheVariants.{Parse}
use Rattle.sei_stmt.specs.Weights.{first_weighed}
use Rattle.sei_stmt.specs.Handling.{Parsed, parsed_words}
use Rattle.sei_stmt.specs.Honest.{after, HonestRun}
use Rattle.sei_stmt.specs.Machine.{Machine, Setting, Outcome, After, with_input, one_made}
use Rattle.sei_stmt.specs.Machine.Outcome.{Halted, Bad}
use Rattle.sei_stmt.specs.Passes.{notes_of}
use Rattle.sei_stmt.specs.Statements.{is_lent, bucket_if, call_if, intact_if, parse_tree, count_if, found_tree}
use Rattle.sei_stmt.proofs.Public.{halts_or_aborts}
use Rattle.sei_traverse.specs.declared.workspace.Workspace.{Workspace}
use Rattle.sei_traverse.specs.Comes.{renoted}
use Rattle.sei_traverse.specs.CallContext.{CallContext, given_in, first_start}
use Rattle.sei_pass.specs.declared.given.Which.TheVariants.{Reading}
use Rattle.sei_traverse.specs.PassActs.{machine_in}
use Rattle.sei_traverse.specs.Given.{call_of}
use Rattle.sei_traverse.specs.Struck.{IsNoted, IsHonestResult, ComesOn, setting_on, start_on}
use Rattle.sei_traverse.specs.Trusted.{PassesGuard, IsTrusted, second_setting}
use Rattle.sei_traverse.proofs.SmallNotes.{small_sealed}

-- A table that parses first.

-- the input is intact and has the sealed call, whose bucket is lent
pub record Passed (g : Setting) : Type 0 where
  pub intact : g.intact ≡ true
  pub parsed : is_some g.parsed ≡ true
  pub lent : is_lent g.lent g.parsed ≡ true

-- the step aborts
abbrev Stops : After → Type 0
Stops x = (cause : AbortCause) × (x.outcome ≡ Bad cause)

module _ (g : Setting) (i : ℕ) where
  parse_lent : (m : Machine) → g.intact ≡ true → is_some g.parsed ≡ true → (b : Bool) → is_lent g.lent g.parsed ≡ b →
      Passed g ⊎ Stops (honest (bucket_if b i m))
  parse_lent m intact parsed true h = inl (record { intact = intact; parsed = parsed; lent = h })
  parse_lent m intact parsed false h = inr (_, refl)

  parse_parsed : (m : Machine) → g.intact ≡ true → (b : Bool) → is_some g.parsed ≡ b →
      Passed g ⊎ Stops (honest (call_if b g i m))
  parse_parsed m intact true h = parse_lent m intact h (is_lent g.lent g.parsed) refl
  parse_parsed m intact false h = inr (_, refl)

  parse_intact : (m : Machine) (b : Bool) → g.intact ≡ b → Passed g ⊎ Stops (honest (intact_if b g i m))
  parse_intact m true h = parse_parsed (with_input m (parsed_words g.parsed)) h (is_some g.parsed) refl
  parse_intact m false h = inr (_, refl)

  -- Parse tests all three
  parse_passed : (m : Machine) → Passed g ⊎ Stops (honest (parse_tree g i m))
  parse_passed m = parse_intact m g.intact refl

  parse_counted : (m : Machine) (enough : Bool) → Passed g ⊎ Stops (honest (count_if enough g i m Parse))
  parse_counted m true = parse_passed (one_made m)
  parse_counted m false = inr (_, refl)

  parse_found : (m : Machine) (o : Option Stmt) → o ≡ Some Parse → Passed g ⊎ Stops (honest (found_tree g i m o))
  parse_found m o is =
      subst (λ (o : Option Stmt). Passed g ⊎ Stops (honest (found_tree g i m o))) (sym is)
      (parse_counted m (nat_lt m.made g.budget))

-- an honest run of such a table that halts has passed the three tests
pub halted_passed : (g : Setting) (start end : Machine) (n : ℕ) → slice_get g.statements 0 ≡ Some Parse → HonestRun g start end n → Passed g
halted_passed g start end n parses run =
    elim (parse_found g 0 start (slice_get g.statements 0) parses) [
      | inl passed ↦ passed
      | inr stops ↦ absurd (halts_or_aborts g start (after g start 1).machine end stops.0 1 n (stopped stops.0 stops.1) run.halts)
    ]
  where
    stopped : (cause : AbortCause) → (after g start 1).outcome ≡ Bad cause → after g start 1 ≡ record { machine = (after g start 1).machine; outcome = Bad cause }
    stopped cause is = ap (λ (o : Outcome). let x : After = record { machine = (after g start 1).machine; outcome = o } in x) is

-- What such a second pass knows.

some_of : {A : Type 0} (o : Option A) → is_some o ≡ true → (x : A) × (o ≡ Some x)
some_of None h = absurd (let z : ⊥ = cc in z)
some_of (Some x) h = (x, refl)

module _ (e : CallContext) (trusted : IsTrusted e) (w : Workspace) (passed : Passed (setting_on e w.wanted)) where
  has_call : (p : Parsed) × (call_of (given_in e) e.sealed ≡ Some p)
  has_call = some_of (call_of (given_in e) e.sealed) passed.parsed

  good_fit : PassesGuard e
  good_fit =
      let has = trusted.called_has has_call.0 has_call.1 in
      record { intact = passed.intact; has = has; called = trusted.has_called has }

  good_wanted : w.wanted ≡ e.call.bucket
  good_wanted =
      let lent : (w.wanted == e.call.bucket) ≡ true = sym (ap (λ (o : Option Parsed). is_lent (Some w.wanted) o) good_fit.called) ∙ passed.lent in
      eqb-true w.wanted e.call.bucket lent

-- the words and the output that it leaves are those of an honest run
pub good_answers : (e : CallContext) → IsTrusted e → (w : Workspace) (words : List ℕ) (asked n : ℕ) → IsNoted e w.notes.now → ComesOn e w e.taken words Halted n →
    first_weighed (setting_on e w.wanted) (start_on e e.taken w.notes) n + 1 ≤ asked → IsHonestResult e w words asked
good_answers e trusted w words asked n small comes asks =
    let passed = halted_passed (setting_on e w.wanted) (start_on e e.taken w.notes) (machine_in Reading w words) n trusted.parses (record { halts = comes }) in
    let fit : PassesGuard e = good_fit e trusted w passed in
    let wanted : w.wanted ≡ e.call.bucket = good_wanted e trusted w passed in
    let ends : HonestRun (second_setting e) (renoted w.notes (first_start e)) (machine_in Reading w words) n =
    subst (λ (b : ℕ). HonestRun (setting_on e b) (start_on e e.taken w.notes) (machine_in Reading w words) n) wanted (record { halts = comes }) in
    let asks_all : first_weighed (second_setting e) (renoted w.notes (first_start e)) n + 1 ≤ asked =
    subst (λ (b : ℕ). first_weighed (setting_on e b) (start_on e e.taken w.notes) n + 1 ≤ asked) wanted asks in
    let read = trusted.reads fit w.notes (machine_in Reading w words) n ends in
    let may = small_sealed e w.notes.now read.time read.noted small in
    record {
      aimed = record { fit = fit; wanted = wanted };
      time = read.time;
      slot = read.slot;
      end = renoted (notes_of read.time read.slot) (machine_in Reading w words);
      made = n;
      noted = read.noted;
      small = may.0;
      told = may.1;
      run = read.run;
      words_are = refl;
      reply = refl;
      questions = omega (arith, asks_all, read.asked);
    }
