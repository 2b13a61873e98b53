-- What the log of an honest run says: which words it leads to, what undoing it gives, and what else each step keeps.
use Rattle.std.proofs.Common.{◌≡◌, ◌≢◌, ℕ, zero, suc, ◌+◌, ◌-◌, ◌<◌, ◌≤◌, List, [], ◌∷◌, ◌++◌, length, Option, Some, None, ap, sym, ◌∙◌, arith, refl, subst}
use Rattle.std.specs.Prelude.{slice_get, slice_set}
use Rattle.std.proofs.lemmas.Option.{same_Some, slice_get_within}
use Rattle.sei_code.specs.Kept.{Kept}
use Rattle.sei_log.specs.Changes.{change_of}
use Rattle.sei_log.specs.declared.log.Change.{Change}
use Rattle.sei_fault.specs.declared.cause.AbortCause.{AbortCause}
use Rattle.sei_fault.specs.Tree.{honest}
use Rattle.sei_fault.proofs.Public.{always_honest}
use Rattle.sei_restore.specs.Undoing.{LeadsTo, undo_at, restored}
use Rattle.sei_restore.proofs.Public.{stays_inside}
use Rattle.sei_stmt.specs.declared.stmt.Stmt.{Stmt}
use Rattle.sei_stmt.specs.Machine.{Machine, Setting, After, one_made}
use Rattle.sei_stmt.specs.Handling.{parsed_words}
use Rattle.sei_stmt.specs.Honest.{after}
use Rattle.sei_stmt.specs.Sound.{RisesFrom}
use Rattle.sei_stmt.specs.Statements.{statement_tree, step_tree}
use Rattle.sei_stmt.proofs.Public.{HonestEffect, keeps_honest}
use Rattle.sei_stmt.proofs.PublicEffects.HonestEffect.{Left, Changed}
use Rattle.sei_stmt.proofs.PublicStatementEnds.{IsKeptBy, by_statement, step_keeps, all_along}
use Rattle.sei_pass.proofs.Public.{Keeps, keeps}

-- Words that a log leads to.

-- one change more at the end, whose old word is the one that stands there
pub leads_one : (before : List ℕ) (log : List Change) (words : List ℕ) (c : Change) → LeadsTo before log words → slice_get words c.address ≡ Some c.was
    → LeadsTo before (log ++ c ∷ []) (slice_set words c.address c.becomes)
leads_one before [] words c leads was =
    (ap (λ (l : List ℕ). slice_get l c.address) (sym leads) ∙ was, ap (λ (l : List ℕ). slice_set l c.address c.becomes) leads)
leads_one before (d ∷ rest) words c (there, more) was = (there, leads_one (slice_set before d.address d.becomes) rest words c more was)

set_here : (xs : List ℕ) (a v was : ℕ) → slice_get xs a ≡ Some was → slice_get (slice_set xs a v) a ≡ Some v
set_here [] a v was e = absurd cc
set_here (x ∷ xs) zero v was e = refl
set_here (x ∷ xs) (suc a) v was e = set_here xs a v was e

set_other : (xs : List ℕ) (a b v : ℕ) → b ≢ a → slice_get (slice_set xs a v) b ≡ slice_get xs b
set_other [] a b v ne = refl
set_other (x ∷ xs) zero zero v ne = absurd (ne refl)
set_other (x ∷ xs) zero (suc b) v ne = refl
set_other (x ∷ xs) (suc a) zero v ne = refl
set_other (x ∷ xs) (suc a) (suc b) v ne = let apart : b ≢ a = λ e. ne (ap suc e) in set_other xs a b v apart

-- where the addresses rise, no word below the first one changes
below_stays : (before : List ℕ) (log : List Change) (words : List ℕ) (lo a : ℕ) → LeadsTo before log words → RisesFrom lo log → a < lo
    → slice_get words a ≡ slice_get before a
below_stays before [] words lo a leads rises h = ap (λ (l : List ℕ). slice_get l a) leads
below_stays before (c ∷ rest) words lo a (was, more) (le, rises) h =
    let apart : a ≢ c.address = omega (arith, le, h) in
    below_stays (slice_set before c.address c.becomes) rest words (c.address + 1) a more rises (omega (arith, le, h))
    ∙ set_other before c.address a c.becomes apart

-- where the addresses of a log rise, each word that it changed is the new one of its entry
pub words_hold : (before : List ℕ) (log : List Change) (words : List ℕ) (lo i : ℕ) (c : Change) → LeadsTo before log words → RisesFrom lo log
    → slice_get log i ≡ Some c → slice_get words c.address ≡ Some c.becomes
words_hold before [] words lo i c leads rises e = absurd cc
words_hold before (d ∷ rest) words lo zero c (was, more) (le, rises) e =
    subst (λ (x : Change). slice_get words x.address ≡ Some x.becomes) (same_Some d c e)
    (below_stays (slice_set before d.address d.becomes) rest words (d.address + 1) d.address more rises (omega arith)
    ∙ set_here before d.address d.becomes d.was was)
words_hold before (d ∷ rest) words lo (suc i) c (was, more) (le, rises) e =
    words_hold (slice_set before d.address d.becomes) rest words (d.address + 1) i c more rises e

-- and there is a word at its address
pub verify_word : (before : List ℕ) (log : List Change) (words : List ℕ) (lo i : ℕ) (c : Change) → LeadsTo before log words → RisesFrom lo log
    → slice_get log i ≡ Some c → (slice_get words c.address ≡ Some c.becomes) × (c.address < length words)
verify_word before log words lo i c leads rises e =
    let holds = words_hold before log words lo i c leads rises e in
    (holds, slice_get_within words c.address c.becomes holds)

-- undoing the change at the next place, without a strike, gives the next words, and no cause
pub undo_step : (before : List ℕ) (log : List Change) (words : List ℕ) (n : ℕ) → LeadsTo before log words → n < length log
    → honest (undo_at (restored log words n) (slice_get log (length log - 1 - n))) ≡ record { words = restored log words (suc n); cause = None }
undo_step before log words n leads h =
    ap (λ (o : Option AbortCause). record { words = restored log words (suc n); cause = o }) (stays_inside before log words n leads h)

-- What holds along an honest run.

leads_effect : (before : List ℕ) (m y : Machine) → HonestEffect m y → LeadsTo before m.log.items m.words → LeadsTo before y.log.items y.words
leads_effect before m y (Left words log) h =
    let same_words : LeadsTo before m.log.items y.words = subst (λ (l : List ℕ). LeadsTo before m.log.items l) (sym words) h in
    subst (λ (k : Kept Change). LeadsTo before k.items y.words) (sym log) same_words
leads_effect before m y (Changed a was v here other words log) h =
    let one : LeadsTo before (m.log.items ++ change_of a was v ∷ []) (slice_set m.words a v) = leads_one before m.log.items m.words (change_of a was v) h here in
    let same_words : LeadsTo before (m.log.items ++ change_of a was v ∷ []) y.words =
    subst (λ (l : List ℕ). LeadsTo before (m.log.items ++ change_of a was v ∷ []) l) (sym words) one in
    subst (λ (k : Kept Change). LeadsTo before k.items y.words) (sym log) same_words

-- the log of an honest run that began with none leads from the words at the start to those that stand
pub leads : (g : Setting) (start : Machine) → start.log.items ≡ [] → (n : ℕ) → LeadsTo start.words (after g start n).machine.log.items (after g start n).machine.words
leads g start none n =
    let begins : LeadsTo start.words start.log.items start.words = subst (λ (log : List Change). LeadsTo start.words log start.words) (sym none) refl in
    all_along g (λ m. LeadsTo start.words m.log.items m.words) (λ i m h. leads_effect start.words m (honest (step_tree g i m)).machine (keeps_honest g i m) h) start begins n

-- the registers and rooms of a machine are those of the start, and the output words and the log fit into theirs
pub record RoomsStay (start m : Machine) : Type 0 where
  pub registers : length m.registers ≡ length start.registers
  pub input : m.input.room ≡ start.input.room
  pub output : m.output.room ≡ start.output.room
  pub bytes : m.bytes.room ≡ start.bytes.room
  pub log : m.log.room ≡ start.log.room
  pub output_fits : length start.output.items ≤ start.output.room → length m.output.items ≤ m.output.room
  pub log_fits : length start.log.items ≤ start.log.room → length m.log.items ≤ m.log.room

room_one : (g : Setting) (start : Machine) (i : ℕ) (m : Machine) → RoomsStay start m → RoomsStay start (honest (step_tree g i m)).machine
room_one g start i m h = by_statement g i m (λ t. RoomsStay start (honest t).machine) (λ cause. h) (λ s e b.
    let k = always_honest (λ (x : After). Keeps (parsed_words g.parsed) (one_made m) x.machine) (statement_tree g i (one_made m) s) (keeps g i (one_made m) s) in
    record {
      registers = k.registers ∙ h.registers;
      input = k.input ∙ h.input;
      output = k.output ∙ h.output;
      bytes = k.bytes ∙ h.bytes;
      log = k.log ∙ h.log;
      output_fits = λ fits. k.fits (h.output_fits fits);
      log_fits = λ fits. k.log_fits (h.log_fits fits);
    })

-- along an honest run the registers and the rooms stay
pub room_kept : (g : Setting) (start : Machine) (n : ℕ) → RoomsStay start (after g start n).machine
room_kept g start n =
    all_along g (RoomsStay start) (room_one g start) start
    (record { registers = refl; input = refl; output = refl; bytes = refl; log = refl; output_fits = λ h. h; log_fits = λ h. h }) n

-- the first byte, where there is one, is below 256
abbrev pub FirstFits : List ℕ → Type 0
FirstFits [] = Unit {0}
FirstFits (byte ∷ bytes) = byte < 256

first_kept : (g : Setting) (s : Stmt) → IsKeptBy g s (λ m. FirstFits m.bytes.items)
first_kept g s = record {
  assigned = λ m to w h. h;
  logged = λ is m a was w entry e r h. h;
  emits = λ m w r h. h;
  timed = λ is r m note h. h;
  slotted = λ is r m note h. h;
  filled = λ m h. h;
  first = λ m word w words e h. h;
  coded = λ is m code h. h;
  emptied = λ is m h. tt;
  rendered = λ is m byte bytes small fits h. small;
}

-- along an honest run that began with no output bytes, the first one is below 256
pub first_fits : (g : Setting) (start : Machine) → start.bytes.items ≡ [] → (n : ℕ) → FirstFits (after g start n).machine.bytes.items
first_fits g start none n =
    let begins : FirstFits start.bytes.items = subst (λ (bytes : List ℕ). FirstFits bytes) (sym none) tt in
    all_along g (λ m. FirstFits m.bytes.items)
    (λ i m h. always_honest (λ (x : After). FirstFits x.machine.bytes.items) (step_tree g i m) (step_keeps g (λ m. FirstFits m.bytes.items) (first_kept g) (λ m h. h) i m h)) start begins n
