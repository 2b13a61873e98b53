-- Which branch of an act is taken, by its index.
use Rattle.std.proofs.Common.{◌≡◌, ℕ, ◌<◌, ◌≤◌, Bool, true, false, List, length, arith, sym, subst}
use Rattle.std.specs.Prelude.{nat_lt, ◌==◌, slice_get, ◌-◌, if◌then◌else◌}
use Rattle.std.proofs.lemmas.Bool.Decides.{nat_tests}
use Rattle.sei_code.specs.declared.modes.Mode.TheVariants.{Plain as PlainMode}
use Rattle.sei_fault.specs.declared.place.Phase.TheVariants.{Restore, Second}
use Rattle.sei_fault.specs.Question.{Question, Answer}
use Rattle.sei_fault.specs.Question.Question.{Test}
use Rattle.sei_fault.specs.Tree.{Tree, Runs, bound}
use Rattle.sei_fault.specs.Tree.Tree.{Ask}
use Rattle.sei_fault.proofs.Public.{runs_bound}
use Rattle.sei_restore.specs.Undoing.{undo_at}
use Rattle.sei_compare.specs.Comparing.{tested, entry_tree, codes_tree, word_at, wire_tree}
use Rattle.sei_traverse.specs.declared.turned.Want.TheVariants.{Nothing}
use Rattle.sei_traverse.specs.declared.workspace.Workspace.{Workspace}
use Rattle.sei_traverse.specs.Acts.{Acted, at, closes}
use Rattle.sei_traverse.specs.Phases.{restore_tree, undone_to, compared, compare_tree, entries_to, outputs_to, verify_tree, verify_copy, word_to, copy_bytes, wire_to}

pub not_below : (a b : ℕ) → b ≤ a → nat_lt a b ≡ false
not_below a b h = grind (arith, nat_tests)

pub below : (a b : ℕ) → a < b → nat_lt a b ≡ true
below a b h = grind (arith, nat_tests)

pub same : (a b : ℕ) → a ≡ b → (a == b) ≡ true
same a b h = grind (arith, nat_tests)

pub other : (a b : ℕ) → (a ≡ b → ⊥) → (a == b) ≡ false
other a b h = grind (arith, nat_tests)

-- a test that was answered yes, and what comes behind it
pub asked_yes : {S R : Type 0} (gives : S → (q : Question) → Answer q → S → Type 0) (b y : Bool) (f : Bool → Tree R) (s m t : S) (x : R) →
    gives s (Test b) y m → y ≡ true → Runs gives (f true) m t x → Runs gives (Ask (Test b) f) s t x
asked_yes gives b y f s m t x h e r = (y, m, h, subst (λ (z : Bool). Runs gives (f z) m t x) (sym e) r)

pub bound_yes : {S R : Type 0} (gives : S → (q : Question) → Answer q → S → Type 0) (b y : Bool) (f : Bool → Tree R) (s m t : S) (x : R) →
    Runs gives (tested b) s m y → y ≡ true → Runs gives (f true) m t x → Runs gives (bound (tested b) f) s t x
bound_yes gives b y f s m t x h e r = runs_bound gives (tested b) f s m t y x h (subst (λ (z : Bool). Runs gives (f z) m t x) (sym e) r)

module _ {S : Type 0} (gives : S → (q : Question) → Answer q → S → Type 0) (w : Workspace) (words : List ℕ) (index : ℕ) (s t : S) (x : Acted) where
  pub restore_closes : length w.first_log.items ≤ index → Runs gives (closes Restore w words Nothing (at Second 0)) s t x → Runs gives (restore_tree index w words) s t x
  restore_closes h r =
      subst (λ (b : Bool). Runs gives (if b then bound (undo_at words (slice_get w.first_log.items (length w.first_log.items - 1 - index))) (undone_to w index) else closes Restore w words Nothing (at Second 0)) s t x)
      (sym (not_below index (length w.first_log.items) h)) r

  pub compare_else : compared w ≤ index → Runs gives (bound (codes_tree w.first.code w.first.bytes.items w.second.code w.second.bytes.items) (outputs_to w words)) s t x → Runs gives (compare_tree index w words) s t x
  compare_else h r =
      subst (λ (b : Bool). Runs gives (if b then bound (entry_tree w.first_log.items w.second_log.items index) (entries_to w words index)
      else bound (codes_tree w.first.code w.first.bytes.items w.second.code w.second.bytes.items) (outputs_to w words)) s t x)
      (sym (not_below index (compared w) h)) r

  pub verify_else : length w.second_log.items ≤ index → Runs gives (verify_copy index w words) s t x → Runs gives (verify_tree index w words) s t x
  verify_else h r =
      subst (λ (b : Bool). Runs gives (if b then bound (word_at words (slice_get w.second_log.items index)) (word_to w words index) else verify_copy index w words) s t x)
      (sym (not_below index (length w.second_log.items) h)) r

  pub verify_copies : index ≡ length w.second_log.items → Runs gives (copy_bytes w words index w.second.bytes.items) s t x → Runs gives (verify_copy index w words) s t x
  verify_copies h r =
      subst (λ (b : Bool). Runs gives (if b then copy_bytes w words index w.second.bytes.items else bound (wire_tree PlainMode w.sealed.answer w.first.code w.first.bytes.items w.wire.items) (wire_to w words)) s t x)
      (sym (same index (length w.second_log.items) h)) r

  pub verify_tests : (index ≡ length w.second_log.items → ⊥) → Runs gives (bound (wire_tree PlainMode w.sealed.answer w.first.code w.first.bytes.items w.wire.items) (wire_to w words)) s t x → Runs gives (verify_copy index w words) s t x
  verify_tests h r =
      subst (λ (b : Bool). Runs gives (if b then copy_bytes w words index w.second.bytes.items else bound (wire_tree PlainMode w.sealed.answer w.first.code w.first.bytes.items w.wire.items) (wire_to w words)) s t x)
      (sym (other index (length w.second_log.items) h)) r
