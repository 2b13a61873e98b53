-- An act of a phase that is not next to be closed never closes it.
use Rattle.std.proofs.Common.{◌≡◌, ◌≢◌, ℕ, ◌+◌, ◌-◌, Bool, true, false, List, [], ◌∷◌, length, Option, Some, None, ap, sym, ◌∙◌, refl, subst}
use Rattle.std.specs.Prelude.{⊤, if◌then◌else◌, nat_lt, ◌==◌, slice_get}
use Rattle.std.specs.declared.result.Result.{Result}
use Rattle.std.specs.declared.result.Result.TheVariants.{Ok, Err}
use Rattle.sei_code.specs.declared.modes.Mode.TheVariants.{Plain as PlainMode}
use Rattle.sei_compare.specs.Comparing.{same_change, entry_tree, same_reply, codes_tree, word_at, is_message, wire_tree}
use Rattle.sei_fault.specs.declared.cause.AbortCause.{AbortCause}
use Rattle.sei_fault.specs.declared.cause.AbortCause.TheVariants.{Differs, Reply as Replies, Wire as Wires}
use Rattle.sei_fault.specs.declared.place.Phase.{Phase}
use Rattle.sei_fault.specs.declared.place.Phase.TheVariants.{Guard, Take, First, Restore, Second, Compare, Verify, Enter, Give, Send, Done}
use Rattle.sei_fault.specs.Phases.{phase_number}
use Rattle.sei_fault.specs.Tree.{Tree, honest, bound}
use Rattle.sei_fault.proofs.Public.{honest_bound}
use Rattle.sei_gate.specs.Closing.{risen}
use Rattle.sei_pass.specs.declared.given.Which.{Which}
use Rattle.sei_pass.specs.declared.given.Which.TheVariants.{Making, Reading}
use Rattle.sei_pass.specs.Setting.{is_intact}
use Rattle.sei_restore.specs.Undoing.{Undone, undo_at}
use Rattle.sei_stmt.specs.Machine.{Machine, Outcome, After}
use Rattle.sei_stmt.specs.Machine.Outcome.{Next, Halted, Bad}
use Rattle.sei_stmt.specs.Statements.{step_tree}
use Rattle.sei_traverse.specs.declared.turned.Want.TheVariants.{Nothing, Enter as WantEnter, Give as WantGive}
use Rattle.sei_traverse.specs.declared.workspace.Ending.{Ending}
use Rattle.sei_traverse.specs.declared.workspace.Ending.TheVariants.{Leads, Refuses, Aborts}
use Rattle.sei_traverse.specs.declared.workspace.Workspace.{Workspace}
use Rattle.sei_traverse.specs.Acts.{Acted, acted, ends, at, closed_to, closing_then, closes, next_phase}
use Rattle.sei_traverse.specs.PassActs.{pass_phase, machine_in, with_machine, pass_from, pass_to, pass_tree}
use Rattle.sei_traverse.specs.Phases.{guard_call, take_wanted, store_wanted, undone_as, undone_to, compared, entries_to, outputs_to, word_to, copy_bytes, wire_to, verify_copy, send_want, reply_of}
use Rattle.sei_traverse.specs.Given.{Given, has_sealed_call, setting_in}
use Rattle.sei_traverse.specs.Step.{act_in}
use Rattle.sei_traverse.proofs.Branches.{other}

-- the act goes on in its phase, or aborts
abbrev pub LostEnds : Phase → Ending → Type 0
LostEnds phase (Leads to) = to.phase ≡ phase
LostEnds phase Refuses = ⊥
LostEnds phase (Aborts cause) = ⊤

-- behind an act of a phase that it does not close, what is wanted, the gate and the sealed call are as before
pub record StaysLost (phase : Phase) (w : Workspace) (y : Acted) : Type 0 where
  pub want : y.workspace.want ≡ w.want
  pub gate : y.workspace.gate ≡ w.gate
  pub sealed : y.workspace.sealed ≡ w.sealed
  pub ends : LostEnds phase y.ending

-- a workspace with the same parts
record IsAlike (w v : Workspace) : Type 0 where
  want : v.want ≡ w.want
  gate : v.gate ≡ w.gate
  sealed : v.sealed ≡ w.sealed

module _ (phase : Phase) (w v : Workspace) (alike : IsAlike w v) (words : List ℕ) where
  lost_leads : (index : ℕ) → StaysLost phase w (acted v words (Leads (at phase index)))
  lost_leads index = record { want = alike.want; gate = alike.gate; sealed = alike.sealed; ends = refl }

  lost_aborts : (cause : AbortCause) → StaysLost phase w (acted v words (Aborts cause))
  lost_aborts cause = record { want = alike.want; gate = alike.gate; sealed = alike.sealed; ends = tt }

  -- its closing test is answered no
  lost_closing : (on : Workspace → Tree Acted) → w.gate.done ≢ phase_number phase → StaysLost phase w (honest (closing_then phase v words on))
  lost_closing on lost =
      let no : (v.gate.done == phase_number phase) ≡ false = other v.gate.done (phase_number phase) (λ is. lost (sym (ap (λ g. g.done) alike.gate) ∙ is)) in
      subst (λ (b : Bool). StaysLost phase w (honest (closed_to v words on (b, if b then risen v.gate.done else v.gate.done)))) (sym no)
      (record { want = alike.want; gate = alike.gate; sealed = alike.sealed; ends = tt })

itself : (w : Workspace) → IsAlike w w
itself w = record { want = refl; gate = refl; sealed = refl }

module _ (g : Given) (now : ℕ) (w : Workspace) (words : List ℕ) where
  lost_guard : w.gate.done ≢ 0 → (is_intact w.sealed g.input ≡ true) × (has_sealed_call g w.sealed ≡ true) → StaysLost Guard w (honest (act_in g now Guard w.place.index w words))
  lost_guard lost fit =
      subst (λ (b : Bool). StaysLost Guard w (honest (if b then guard_call g w words else ends w words Refuses))) (sym fit.0)
      (subst (λ (b : Bool). StaysLost Guard w (honest (if b then closes Guard w words Nothing (at Take 0) else ends w words Refuses))) (sym fit.1)
      (lost_closing Guard w w (itself w) words (λ v. ends (record v { want = Nothing }) words (Leads (at Take 0))) lost))

  take_by : w.gate.done ≢ 1 → (b : Bool) → StaysLost Take w (honest (if b then store_wanted g w words else closing_then Take w words (take_wanted g.space.geometry words)))
  take_by lost true = record { want = refl; gate = refl; sealed = refl; ends = refl }
  take_by lost false = lost_closing Take w w (itself w) words (take_wanted g.space.geometry words) lost

  lost_take : w.gate.done ≢ 1 → StaysLost Take w (honest (act_in g now Take w.place.index w words))
  lost_take lost = take_by lost (w.place.index == 0)

-- The passes: a statement leads on, aborts, or comes to a closing.

pass_ends : (which : Which) (w v : Workspace) → IsAlike w v → (words : List ℕ) (o : Outcome) → w.gate.done ≢ phase_number (pass_phase which) → StaysLost (pass_phase which) w (honest (pass_from which v words o))
pass_ends which w v alike words (Next index) lost = lost_leads (pass_phase which) w v alike words index
pass_ends which w v alike words Halted lost = lost_closing (pass_phase which) w v alike words (λ v. ends (record v { want = Nothing }) words (Leads (at (next_phase (pass_phase which)) 0))) lost
pass_ends which w v alike words (Bad cause) lost = lost_aborts (pass_phase which) w v alike words cause

alike_pass : (which : Which) (w : Workspace) (m : Machine) → IsAlike w (with_machine which w m)
alike_pass Making w m = record { want = refl; gate = refl; sealed = refl }
alike_pass Reading w m = record { want = refl; gate = refl; sealed = refl }

module _ (g : Given) (now : ℕ) (w : Workspace) (words : List ℕ) where
  lost_pass : (which : Which) → w.gate.done ≢ phase_number (pass_phase which) → StaysLost (pass_phase which) w (honest (pass_tree which g now w.place.index w words))
  lost_pass which lost =
      let t : Tree After = step_tree (setting_in g which w.sealed now) w.place.index (machine_in which w words) in
      let x : After = honest t in
      subst (StaysLost (pass_phase which) w) (sym (honest_bound t (pass_to which w)))
      (pass_ends which w (with_machine which w x.machine) (alike_pass which w x.machine) x.machine.words x.outcome lost)

  -- Restore

  undone_ends : (left : List ℕ) (index : ℕ) (cause : Option AbortCause) → StaysLost Restore w (honest (undone_as w left index cause))
  undone_ends left index None = lost_leads Restore w w (itself w) left (index + 1)
  undone_ends left index (Some cause) = lost_aborts Restore w w (itself w) left cause

  restore_by : w.gate.done ≢ 3 → (index : ℕ) (o : _) (b : Bool) →
      StaysLost Restore w (honest (if b then bound (undo_at words o) (undone_to w index) else closes Restore w words Nothing (at Second 0)))
  restore_by lost index o true =
      let u : Undone = honest (undo_at words o) in
      subst (StaysLost Restore w) (sym (honest_bound (undo_at words o) (undone_to w index))) (undone_ends u.words index u.cause)
  restore_by lost index o false = lost_closing Restore w w (itself w) words (λ v. ends (record v { want = Nothing }) words (Leads (at Second 0))) lost

  lost_restore : w.gate.done ≢ 3 → StaysLost Restore w (honest (act_in g now Restore w.place.index w words))
  lost_restore lost =
      restore_by lost w.place.index (slice_get w.first_log.items (length w.first_log.items - 1 - w.place.index)) (nat_lt w.place.index (length w.first_log.items))

  -- Compare

  entries_by : (index : ℕ) (b : Bool) → StaysLost Compare w (honest (entries_to w words index b))
  entries_by index true = lost_leads Compare w w (itself w) words (index + 1)
  entries_by index false = lost_aborts Compare w w (itself w) words (Differs index)

  outputs_by : w.gate.done ≢ 5 → (b : Bool) → StaysLost Compare w (honest (outputs_to w words b))
  outputs_by lost true = lost_closing Compare w w (itself w) words (λ v. ends (record v { want = Nothing }) words (Leads (at Verify 0))) lost
  outputs_by lost false = lost_aborts Compare w w (itself w) words Replies

  compare_by : w.gate.done ≢ 5 → (index : ℕ) (b : Bool) →
      StaysLost Compare w (honest (if b
      then bound (entry_tree w.first_log.items w.second_log.items index) (entries_to w words index)
      else bound (codes_tree w.first.code w.first.bytes.items w.second.code w.second.bytes.items) (outputs_to w words)))
  compare_by lost index true = entries_by index (same_change (slice_get w.first_log.items index) (slice_get w.second_log.items index))
  compare_by lost index false = outputs_by lost (same_reply w.first.code w.first.bytes.items w.second.code w.second.bytes.items)

  lost_compare : w.gate.done ≢ 5 → StaysLost Compare w (honest (act_in g now Compare w.place.index w words))
  lost_compare lost = compare_by lost w.place.index (nat_lt w.place.index (compared w))

  -- Verify

  word_by : (index : ℕ) (r : Result Bool AbortCause) → StaysLost Verify w (honest (word_to w words index r))
  word_by index (Ok true) = lost_leads Verify w w (itself w) words (index + 1)
  word_by index (Ok false) = lost_aborts Verify w w (itself w) words (Differs index)
  word_by index (Err cause) = lost_aborts Verify w w (itself w) words cause

  copy_by : (index : ℕ) (bytes : List ℕ) → StaysLost Verify w (honest (copy_bytes w words index bytes))
  copy_by index [] = record { want = refl; gate = refl; sealed = refl; ends = refl }
  copy_by index (byte ∷ bytes) = record { want = refl; gate = refl; sealed = refl; ends = refl }

  wire_by : w.gate.done ≢ 6 → (b : Bool) → StaysLost Verify w (honest (wire_to w words b))
  wire_by lost true = lost_closing Verify w w (itself w) words (λ v. ends (record v { want = Nothing }) words (Leads (at Enter 0))) lost
  wire_by lost false = lost_aborts Verify w w (itself w) words Wires

  behind_by : w.gate.done ≢ 6 → (index : ℕ) (b : Bool) →
      StaysLost Verify w (honest (if b then copy_bytes w words index (reply_of w) else bound (wire_tree PlainMode w.sealed.answer w.first.code w.first.bytes.items w.wire.items) (wire_to w words)))
  behind_by lost index true = copy_by index (reply_of w)
  behind_by lost index false = wire_by lost (is_message PlainMode w.sealed.answer w.first.code w.first.bytes.items w.wire.items)

  verify_by : w.gate.done ≢ 6 → (index : ℕ) (o : _) (b : Bool) → StaysLost Verify w (honest (if b then bound (word_at words o) (word_to w words index) else verify_copy index w words))
  verify_by lost index o true = subst (StaysLost Verify w) (sym (honest_bound (word_at words o) (word_to w words index))) (word_by index (honest (word_at words o)))
  verify_by lost index o false = behind_by lost index (index == length w.second_log.items)

  lost_verify : w.gate.done ≢ 6 → StaysLost Verify w (honest (act_in g now Verify w.place.index w words))
  lost_verify lost = verify_by lost w.place.index (slice_get w.second_log.items w.place.index) (nat_lt w.place.index (length w.second_log.items))

-- an honest act where another number of phases is closed than stand before its own
pub lost_on : (g : Given) (now : ℕ) (phase : Phase) (w : Workspace) (words : List ℕ) → w.gate.done ≢ phase_number phase →
    (phase ≡ Guard → (is_intact w.sealed g.input ≡ true) × (has_sealed_call g w.sealed ≡ true)) → StaysLost phase w (honest (act_in g now phase w.place.index w words))
lost_on g now Guard w words lost fit = lost_guard g now w words lost (fit refl)
lost_on g now Take w words lost fit = lost_take g now w words lost
lost_on g now First w words lost fit = lost_pass g now w words Making lost
lost_on g now Restore w words lost fit = lost_restore g now w words lost
lost_on g now Second w words lost fit = lost_pass g now w words Reading lost
lost_on g now Compare w words lost fit = lost_compare g now w words lost
lost_on g now Verify w words lost fit = lost_verify g now w words lost
lost_on g now Enter w words lost fit = lost_closing Enter w w (itself w) words (λ v. ends (record v { want = WantEnter }) words (Leads (at Give 0))) lost
lost_on g now Give w words lost fit = lost_closing Give w w (itself w) words (λ v. ends (record v { want = WantGive }) words (Leads (at Send 0))) lost
lost_on g now Send w words lost fit = lost_closing Send w w (itself w) words (λ v. ends (record v { want = send_want (reply_of w) }) words (Leads (at Done 0))) lost
lost_on g now Done w words lost fit = lost_closing Done w w (itself w) words (λ v. ends (record v { want = Nothing }) words (Leads (at Done 1))) lost
