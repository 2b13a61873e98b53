-- What no act changes, whatever is answered.
use Rattle.std.proofs.Common.{◌≡◌, ◌⊎◌, inl, inr, ℕ, zero, suc, ◌+◌, ◌-◌, ◌∙◌, ap, sym, subst, Bool, true, false, List, [], ◌∷◌, length, Option, Some, None, arith, refl}
use Rattle.std.specs.Prelude.{⊤, if◌then◌else◌, ◌==◌, nat_lt, slice_get}
use Rattle.std.specs.declared.result.Result.{Result}
use Rattle.std.specs.declared.result.Result.TheVariants.{Ok, Err}
use Rattle.sei_code.specs.declared.modes.Mode.TheVariants.{Plain as PlainMode}
use Rattle.sei_fault.specs.declared.cause.AbortCause.{AbortCause}
use Rattle.sei_fault.specs.declared.cause.AbortCause.TheVariants.{Gate, Range, Differs, Reply as Replies, Wire as Wires}
use Rattle.sei_fault.specs.declared.place.Phase.{Phase}
use Rattle.sei_fault.specs.declared.place.Phase.TheVariants.{Guard, Take, First, Restore, Second, Compare, Verify, Enter, Give, Send, Done}
use Rattle.sei_fault.specs.declared.place.Place.{Place}
use Rattle.sei_fault.specs.Tree.{Tree, Always, bound, honest}
use Rattle.sei_fault.specs.Tree.Tree.{Done as Ended, Ask}
use Rattle.sei_fault.proofs.Public.{always_honest}
use Rattle.sei_gate.specs.Closing.{risen}
use Rattle.sei_stmt.specs.Machine.{Machine, Outcome}
use Rattle.sei_stmt.specs.Machine.Outcome.{Next, Halted, Bad}
use Rattle.sei_stmt.specs.Statements.{step_tree}
use Rattle.sei_pass.specs.declared.given.Which.{Which}
use Rattle.sei_pass.specs.declared.given.Which.TheVariants.{Making, Reading}
use Rattle.sei_restore.specs.Undoing.{undo_at}
use Rattle.sei_compare.specs.Comparing.{entry_tree, codes_tree, word_at, wire_tree}
use Rattle.mc_model.specs.declared.geometry.Geometry.{Geometry}
use Rattle.sei_traverse.specs.declared.turned.Want.{Want}
use Rattle.sei_traverse.specs.declared.turned.Want.TheVariants.{Nothing, Enter as WantEnter, Give as WantGive, Take as WantTake}
use Rattle.sei_traverse.specs.declared.workspace.Ending.{Ending}
use Rattle.sei_traverse.specs.declared.workspace.Ending.TheVariants.{Leads, Refuses, Aborts}
use Rattle.sei_traverse.specs.declared.workspace.Workspace.{Workspace}
use Rattle.sei_traverse.specs.Acts.{Acted, acted, ends, at, closing_then, closes, next_phase}
use Rattle.sei_traverse.specs.PassActs.{pass_phase, machine_in, with_machine, pass_from, pass_to, pass_tree}
use Rattle.sei_traverse.specs.Phases.{guard_call, store_wanted, take_wanted, take_tree, undone_as, undone_to, compared, entries_to, outputs_to, word_to, copy_bytes, wire_to, verify_copy, reply_of, send_want}
use Rattle.sei_traverse.specs.Given.{Given, setting_in}
use Rattle.sei_traverse.specs.Step.{act_in}
use Rattle.sei_traverse.proofs.Branches.{other}

-- Pieces of work.

always_bound : {A B : Type 0} (P : B → Type 0) (t : Tree A) (f : A → Tree B) → ((x : A) → Always P (f x)) → Always P (bound t f)
always_bound P (Ended r) f h = h r
always_bound P (Ask q k) f h = λ a. always_bound P (k a) f h

if_always : {R : Type 0} (P : R → Type 0) (b : Bool) (s t : Tree R) → Always P s → Always P t → Always P (if b then s else t)
if_always P true s t h i = h
if_always P false s t h i = i

-- the workspace whose gate closed so many phases
abbrev pub gated : Workspace → ℕ → Workspace
gated w done = record w { gate = record { done = done } }

-- a closing test is answered yes, or it is not
pub closing_always : (P : Acted → Type 0) (phase : Phase) (w : Workspace) (words : List ℕ) (on : Workspace → Tree Acted) → Always P (on (gated w (risen w.gate.done))) →
    P (acted (gated w w.gate.done) words (Aborts (Gate w.gate.done))) → Always P (closing_then phase w words on)
closing_always P phase w words on h i = by_answer
  where
    by_answer : (yes : Bool) → Always P (if yes then on (gated w (if yes then risen w.gate.done else w.gate.done)) else ends (gated w (if yes then risen w.gate.done else w.gate.done)) words (Aborts (Gate (if yes then risen w.gate.done else w.gate.done))))
    by_answer true = h
    by_answer false = i

-- The place, the number of closed phases, and the wanted bucket.

-- in all steps but that in which the wanted bucket is stored
abbrev pub IsNoStore : Phase → ℕ → Type 0
IsNoStore Take zero = ⊥
IsNoStore phase index = ⊤

pub record Keeps (w : Workspace) (y : Acted) : Type 0 where
  pub sealed : y.workspace.sealed ≡ w.sealed
  pub place : y.workspace.place ≡ w.place
  pub wanted : y.workspace.wanted ≡ w.wanted
  pub gate : (y.workspace.gate.done ≡ w.gate.done) ⊎ (y.workspace.gate.done ≡ risen w.gate.done)

pub record HonestlyKeeps (w : Workspace) (y : Acted) : Type 0 where
  pub sealed : y.workspace.sealed ≡ w.sealed
  pub place : y.workspace.place ≡ w.place
  pub gate : (y.workspace.gate.done ≡ w.gate.done) ⊎ (y.workspace.gate.done ≡ risen w.gate.done)

without : {w : Workspace} {y : Acted} → Keeps w y → HonestlyKeeps w y
without k = record { sealed = k.sealed; place = k.place; gate = k.gate }

-- a number that stays or rises, from another one that is the same
from_same : (a b n : ℕ) → b ≡ a → (n ≡ b) ⊎ (n ≡ risen b) → (n ≡ a) ⊎ (n ≡ risen a)
from_same a b n h (inl stays) = inl (stays ∙ h)
from_same a b n h (inr rises) = inr (rises ∙ ap risen h)

-- another workspace that has all this
record Same (w u : Workspace) : Type 0 where
  sealed : u.sealed ≡ w.sealed
  place : u.place ≡ w.place
  wanted : u.wanted ≡ w.wanted
  gate : u.gate.done ≡ w.gate.done

module _ (w u : Workspace) (s : Same w u) where
  keeps_at : (v : Workspace) (words : List ℕ) (ending : Ending) → v.sealed ≡ u.sealed → v.place ≡ u.place → v.wanted ≡ u.wanted → (v.gate.done ≡ u.gate.done) ⊎ (v.gate.done ≡ risen u.gate.done) → Keeps w (acted v words ending)
  keeps_at v words ending d p n g = record { sealed = d ∙ s.sealed; place = p ∙ s.place; wanted = n ∙ s.wanted; gate = from_same w.gate.done u.gate.done v.gate.done s.gate g }

  keeps_here : (words : List ℕ) (ending : Ending) → Keeps w (acted u words ending)
  keeps_here words ending = keeps_at u words ending refl refl refl (inl refl)

  closes_keeps : (phase : Phase) (words : List ℕ) (want : Want) (to : Place) → Always (Keeps w) (closes phase u words want to)
  closes_keeps phase words want to = closing_always (Keeps w) phase u words (λ v. ends (record v { want = want }) words (Leads to))
      (keeps_at (record (gated u (risen u.gate.done)) { want = want }) words (Leads to) refl refl refl (inr refl))
      (keeps_at (gated u u.gate.done) words (Aborts (Gate u.gate.done)) refl refl refl (inl refl))

  from_pass : (which : Which) (words : List ℕ) (o : Outcome) → Always (Keeps w) (pass_from which u words o)
  from_pass which words (Next index) = keeps_here words (Leads (at (pass_phase which) index))
  from_pass which words Halted = closes_keeps (pass_phase which) words Nothing (at (next_phase (pass_phase which)) 0)
  from_pass which words (Bad cause) = keeps_here words (Aborts cause)

not_zero : (n : ℕ) → (suc n == 0) ≡ false
not_zero n = other (suc n) 0 (λ h. omega (arith, h))

module _ (g : Given) (now : ℕ) (w : Workspace) (words : List ℕ) where
  itself : Same w w
  itself = record { sealed = refl; place = refl; wanted = refl; gate = refl }

  here : (left : List ℕ) (ending : Ending) → Keeps w (acted w left ending)
  here left ending = keeps_here w w itself left ending

  closes_here : (phase : Phase) (want : Want) (to : Place) → Always (Keeps w) (closes phase w words want to)
  closes_here phase want to = closes_keeps w w itself phase words want to

  guard_keeps : Always (Keeps w) (act_in g now Guard 0 w words)
  guard_keeps = λ intact. if_always (Keeps w) intact (guard_call g w words) (ends w words Refuses)
      (λ has. if_always (Keeps w) has (closes Guard w words Nothing (at Take 0)) (ends w words Refuses) (closes_here Guard Nothing (at Take 0)) (here words Refuses))
      (here words Refuses)

  take_keeps : Always (Keeps w) (closing_then Take w words (take_wanted g.space.geometry words))
  take_keeps =
      let v : Workspace = gated w (risen w.gate.done) in
      closing_always (Keeps w) Take w words (take_wanted g.space.geometry words)
      (if_always (Keeps w) (nat_lt v.wanted g.space.geometry.buckets) (ends (record v { want = WantTake v.wanted }) words (Leads (at First 0))) (ends v words (Aborts (Range v.wanted)))
      (keeps_at w w itself (record v { want = WantTake v.wanted }) words (Leads (at First 0)) refl refl refl (inr refl))
      (keeps_at w w itself v words (Aborts (Range v.wanted)) refl refl refl (inr refl)))
      (keeps_at w w itself (gated w w.gate.done) words (Aborts (Gate w.gate.done)) refl refl refl (inl refl))

  undone_keeps : (left : List ℕ) (index : ℕ) (cause : Option AbortCause) → Always (Keeps w) (undone_as w left index cause)
  undone_keeps left index None = here left (Leads (at Restore (index + 1)))
  undone_keeps left index (Some cause) = here left (Aborts cause)

  word_keeps : (index : ℕ) (r : Result Bool AbortCause) → Always (Keeps w) (word_to w words index r)
  word_keeps index (Ok same) = if_always (Keeps w) same (ends w words (Leads (at Verify (index + 1)))) (ends w words (Aborts (Differs index))) (here words (Leads (at Verify (index + 1)))) (here words (Aborts (Differs index)))
  word_keeps index (Err cause) = here words (Aborts cause)

  copy_keeps : (index : ℕ) (bytes : List ℕ) → Always (Keeps w) (copy_bytes w words index bytes)
  copy_keeps index [] = record { sealed = refl; place = refl; wanted = refl; gate = inl refl }
  copy_keeps index (byte ∷ bytes) = λ b. record { sealed = refl; place = refl; wanted = refl; gate = inl refl }

  same_pass : (which : Which) (m : Machine) → Same w (with_machine which w m)
  same_pass Making m = record { sealed = refl; place = refl; wanted = refl; gate = refl }
  same_pass Reading m = record { sealed = refl; place = refl; wanted = refl; gate = refl }

  pass_keeps : (which : Which) (index : ℕ) → Always (Keeps w) (pass_tree which g now index w words)
  pass_keeps which index = always_bound (Keeps w) (step_tree (setting_in g which w.sealed now) index (machine_in which w words)) (pass_to which w)
      (λ x. from_pass w (with_machine which w x.machine) (same_pass which x.machine) which x.machine.words x.outcome)

  pub keeps : (phase : Phase) (index : ℕ) → IsNoStore phase index → Always (Keeps w) (act_in g now phase index w words)
  keeps Guard index n = guard_keeps
  keeps Take zero n = absurd n
  keeps Take (suc index) n =
      subst (λ (b : Bool). Always (Keeps w) (if b then store_wanted g w words else closing_then Take w words (take_wanted g.space.geometry words))) (sym (not_zero index)) take_keeps
  keeps First index n = pass_keeps Making index
  keeps Restore index n =
      if_always (Keeps w) (nat_lt index (length w.first_log.items)) (bound (undo_at words (slice_get w.first_log.items (length w.first_log.items - 1 - index))) (undone_to w index)) (closes Restore w words Nothing (at Second 0))
      (always_bound (Keeps w) (undo_at words (slice_get w.first_log.items (length w.first_log.items - 1 - index))) (undone_to w index) (λ u. undone_keeps u.words index u.cause))
      (closes_here Restore Nothing (at Second 0))
  keeps Second index n = pass_keeps Reading index
  keeps Compare index n =
      if_always (Keeps w) (nat_lt index (compared w)) (bound (entry_tree w.first_log.items w.second_log.items index) (entries_to w words index))
      (bound (codes_tree w.first.code w.first.bytes.items w.second.code w.second.bytes.items) (outputs_to w words))
      (always_bound (Keeps w) (entry_tree w.first_log.items w.second_log.items index) (entries_to w words index)
      (λ same. if_always (Keeps w) same (ends w words (Leads (at Compare (index + 1)))) (ends w words (Aborts (Differs index))) (here words (Leads (at Compare (index + 1)))) (here words (Aborts (Differs index)))))
      (always_bound (Keeps w) (codes_tree w.first.code w.first.bytes.items w.second.code w.second.bytes.items) (outputs_to w words)
      (λ same. if_always (Keeps w) same (closes Compare w words Nothing (at Verify 0)) (ends w words (Aborts Replies)) (closes_here Compare Nothing (at Verify 0)) (here words (Aborts Replies))))
  keeps Verify index n =
      if_always (Keeps w) (nat_lt index (length w.second_log.items)) (bound (word_at words (slice_get w.second_log.items index)) (word_to w words index)) (verify_copy index w words)
      (always_bound (Keeps w) (word_at words (slice_get w.second_log.items index)) (word_to w words index) (word_keeps index))
      (if_always (Keeps w) (index == length w.second_log.items) (copy_bytes w words index (reply_of w)) (bound (wire_tree PlainMode w.sealed.answer w.first.code w.first.bytes.items w.wire.items) (wire_to w words))
      (copy_keeps index (reply_of w))
      (always_bound (Keeps w) (wire_tree PlainMode w.sealed.answer w.first.code w.first.bytes.items w.wire.items) (wire_to w words)
      (λ same. if_always (Keeps w) same (closes Verify w words Nothing (at Enter 0)) (ends w words (Aborts Wires)) (closes_here Verify Nothing (at Enter 0)) (here words (Aborts Wires)))))
  keeps Enter index n = closes_here Enter WantEnter (at Give 0)
  keeps Give index n = closes_here Give WantGive (at Send 0)
  keeps Send index n = closes_here Send (send_want (reply_of w)) (at Done 0)
  keeps Done index n = closes_here Done Nothing (at Done 1)

  -- an honest act leaves the place as it is, and opens no phase
  pub honestly_kept : (phase : Phase) (index : ℕ) → HonestlyKeeps w (honest (act_in g now phase index w words))
  honestly_kept Take zero = record { sealed = refl; place = refl; gate = inl refl }
  honestly_kept Guard index = without (always_honest (Keeps w) (act_in g now Guard index w words) (keeps Guard index tt))
  honestly_kept Take (suc index) = without (always_honest (Keeps w) (act_in g now Take (suc index) w words) (keeps Take (suc index) tt))
  honestly_kept First index = without (always_honest (Keeps w) (act_in g now First index w words) (keeps First index tt))
  honestly_kept Restore index = without (always_honest (Keeps w) (act_in g now Restore index w words) (keeps Restore index tt))
  honestly_kept Second index = without (always_honest (Keeps w) (act_in g now Second index w words) (keeps Second index tt))
  honestly_kept Compare index = without (always_honest (Keeps w) (act_in g now Compare index w words) (keeps Compare index tt))
  honestly_kept Verify index = without (always_honest (Keeps w) (act_in g now Verify index w words) (keeps Verify index tt))
  honestly_kept Enter index = without (always_honest (Keeps w) (act_in g now Enter index w words) (keeps Enter index tt))
  honestly_kept Give index = without (always_honest (Keeps w) (act_in g now Give index w words) (keeps Give index tt))
  honestly_kept Send index = without (always_honest (Keeps w) (act_in g now Send index w words) (keeps Send index tt))
  honestly_kept Done index = without (always_honest (Keeps w) (act_in g now Done index w words) (keeps Done index tt))

-- The acts that only close their phase leave all but the gate and the want.

-- the two workspaces have the same notes, second pass, wanted bucket and copy for the wire
pub record IsLike (w v : Workspace) : Type 0 where
  pub wanted : v.wanted ≡ w.wanted
  pub notes : v.notes ≡ w.notes
  pub second : v.second ≡ w.second
  pub wire : v.wire ≡ w.wire

pub record OnlyCloses (w : Workspace) (words : List ℕ) (y : Acted) : Type 0 where
  pub like : IsLike w y.workspace
  pub words_are : y.words ≡ words

only : (w : Workspace) (words : List ℕ) (done : ℕ) (want : Want) (ending : Ending) → OnlyCloses w words (acted (record w { gate = record { done = done }; want = want }) words ending)
only w words done want ending = record { like = record { wanted = refl; notes = refl; second = refl; wire = refl }; words_are = refl }

pub closes_only : (phase : Phase) (w : Workspace) (words : List ℕ) (want : Want) (to : Place) → Always (OnlyCloses w words) (closes phase w words want to)
closes_only phase w words want to = closing_always (OnlyCloses w words) phase w words (λ v. ends (record v { want = want }) words (Leads to))
    (only w words (risen w.gate.done) want (Leads to))
    (only w words w.gate.done w.want (Aborts (Gate w.gate.done)))

take_closes_only : (g : Geometry) (w : Workspace) (words : List ℕ) → Always (OnlyCloses w words) (closing_then Take w words (take_wanted g words))
take_closes_only g w words =
    let v : Workspace = gated w (risen w.gate.done) in
    closing_always (OnlyCloses w words) Take w words (take_wanted g words)
    (if_always (OnlyCloses w words) (nat_lt v.wanted g.buckets) (ends (record v { want = WantTake v.wanted }) words (Leads (at First 0))) (ends v words (Aborts (Range v.wanted)))
    (only w words (risen w.gate.done) (WantTake v.wanted) (Leads (at First 0)))
    (only w words (risen w.gate.done) w.want (Aborts (Range v.wanted))))
    (only w words w.gate.done w.want (Aborts (Gate w.gate.done)))

pub take_only : (g : Given) (index : ℕ) (w : Workspace) (words : List ℕ) → Always (OnlyCloses w words) (take_tree g (suc index) w words)
take_only g index w words =
    subst (λ (b : Bool). Always (OnlyCloses w words) (if b then store_wanted g w words else closing_then Take w words (take_wanted g.space.geometry words))) (sym (not_zero index)) (take_closes_only g.space.geometry w words)
