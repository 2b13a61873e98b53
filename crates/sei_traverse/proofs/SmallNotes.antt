-- A time that is noted is one of the clock.
use Rattle.std.proofs.Common.{◌≡◌, ℕ, ◌^◌, ◌<◌, Option, Some, None, sym, subst, refl}
use Rattle.sei_code.specs.Coded.{sealed}
use Rattle.sei_code.specs.declared.coded.Coded.{Coded}
use Rattle.sei_log.specs.declared.notes.Notes.{Notes}
use Rattle.sei_stmt.specs.Machine.{Machine, Setting, After}
use Rattle.sei_stmt.specs.Statements.{step_tree}
use Rattle.sei_fault.specs.StruckRuns.{StruckRun}
use Rattle.sei_fault.specs.Tree.{honest}
use Rattle.sei_fault.proofs.Public.{always_honest, always_struck}
use Rattle.sei_traverse.specs.Comes.{at_time, Agrees}
use Rattle.sei_traverse.specs.CallContext.{CallContext, Follows, first_setting, first_start, Whole}
use Rattle.sei_traverse.specs.Noting.{NotesTime}
use Rattle.sei_traverse.specs.Noting.NotesTime.{Same, Noted}
use Rattle.sei_traverse.specs.Struck.{IsNoted}
use Rattle.sei_traverse.proofs.NotingLaws.{notes_step}
use Rattle.sei_traverse.proofs.TimeLaws.{agrees_behind}
use Rattle.sei_traverse.proofs.NoteLaws.{read_sealed}
use Rattle.sei_traverse.proofs.ReadingLaws.{seal_says}

-- the seal of such a time
noted_sealed : (e : CallContext) (time : ℕ) → time < 2 ^ 64 → Follows e.clock time → IsNoted e (Some (sealed time))
noted_sealed e time small told c v is reads =
    let said : v ≡ time = seal_says (Some (sealed time)) time refl c v is reads in
    subst (λ (t : ℕ). (t < 2 ^ 64) × Follows e.clock t) (sym said) (small, told)

-- one that a time of the clock agrees with
pub small_agrees : (e : CallContext) (note : Option Coded) (time : ℕ) → Follows e.clock time → Agrees note time → IsNoted e note
small_agrees e None time told a = λ c v is reads. absurd (let z : ⊥ = cc in z)
small_agrees e (Some d) time told a = subst (λ (x : Coded). IsNoted e (Some x)) (sym a.0) (noted_sealed e time a.1 told)

-- the one of a whole first pass
pub small_whole : (e : CallContext) (time made : ℕ) (end : Machine) (notes : Notes) → Whole e time made end → notes ≡ end.notes → IsNoted e notes.now
small_whole e time made end notes whole is =
    small_agrees e notes.now time whole.told
    (subst (λ (n : Notes). Agrees n.now time) (sym is)
    (subst (λ (x : After). Agrees x.machine.notes.now time) whole.run.halts (agrees_behind (first_setting e) refl (first_start e) time made whole.small whole.small)))

-- the one that a sealed note tells
pub small_sealed : (e : CallContext) (noted : Option Coded) (time : ℕ) → noted ≡ Some (sealed time) → IsNoted e noted → (time < 2 ^ 64) × Follows e.clock time
small_sealed e noted time is n = n (sealed time) time is (read_sealed time)

-- and the one behind a step, under any answers, where it was so before

small_behind : (e : CallContext) (before after : Option Coded) (now : ℕ) → now < 2 ^ 64 → Follows e.clock now → NotesTime (Some now) before after → IsNoted e before → IsNoted e after
small_behind e before after now small told (Same same) h = subst (IsNoted e) (sym same) h
small_behind e before after now small told (Noted time answer is) h =
    let clock : time ≡ now = answer in
    subst (IsNoted e) (sym is) (subst (λ (t : ℕ). IsNoted e (Some (sealed t))) (sym clock) (noted_sealed e now small told))

module _ (e : CallContext) (g : Setting) (now : ℕ) (small : now < 2 ^ 64) (told : Follows e.clock now) (i : ℕ) (m : Machine) (h : IsNoted e m.notes.now) where
  pub small_honest : IsNoted e (honest (step_tree (at_time g now) i m)).machine.notes.now
  small_honest =
      small_behind e m.notes.now (honest (step_tree (at_time g now) i m)).machine.notes.now now small told
      (always_honest (λ (x : After). NotesTime (Some now) m.notes.now x.machine.notes.now) (step_tree (at_time g now) i m) (notes_step (Some now) (at_time g now) i m refl)) h

  pub small_struck : (x : After) (k : ℕ) → StruckRun (step_tree (at_time g now) i m) x k → IsNoted e x.machine.notes.now
  small_struck x k s =
      small_behind e m.notes.now x.machine.notes.now now small told
      (always_struck (λ (x : After). NotesTime (Some now) m.notes.now x.machine.notes.now) (step_tree (at_time g now) i m) x k (notes_step (Some now) (at_time g now) i m refl) s) h
