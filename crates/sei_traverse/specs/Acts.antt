-- How an act ends, and the acts that close a phase.
use Rattle.std.specs.Prelude.{ℕ, Bool, List, if◌then◌else◌}
use Rattle.sei_fault.specs.declared.cause.AbortCause.TheVariants.{Gate}
use Rattle.sei_fault.specs.declared.place.Phase.{Phase}
use Rattle.sei_fault.specs.declared.place.Phase.TheVariants.{Guard, Take, First, Restore, Second, Compare, Verify, Enter, Give, Send, Done}
use Rattle.sei_fault.specs.declared.place.Place.{Place}
use Rattle.sei_fault.specs.Phases.{phase_number}
use Rattle.sei_fault.specs.Tree.{Tree, bound}
use Rattle.sei_fault.specs.Tree.Tree.{Done as Ended}
use Rattle.sei_gate.specs.Closing.{closing}
use Rattle.sei_traverse.specs.declared.turned.Want.{Want}
use Rattle.sei_traverse.specs.declared.workspace.Ending.{Ending}
use Rattle.sei_traverse.specs.declared.workspace.Ending.TheVariants.{Leads, Aborts}
use Rattle.sei_traverse.specs.declared.workspace.Workspace.{Workspace}

-- the traversal and the lent words behind an act, and how it ended
pub record Acted : Type 0 where
  pub workspace : Workspace
  pub words : List ℕ
  pub ending : Ending

abbrev pub acted : Workspace → List ℕ → Ending → Acted
acted w words e = record { workspace = w; words = words; ending = e }

abbrev pub ends : Workspace → List ℕ → Ending → Tree Acted
ends w words e = Ended (acted w words e)

-- a place by its phase and index
abbrev pub at : Phase → ℕ → Place
at phase index = record { phase = phase; index = index }

-- the phase after this one; after the last one there is none
abbrev pub next_phase : Phase → Phase
next_phase Guard = Take
next_phase Take = First
next_phase First = Restore
next_phase Restore = Second
next_phase Second = Compare
next_phase Compare = Verify
next_phase Verify = Enter
next_phase Enter = Give
next_phase Give = Send
next_phase Send = Done
next_phase Done = Done

-- behind the closing test of a gate: where it was answered yes, the act goes on; else it aborts
abbrev pub closed_to : Workspace → List ℕ → (Workspace → Tree Acted) → Bool × ℕ → Tree Acted
closed_to w words on c =
    let v : Workspace = record w { gate = record { done = c.1 } } in
    if c.0 then on v else ends v words (Aborts (Gate c.1))

-- to close a phase, as the gate does
abbrev pub closing_then : Phase → Workspace → List ℕ → (Workspace → Tree Acted) → Tree Acted
closing_then phase w words on = bound (closing (phase_number phase) w.gate.done) (closed_to w words on)

-- the phase is closed, this is wanted, and the act leads to that place
abbrev pub closes : Phase → Workspace → List ℕ → Want → Place → Tree Acted
closes phase w words want to = closing_then phase w words (λ v. ends (record v { want = want }) words (Leads to))
