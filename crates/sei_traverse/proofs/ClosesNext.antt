-- How the number of closed phases moves in a step, from this number on.
use Rattle.std.proofs.Common.{◌≡◌, ℕ, ◌+◌, ◌≤◌}
use Rattle.sei_fault.specs.Phases.{phase_number}
use Rattle.sei_fault.specs.declared.place.Phase.{Phase}
use Rattle.sei_traverse.specs.Phases.{closing_want}
use Rattle.sei_traverse.specs.declared.turned.Want.TheVariants.{Nothing}
use Rattle.sei_traverse.specs.declared.workspace.Workspace.{Workspace}
use Rattle.sei_traverse.specs.CallContext.{CallContext}

-- as in `ClosesOnce`, but for the place of the workspace from which the phase was closed
pub data ClosesNext (e : CallContext) (before : ℕ) (w : Workspace) (ended : Type 0) : Type 0 where
  Stays : w.gate.done ≡ before → w.want ≡ Nothing → ClosesNext e before w ended
  Closes : (phase : Phase) → before ≡ phase_number phase → w.gate.done ≡ before + 1 → w.want ≡ closing_want w phase → ClosesNext e before w ended
  Lacks : before ≡ 1 → w.gate.done ≡ 2 → w.want ≡ Nothing → e.space.geometry.buckets ≤ w.wanted → ended → ClosesNext e before w ended
