-- What is shown of the acts of each phase under one strike.
use Rattle.std.specs.Prelude.{⊤}
use Rattle.std.proofs.Common.{◌≡◌, ℕ, ◌+◌, ◌^◌, ◌<◌, List, Option, Some, None}
use Rattle.sei_fault.specs.Phases.{phase_number}
use Rattle.sei_fault.specs.declared.cause.AbortCause.TheVariants.{Range}
use Rattle.sei_fault.specs.StruckRuns.{StruckRun}
use Rattle.sei_fault.specs.Tree.{honest}
use Rattle.sei_fault.specs.Weights.{weighed}
use Rattle.sei_fault.specs.declared.place.Phase.{Phase}
use Rattle.sei_fault.specs.declared.place.Phase.TheVariants.{Guard, Take, Send, Done}
use Rattle.sei_fault.specs.declared.place.Place.{Place}
use Rattle.sei_traverse.specs.declared.turned.Want.TheVariants.{Nothing}
use Rattle.sei_traverse.specs.declared.workspace.Ending.{Ending}
use Rattle.sei_traverse.specs.declared.workspace.Ending.TheVariants.{Leads, Refuses, Aborts}
use Rattle.sei_traverse.specs.declared.workspace.Workspace.{Workspace}
use Rattle.sei_traverse.specs.Acts.{Acted, at}
use Rattle.sei_traverse.specs.CallContext.{CallContext, Follows}
use Rattle.sei_traverse.specs.FaultInvariant.{Knows, Wanted}
use Rattle.sei_traverse.proofs.ClosesNext.{ClosesNext}
use Rattle.sei_traverse.specs.Given.{Given, given_of}
use Rattle.sei_traverse.specs.Step.{act_in}
use Rattle.sei_traverse.specs.Struck.{HasCopyOfSome, StruckIn}
use Rattle.sei_traverse.specs.Unstruck.{CleanIn}

-- what is lent in a phase, of the words behind an act there
abbrev pub lent_in : Phase → List ℕ → Option (List ℕ)
lent_in Guard words = None
lent_in Take words = None
lent_in Send words = None
lent_in Done words = None
lent_in phase words = Some words

-- what the acts of a phase are given, where the wanted bucket is lent
abbrev pub given_for : CallContext → Phase → ℕ → Given
given_for e Guard wanted = given_of e.behavior e.input e.space None
given_for e Take wanted = given_of e.behavior e.input e.space None
given_for e Send wanted = given_of e.behavior e.input e.space None
given_for e Done wanted = given_of e.behavior e.input e.space None
given_for e phase wanted = given_of e.behavior e.input e.space (Some wanted)

-- the act leads to a place where the gate is right, and the case of its phase stands; or to the end
pub data LeadsWell (e : CallContext) (phase : Phase) (w : Workspace) (words : List ℕ) (asked : ℕ) (to : Place) : Type 0 where
  Onward : w.gate.done ≡ phase_number to.phase → StruckIn e (record w { place = to }) (lent_in phase words) asked to.phase → LeadsWell e phase w words asked to
  ToEnd : phase ≡ Done → to ≡ at Done 1 → w.gate.done ≡ 11 → HasCopyOfSome e w asked → LeadsWell e phase w words asked to

abbrev pub EndsRight : CallContext → Phase → Workspace → List ℕ → ℕ → Ending → Type 0
EndsRight e phase w words asked (Leads to) = LeadsWell e phase w words asked to
EndsRight e phase w words asked Refuses = (phase ≡ Guard) × (w.gate.done ≡ 0)
EndsRight e phase w words asked (Aborts cause) = ⊤

-- an act under one strike, or behind one, from a workspace with the right gate
pub record ActsWell (e : CallContext) (phase : Phase) (asked : ℕ) (y : Acted) : Type 0 where
  pub wants : Wanted e y.workspace (lent_in phase y.words) asked y.workspace.want
  pub once : ClosesNext e (phase_number phase) y.workspace (y.ending ≡ Aborts (Range y.workspace.wanted))
  pub ends : EndsRight e phase y.workspace y.words asked y.ending

pub record PhaseLaws (e : CallContext) (phase : Phase) : Type 0 where
  -- a clean traversal may be moved to any place of its phase by a strike
  pub moved : (w : Workspace) (lent : Option (List ℕ)) (steps asked index : ℕ) → CleanIn e w lent steps asked phase → Knows e w phase →
      StruckIn e (record w { place = at phase index }) lent asked phase
  -- an act of a clean one in which a strike falls
  pub struck : (now : ℕ) → now < 2 ^ 64 → Follows e.clock now → (w : Workspace) (words : List ℕ) (steps asked n : ℕ) (y : Acted) → w.want ≡ Nothing →
      CleanIn e w (lent_in phase words) steps asked phase → Knows e w phase →
      StruckRun (act_in (given_for e phase w.wanted) now phase w.place.index w words) y n → ActsWell e phase (asked + n) y
  -- an act without a strike, behind one
  pub honest_on : (now : ℕ) → now < 2 ^ 64 → Follows e.clock now → (w : Workspace) (words : List ℕ) (asked : ℕ) → w.want ≡ Nothing → w.gate.done ≡ phase_number phase → w.sealed ≡ e.sealed →
      StruckIn e w (lent_in phase words) asked phase →
      ActsWell e phase (asked + weighed (act_in (given_for e phase w.wanted) now phase w.place.index w words))
      (honest (act_in (given_for e phase w.wanted) now phase w.place.index w words))
