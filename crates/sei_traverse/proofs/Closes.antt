-- A phase that is next to be closed is closed, by one test.
use Rattle.std.proofs.Common.{◌≡◌, ℕ, ◌≤◌, Bool, List, ap, arith}
use Rattle.std.specs.Prelude.{if◌then◌else◌}
use Rattle.sei_fault.specs.declared.place.Phase.{Phase}
use Rattle.sei_fault.specs.declared.place.Place.{Place}
use Rattle.sei_fault.specs.Phases.{phase_number}
use Rattle.sei_fault.specs.Tree.{Tree, honest}
use Rattle.sei_fault.specs.Weights.{weighed}
use Rattle.sei_gate.specs.Closing.{risen}
use Rattle.sei_stmt.specs.Machine.{Outcome}
use Rattle.sei_stmt.specs.Machine.Outcome.{Next, Halted, Bad}
use Rattle.sei_traverse.specs.declared.turned.Want.TheVariants.{Nothing}
use Rattle.sei_traverse.specs.declared.workspace.Ending.TheVariants.{Leads}
use Rattle.sei_traverse.specs.declared.workspace.Workspace.{Workspace}
use Rattle.sei_traverse.specs.Acts.{Acted, acted, ends, closed_to, closing_then, closes}
use Rattle.sei_pass.specs.declared.given.Which.{Which}
use Rattle.sei_traverse.specs.PassActs.{asked_behind, pass_from}
use Rattle.sei_traverse.specs.Phases.{closing_want, closing_place, closing_tree}
use Rattle.sei_traverse.proofs.Branches.{same}

-- the workspace behind an act that closed a phase
abbrev pub closed_workspace : Workspace → Workspace
closed_workspace w = record w { gate = record { done = risen w.gate.done } }

-- and where nothing is wanted
abbrev pub closed : Workspace → Workspace
closed w = record w { gate = record { done = risen w.gate.done }; want = Nothing }

pub closes_then : (phase : Phase) (w : Workspace) (words : List ℕ) (on : Workspace → Tree Acted) → w.gate.done ≡ phase_number phase →
    honest (closing_then phase w words on) ≡ honest (on (closed_workspace w))
closes_then phase w words on h =
    ap (λ (b : Bool). honest (closed_to w words on (b, if b then risen w.gate.done else w.gate.done))) (same w.gate.done (phase_number phase) h)

pub closes_in_step : (phase : Phase) (w : Workspace) (words : List ℕ) (to : Place) → w.gate.done ≡ phase_number phase → honest (closes phase w words Nothing to) ≡ acted (closed w) words (Leads to)
closes_in_step phase w words to h = closes_then phase w words (λ v. ends (record v { want = Nothing }) words (Leads to)) h

-- a phase that is only closed leads on, with its want
pub only_closes : (phase : Phase) (w : Workspace) (words : List ℕ) → w.gate.done ≡ phase_number phase →
    honest (closing_tree phase w words) ≡ acted (record (closed_workspace w) { want = closing_want w phase }) words (Leads (closing_place phase))
only_closes phase w words h = closes_then phase w words (λ v. ends (record v { want = closing_want w phase }) words (Leads (closing_place phase))) h

-- behind a statement of a pass, no fewer questions are asked than is said

pub pass_behind : (which : Which) (w : Workspace) (words : List ℕ) (o : Outcome) → asked_behind o ≤ weighed (pass_from which w words o)
pass_behind which w words (Next index) = omega arith
pass_behind which w words Halted = omega arith
pass_behind which w words (Bad cause) = omega arith
