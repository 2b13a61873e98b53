-- What a traversal holds.
use Rattle.std.specs.Prelude.{◌≡◌, ℕ, ◌+◌, ◌-◌, ◌^◌, Bool, true, false, Option, min}
use Rattle.std.specs.Option.{option_and_then}
use Rattle.sei_code.specs.Coded.{read_of, sealed}
use Rattle.sei_code.specs.Kept.{empty_kept}
use Rattle.sei_log.specs.declared.log.Change.{Change}
use Rattle.sei_pass.specs.declared.spaces.PassSpace.{PassSpace}
use Rattle.sei_fault.specs.declared.place.Phase.TheVariants.{Guard}
use Rattle.sei_pass.specs.declared.given.Sealed.{Sealed}
use Rattle.sei_pass.specs.State.{new_pass}
use Rattle.sei_traverse.specs.declared.turned.State.{State}
use Rattle.sei_traverse.specs.declared.turned.State.TheVariants.{Went, Finished, Refused, Aborted}
use Rattle.sei_traverse.specs.declared.turned.Want.TheVariants.{Nothing}
use Rattle.sei_traverse.specs.declared.workspace.Workspace.{Workspace}
use Rattle.sei_traverse.specs.Acts.{at}
use Rattle.sei_traverse.specs.CallContext.{no_notes}
use Rattle.sei_traverse.specs.Workspaces.{IsWorkspace}

-- what its acts work on, its space, how many steps it made since it began, and whether it goes on
pub record TraversalState : Type 0 where
  pub workspace : Workspace
  pub space : PassSpace
  pub steps : ℕ
  pub running : Bool

-- its workspace is as every workspace is, and of its space
pub record IsTraversal (t : TraversalState) : Type 0 where
  pub workspace : IsWorkspace t.workspace
  pub space : t.workspace.first.space ≡ t.space

-- before its first step
abbrev pub begun_workspace : PassSpace → Sealed → Workspace
begun_workspace space sealed = record {
  sealed = sealed;
  place = at Guard 0;
  gate = record { done = 0 };
  wanted = 0;
  want = Nothing;
  first = new_pass space;
  second = new_pass space;
  first_log = empty_kept Change space.log;
  second_log = empty_kept Change space.log;
  notes = no_notes;
  wire = empty_kept ℕ space.bytes;
}

abbrev pub begun_traversal : PassSpace → Sealed → TraversalState
begun_traversal space sealed = record { workspace = begun_workspace space sealed; space = space; steps = 0; running = true }

-- before the first begin nothing is sealed, and it does not run

abbrev pub unsealed : Sealed
unsealed = record { number = 0; nth = sealed 0; code = 0; answer = 0 }

abbrev pub new_traversal : PassSpace → TraversalState
new_traversal space = record { workspace = begun_workspace space unsealed; space = space; steps = 0; running = false }

-- one step more; at the last value of a u64 the number stays
abbrev pub one_more : ℕ → ℕ
one_more steps = min (steps + 1) (2 ^ 64 - 1)

abbrev pub is_running : State → Bool
is_running Went = true
is_running Finished = false
is_running Refused = false
is_running (Aborted abort) = false

-- the time that was noted, where one was and it reads
abbrev pub noted_time : TraversalState → Option ℕ
noted_time t = option_and_then read_of t.workspace.notes.now
