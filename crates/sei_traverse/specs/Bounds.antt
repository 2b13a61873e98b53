-- How far a traversal has come, which bounds the number of its steps.
use Rattle.std.specs.Prelude.{◌≡◌, ℕ, ◌+◌, ◌*◌, ◌≤◌, min}
use Rattle.sei_pass.specs.declared.spaces.PassSpace.{PassSpace}
use Rattle.sei_fault.specs.Counts.{Counts}
use Rattle.sei_fault.specs.declared.place.Phase.{Phase}
use Rattle.sei_fault.specs.declared.place.Phase.TheVariants.{Guard, Take, First, Restore, Second, Compare, Verify, Enter, Give, Send, Done}
use Rattle.sei_traverse.specs.declared.turned.State.{State}
use Rattle.sei_traverse.specs.declared.turned.State.TheVariants.{Went, Finished, Refused, Aborted}
use Rattle.sei_traverse.specs.declared.workspace.Workspace.{Workspace}
use Rattle.sei_traverse.specs.State.{TraversalState}

-- the places in the order in which they are passed, where no log is longer than its room. All places of a pass have one number
abbrev pub place_number : PassSpace → Phase → ℕ → ℕ
place_number space Guard index = 0
place_number space Take index = 1 + min index 1
place_number space First index = 3
place_number space Restore index = 4 + min index space.log
place_number space Second index = 5 + space.log
place_number space Compare index = 6 + space.log + min index space.log
place_number space Verify index = 7 + 2 * space.log + min index (space.log + 1)
place_number space Enter index = 9 + 3 * space.log
place_number space Give index = 10 + 3 * space.log
place_number space Send index = 11 + 3 * space.log
place_number space Done index = 12 + 3 * space.log

-- the last of these numbers
abbrev pub last_number : PassSpace → ℕ
last_number space = 12 + 3 * space.log

-- how many statements both passes made
abbrev pub made_by : Workspace → ℕ
made_by w = w.first.made + w.second.made

-- how far a workspace has come: how many statements it made, and the number of its place. Each step without a strike adds to one
-- of them, and takes from none
abbrev pub reached : PassSpace → Workspace → ℕ
reached space w = made_by w + place_number space w.place.phase w.place.index

-- n steps are made at most without a strike
abbrev pub honest_steps : PassSpace → ℕ
honest_steps space = 2 * space.budget + 3 * space.log + 11

-- n steps are made at most, with one strike: a strike leads back by the last number at most
abbrev pub most_steps : PassSpace → ℕ
most_steps space = 2 * space.budget + 6 * space.log + 26

-- it made no more steps than it has come far; with one strike, no more than what a strike may lead back on top of that
pub record StepsWithin (t : TraversalState) (begin now : Counts) : Type 0 where
  pub later : begin.struck ≤ now.struck
  pub unstruck : now.struck ≡ begin.struck → t.steps ≤ reached t.space t.workspace
  pub struck : now.struck ≡ begin.struck + 1 → t.steps ≤ reached t.space t.workspace + last_number t.space + 1

-- behind a step: the same, or where it ended, with one strike at most, the bound
abbrev pub StepsAfter : TraversalState → Counts → Counts → State → Type 0
StepsAfter t begin now Went = StepsWithin t begin now
StepsAfter t begin now Finished = now.struck ≤ begin.struck + 1 → t.steps ≤ most_steps t.space
StepsAfter t begin now Refused = now.struck ≤ begin.struck + 1 → t.steps ≤ most_steps t.space
StepsAfter t begin now (Aborted abort) = now.struck ≤ begin.struck + 1 → t.steps ≤ most_steps t.space
