-- One step of a traversal.
use Rattle.std.specs.Prelude.{ℕ, ◌+◌, Bool, true, false, ◌==◌, ◌&&◌, nat_lt, List, length, Option, Some, None, slice_get, if◌then◌else◌}
use Rattle.std.specs.Option.{option_map}
use Rattle.sei_fault.specs.declared.cause.AbortCause.{AbortCause}
use Rattle.sei_fault.specs.declared.cause.AbortCause.TheVariants.{Gate, Table}
use Rattle.sei_fault.specs.declared.place.Act.{Act}
use Rattle.sei_fault.specs.declared.place.Act.TheVariants.{Plain, Halt}
use Rattle.sei_fault.specs.declared.place.Phase.{Phase}
use Rattle.sei_fault.specs.declared.place.Phase.TheVariants.{Guard, Take, First, Restore, Second, Compare, Verify, Enter, Give, Send, Done}
use Rattle.sei_fault.specs.declared.place.Place.{Place}
use Rattle.sei_fault.specs.declared.place.Times.{Times}
use Rattle.sei_fault.specs.declared.place.Times.TheVariants.{Once, Skip, Twice}
use Rattle.sei_fault.specs.Phases.{phase_number}
use Rattle.sei_fault.specs.Question.{Question, Answer}
use Rattle.sei_fault.specs.Question.Question.{Often, Goes}
use Rattle.sei_fault.specs.Tree.{Tree, Runs, bound}
use Rattle.sei_fault.specs.Tree.Tree.{Done as Ended, Ask}
use Rattle.sei_pass.specs.Acts.{act_of}
use Rattle.sei_pass.specs.Steps.{IsAnswer}
use Rattle.sei_traverse.specs.declared.turned.State.{State}
use Rattle.sei_traverse.specs.declared.turned.State.TheVariants.{Went, Finished, Refused, Aborted}
use Rattle.sei_traverse.specs.declared.turned.Want.TheVariants.{Nothing}
use Rattle.sei_traverse.specs.declared.workspace.Ending.{Ending}
use Rattle.sei_traverse.specs.declared.workspace.Ending.TheVariants.{Leads, Refuses, Aborts}
use Rattle.sei_traverse.specs.declared.workspace.Workspace.{Workspace}
use Rattle.sei_traverse.specs.Acts.{Acted, at, next_phase}
use Rattle.sei_pass.specs.declared.given.Which.TheVariants.{Making, Reading}
use Rattle.sei_traverse.specs.PassActs.{pass_tree}
use Rattle.sei_traverse.specs.Phases.{guard_tree, take_tree, restore_tree, compared, compare_tree, verify_tree, closing_tree}
use Rattle.sei_traverse.specs.Given.{Given}
use Rattle.sei_stmt.specs.Handling.{Behavior}

-- the act at a place, for a clock that answers this

abbrev pub act_in : Given → ℕ → Phase → ℕ → Workspace → List ℕ → Tree Acted
act_in g now Guard index w words = guard_tree g w words
act_in g now Take index w words = take_tree g index w words
act_in g now First index w words = pass_tree Making g now index w words
act_in g now Restore index w words = restore_tree index w words
act_in g now Second index w words = pass_tree Reading g now index w words
act_in g now Compare index w words = compare_tree index w words
act_in g now Verify index w words = verify_tree index w words
act_in g now Enter index w words = closing_tree Enter w words
act_in g now Give index w words = closing_tree Give w words
act_in g now Send index w words = closing_tree Send w words
act_in g now Done index w words = closing_tree Done w words

abbrev pub act_tree : Given → ℕ → Workspace → List ℕ → Tree Acted
act_tree g now w words = act_in g now w.place.phase w.place.index w words

-- what the act is told as, or none where the place is no step of its phase

abbrev pub plain_below : ℕ → ℕ → Option Act
plain_below steps index = if nat_lt index steps then Some Plain else None

abbrev pub site_in : Behavior → Workspace → Phase → ℕ → Option Act
site_in s w Guard index = plain_below 1 index
site_in s w Take index = plain_below 2 index
site_in s w First index = option_map (act_of w.first.registers) (slice_get s.statements index)
site_in s w Restore index = plain_below (length w.first_log.items + 1) index
site_in s w Second index = option_map (act_of w.second.registers) (slice_get s.statements index)
site_in s w Compare index = plain_below (compared w + 1) index
site_in s w Verify index = plain_below (length w.second_log.items + 2) index
site_in s w Enter index = plain_below 1 index
site_in s w Give index = plain_below 1 index
site_in s w Send index = plain_below 1 index
site_in s w Done index = plain_below 1 index

abbrev pub site_of : Behavior → Workspace → Option Act
site_of s w = site_in s w w.place.phase w.place.index

-- where a step goes whose act was left out: to the next index, or behind a phase's last step to the next phase;
-- in the passes the last step is a Halt

abbrev pub is_halt : Act → Bool
is_halt Halt = true
is_halt act = false

abbrev pub is_last : Workspace → Phase → ℕ → Act → Bool
is_last w Guard index act = true
is_last w Take index act = index == 1
is_last w First index act = is_halt act
is_last w Restore index act = index == length w.first_log.items
is_last w Second index act = is_halt act
is_last w Compare index act = index == compared w
is_last w Verify index act = index == length w.second_log.items + 1
is_last w Enter index act = true
is_last w Give index act = true
is_last w Send index act = true
is_last w Done index act = false  -- behind Done 0 comes Done 1, the end

abbrev pub skipped : Workspace → Act → Place
skipped w act = if is_last w w.place.phase w.place.index act then at (next_phase w.place.phase) 0 else at w.place.phase (w.place.index + 1)

-- the traversal and the lent words behind a step, and whether it goes on
pub record StepResult : Type 0 where
  pub workspace : Workspace
  pub words : List ℕ
  pub state : State

abbrev pub step_result : Workspace → List ℕ → State → StepResult
step_result w words s = record { workspace = w; words = words; state = s }

abbrev pub aborted : Phase → AbortCause → State
aborted phase cause = Aborted (record { phase = phase; cause = cause })

-- Done 1 is the end
abbrev pub is_end : Place → Bool
is_end p = (phase_number p.phase == 10) && (p.index == 1)

-- at the end all phases are closed, or the step aborts that arrived there
abbrev pub arrival : Phase → Place → ℕ → State
arrival phase p done = if is_end p then (if done == 11 then Finished else aborted phase (Gate done)) else Went

-- the core is asked for the next place
abbrev pub goes : Workspace → List ℕ → Place → Tree StepResult
goes w words to = Ask (Goes to) (λ p. Ended (step_result (record w { place = p }) words (arrival w.place.phase p w.gate.done)))

-- where an act leads, unless it ended the traversal. What it wants is wanted in each case
abbrev pub unless_ended : (Place → Tree StepResult) → Workspace → List ℕ → Ending → Tree StepResult
unless_ended on w words (Leads to) = on to
unless_ended on w words Refuses = Ended (step_result w words Refused)
unless_ended on w words (Aborts cause) = Ended (step_result w words (aborted w.place.phase cause))

abbrev pub goes_from : Workspace → List ℕ → Ending → Tree StepResult
goes_from w words ending = unless_ended (goes w words) w words ending

abbrev pub goes_on : Acted → Tree StepResult
goes_on x = goes_from x.workspace x.words x.ending

abbrev pub once : Given → ℕ → Workspace → List ℕ → Tree StepResult
once g now w words = bound (act_tree g now w words) goes_on

-- the act once more, unless the first one ended the traversal; the clock may answer otherwise then
abbrev pub twice_from : Given → ℕ → Workspace → List ℕ → Ending → Tree StepResult
twice_from g later w words ending = unless_ended (λ to. once g later w words) w words ending

abbrev pub twice : Given → ℕ → Acted → Tree StepResult
twice g later x = twice_from g later x.workspace x.words x.ending

abbrev pub made_twice : Given → ℕ → ℕ → Workspace → List ℕ → Tree StepResult
made_twice g now later w words = bound (act_tree g now w words) (twice g later)

abbrev pub step_as : Given → ℕ → ℕ → Workspace → List ℕ → Act → Times → Tree StepResult
step_as g now later w words act Once = once g now w words
step_as g now later w words act Skip = goes w words (skipped w act)
step_as g now later w words act Twice = made_twice g now later w words

-- how often it is made is asked
abbrev pub step_of : Act → Given → ℕ → ℕ → Workspace → List ℕ → Tree StepResult
step_of act g now later w words = Ask (Often (record { place = w.place; act = act })) (step_as g now later w words act)

abbrev pub step_at : Option Act → Given → ℕ → ℕ → Workspace → List ℕ → Tree StepResult
step_at None g now later w words = Ended (step_result w words (aborted w.place.phase (Table w.place.index)))
step_at (Some act) g now later w words = step_of act g now later w words

-- a step: how often its act is made, the act, and the next place. The clock answers `now` to the act, and `later` where
-- that is made once more
abbrev pub traversal_step : Given → ℕ → ℕ → Workspace → List ℕ → Tree StepResult
traversal_step g now later w words =
    let v : Workspace = record w { want = Nothing } in
    step_at (site_of g.behavior v) g now later v words

-- for one answer of the clock the work goes like this; and for two, where the clock is asked again
pub record Timed {S R : Type 0} (gives : S → (q : Question) → Answer q → S → Type 0) (told : Option ℕ) (tree : ℕ → Tree R) (s t : S) (x : R) : Type 0 where
  pub now : ℕ
  pub answer : IsAnswer told now
  pub runs : Runs gives (tree now) s t x

pub record TimedTwice {S R : Type 0} (gives : S → (q : Question) → Answer q → S → Type 0) (told : Option ℕ) (tree : ℕ → ℕ → Tree R) (s t : S) (x : R) : Type 0 where
  pub now : ℕ
  pub later : ℕ
  pub answer : IsAnswer told now
  pub answer_later : IsAnswer told later
  pub runs : Runs gives (tree now later) s t x
