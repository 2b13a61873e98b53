-- The act of a step of a pass.
use Rattle.std.specs.Prelude.{ℕ, List}
use Rattle.sei_code.specs.Kept.{Kept}
use Rattle.sei_fault.specs.declared.place.Phase.{Phase}
use Rattle.sei_fault.specs.declared.place.Phase.TheVariants.{First, Second}
use Rattle.sei_fault.specs.Tree.{Tree, bound}
use Rattle.sei_log.specs.declared.log.Change.{Change}
use Rattle.sei_stmt.specs.Machine.{Machine, Outcome, After}
use Rattle.sei_stmt.specs.Machine.Outcome.{Next, Halted, Bad}
use Rattle.sei_stmt.specs.Statements.{step_tree}
use Rattle.sei_pass.specs.declared.given.Which.{Which}
use Rattle.sei_pass.specs.declared.given.Which.TheVariants.{Making, Reading}
use Rattle.sei_pass.specs.State.{PassState}
use Rattle.sei_pass.specs.Steps.{machine_of}
use Rattle.sei_traverse.specs.declared.turned.Want.TheVariants.{Nothing}
use Rattle.sei_traverse.specs.declared.workspace.Ending.TheVariants.{Leads, Aborts}
use Rattle.sei_traverse.specs.declared.workspace.Workspace.{Workspace}
use Rattle.sei_traverse.specs.Acts.{Acted, ends, at, next_phase, closes}
use Rattle.sei_traverse.specs.Given.{Given, setting_in}

-- the phase of a pass
abbrev pub pass_phase : Which → Phase
pass_phase Making = First
pass_phase Reading = Second

-- a pass and its log

abbrev pub pass_in : Which → Workspace → PassState
pass_in Making w = w.first
pass_in Reading w = w.second

abbrev pub log_in : Which → Workspace → Kept Change
log_in Making w = w.first_log
log_in Reading w = w.second_log

abbrev pub machine_in : Which → Workspace → List ℕ → Machine
machine_in which w words = machine_of (pass_in which w) words (log_in which w) w.notes

-- this pass with the machine's registers, lists, output code and number of statements
abbrev pub pass_of : PassState → Machine → PassState
pass_of p m = record p { registers = m.registers; input = m.input; output = m.output; bytes = m.bytes; code = m.code; made = m.made }

abbrev pub with_machine : Which → Workspace → Machine → Workspace
with_machine Making w m = record w { first = pass_of w.first m; first_log = m.log; notes = m.notes }
with_machine Reading w m = record w { second = pass_of w.second m; second_log = m.log; notes = m.notes }

-- what the questions weigh that are asked after a statement: if it halts, the test that closes the phase
abbrev pub asked_behind : Outcome → ℕ
asked_behind (Next index) = 0
asked_behind Halted = 1
asked_behind (Bad cause) = 0

-- a statement leads to the next one, and Halt closes the phase
abbrev pub pass_from : Which → Workspace → List ℕ → Outcome → Tree Acted
pass_from which w words (Next index) = ends w words (Leads (at (pass_phase which) index))
pass_from which w words Halted = closes (pass_phase which) w words Nothing (at (next_phase (pass_phase which)) 0)
pass_from which w words (Bad cause) = ends w words (Aborts cause)

abbrev pub pass_to : Which → Workspace → After → Tree Acted
pass_to which w x = pass_from which (with_machine which w x.machine) x.machine.words x.outcome

-- statement number `index` of the table, for a clock that answers this
abbrev pub pass_tree : Which → Given → ℕ → ℕ → Workspace → List ℕ → Tree Acted
pass_tree which g now index w words = bound (step_tree (setting_in g which w.sealed now) index (machine_in which w words)) (pass_to which w)

-- the one at this place
abbrev pub passing : Which → Given → ℕ → Workspace → List ℕ → Tree Acted
passing which g now w words = pass_tree which g now w.place.index w words
