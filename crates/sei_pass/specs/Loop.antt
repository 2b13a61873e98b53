-- What a loop over the steps of a pass does: whole steps that lead on in the pass, and a part of one more.
use Rattle.std.specs.Prelude.{◌≡◌, ℕ, ◌+◌, ◌<◌, ◌^◌, ⊤, List, Option, Some, None, slice_get}
use Rattle.sei_fault.specs.declared.place.Phase.{Phase}
use Rattle.sei_fault.specs.declared.place.Place.{Place}
use Rattle.sei_fault.specs.Chain.{Chain}
use Rattle.sei_fault.specs.Question.{Question, Answer}
use Rattle.sei_fault.specs.Question.Question.{Goes}
use Rattle.sei_fault.specs.Tree.{Runs}
use Rattle.sei_log.specs.declared.notes.Notes.{Notes}
use Rattle.sei_stmt.specs.declared.stmt.Stmt.{Stmt}
use Rattle.sei_stmt.specs.Handling.{Behavior}
use Rattle.sei_stmt.specs.Machine.{Machine, Setting}
use Rattle.sei_words.specs.Words.{BucketWords}
use Rattle.sei_pass.specs.declared.frame.Frame.{Frame}
use Rattle.sei_pass.specs.declared.loops.Asked.{Asked}
use Rattle.sei_pass.specs.declared.loops.Asked.TheVariants as asked
use Rattle.sei_pass.specs.declared.loops.Exit.{Exit}
use Rattle.sei_pass.specs.declared.loops.Exit.TheVariants.{At, Halted, Bad, Struck, Alone}
use Rattle.sei_pass.specs.declared.loops.Ran.{Ran}
use Rattle.sei_pass.specs.State.{PassState}
use Rattle.sei_pass.specs.Arms.{arm_tree}
use Rattle.sei_pass.specs.Work.{Work, frame_machine, pass_machine}

abbrev pub in_pass : Phase → ℕ → Place
in_pass phase index = record { phase = phase; index = index }

-- where a pass stands, and its core
pub record Here (S : Type 0) : Type 0 where
  pub machine : Machine
  pub index : ℕ
  pub core : S

-- the statement that stands here was asked for and ended so, with this machine and core
pub record Asks {S : Type 0} (gives : S → (q : Question) → Answer q → S → Type 0) (g : Setting) (phase : Phase) (x : Here S) (end : Asked) (m : Machine) (core : S) : Type 0 where
  pub statement : Stmt
  pub stands : slice_get g.statements x.index ≡ Some statement
  pub room : x.machine.made < g.budget
  pub runs : Runs gives (arm_tree g phase x.index x.machine statement) x.core core (record { machine = m; asked = end })

-- one whole step that leads on in the pass
pub record Leads {S : Type 0} (gives : S → (q : Question) → Answer q → S → Type 0) (g : Setting) (phase : Phase) (x y : Here S) : Type 0 where
  pub to : ℕ
  pub then : S
  pub asks : Asks gives g phase x (asked.Next to) y.machine then
  pub goes : gives then (Goes (in_pass phase to)) (in_pass phase y.index) y.core

-- what was done of the step that begins here if the loop ended so
abbrev pub Leaves : {S : Type 0} → (S → (q : Question) → Answer q → S → Type 0) → Setting → Phase → Here S → Exit → Machine → S → Type 0
Leaves gives g phase x (At p) m core = (to : ℕ) × (then : _) × Asks gives g phase x (asked.Next to) m then × gives then (Goes (in_pass phase to)) p core
Leaves gives g phase x Halted m core = Asks gives g phase x asked.Halted m core
Leaves gives g phase x (Bad cause) m core = Asks gives g phase x (asked.Bad cause) m core
Leaves gives g phase x (Struck act times) m core = Asks gives g phase x (asked.Struck act times) m core
Leaves gives g phase x Alone m core = (m ≡ x.machine) × (core ≡ x.core)

-- where a step of the loop led: on, to the statement with this index, or out of the loop
pub data Led : Type 0 where
  On : (index : ℕ) → Led
  Out : (exit : Exit) → Led

-- the same as the code has it: the index, or none and the exit
abbrev pub led_to : Option ℕ → Exit → Led
led_to (Some index) exit = Led.On index
led_to None exit = Led.Out exit

-- what was done of the step that begins here if it led there
abbrev pub LeadsOrLeaves : {S : Type 0} → (S → (q : Question) → Answer q → S → Type 0) → Setting → Phase → Here S → Led → Machine → S → Type 0
LeadsOrLeaves gives g phase x (Led.On index) m core = Leads gives g phase x (record { machine = m; index = index; core = core })
LeadsOrLeaves gives g phase x (Led.Out exit) m core = Leaves gives g phase x exit m core

-- so many whole steps, and then a part of the one at this index
pub record RunsLoop {S : Type 0} (gives : S → (q : Question) → Answer q → S → Type 0) (g : Setting) (phase : Phase) (before index : ℕ) (x : Here S) (exit : Exit) (m : Machine) (core : S) : Type 0 where
  pub machine : Machine
  pub then : S
  pub chain : Chain (Leads gives g phase) before x (record { machine = machine; index = index; core = then })
  pub leaves : Leaves gives g phase (record { machine = machine; index = index; core = then }) exit m core

-- a statement that was struck has an index after it
abbrev pub HasIndexAfter : Exit → ℕ → Type 0
HasIndexAfter (At p) index = ⊤
HasIndexAfter Halted index = ⊤
HasIndexAfter (Bad cause) index = ⊤
HasIndexAfter (Struck act times) index = index + 1 < 2 ^ 64
HasIndexAfter Alone index = ⊤

-- P holds of the exit, if it led out of the loop
abbrev pub IfOut : Led → (Exit → Type 0) → Type 0
IfOut (Led.On index) P = ⊤
IfOut (Led.Out exit) P = P exit

-- What the loop does, by what the code works on, whatever the notes and the rest of the setting are.

-- the machine of a frame stands at this index
abbrev pub frame_here : {L S : Type 0} → (L → Option BucketWords) → Work Frame L S → Notes → ℕ → Here S
frame_here lent_bucket x notes index = record { machine = frame_machine lent_bucket x notes; index = index; core = x.core }

-- the machine of a pass stands at this index
abbrev pub pass_here : {L S : Type 0} → (L → Option BucketWords) → Work PassState L S → Notes → ℕ → Here S
pass_here lent_bucket x notes index = record { machine = pass_machine lent_bucket x notes; index = index; core = x.core }

-- the step of these statements at this index led there, where the budget is not spent
abbrev pub FrameLeads : {L S : Type 0} → (S → (q : Question) → Answer q → S → Type 0) → (L → Option BucketWords) → List Stmt → Phase → ℕ → Led → Work Frame L S → Work Frame L S → Type 0
FrameLeads gives lent_bucket statements phase index led x y =
    (g : Setting) (notes : Notes) → g.statements ≡ statements → x.pass.made < g.budget →
    LeadsOrLeaves gives g phase (frame_here lent_bucket x notes index) led (frame_machine lent_bucket y notes) y.core

-- the loop ran so from this index on, with this budget
abbrev pub FrameRuns : {L S : Type 0} → (S → (q : Question) → Answer q → S → Type 0) → (L → Option BucketWords) → List Stmt → ℕ → Phase → ℕ → Ran → Work Frame L S → Work Frame L S → Type 0
FrameRuns gives lent_bucket statements budget phase from ran x y =
    (g : Setting) (notes : Notes) → g.statements ≡ statements → g.budget ≡ budget →
    RunsLoop gives g phase ran.before ran.index (frame_here lent_bucket x notes from) ran.exit (frame_machine lent_bucket y notes) y.core

-- the step of a pass over the table of a handler at this index led there
abbrev pub PassLeads : {L S : Type 0} → (S → (q : Question) → Answer q → S → Type 0) → (L → Option BucketWords) → Behavior → Phase → ℕ → Led → Work PassState L S → Work PassState L S → Type 0
PassLeads gives lent_bucket h phase index led x y =
    (g : Setting) (notes : Notes) → g.statements ≡ h.statements → g.budget ≡ x.pass.space.budget →
    LeadsOrLeaves gives g phase (pass_here lent_bucket x notes index) led (pass_machine lent_bucket y notes) y.core

-- the loop of a pass over the table of a handler ran so from this index on
abbrev pub PassRuns : {L S : Type 0} → (S → (q : Question) → Answer q → S → Type 0) → (L → Option BucketWords) → Behavior → Phase → ℕ → Ran → Work PassState L S → Work PassState L S → Type 0
PassRuns gives lent_bucket h phase from ran x y =
    (g : Setting) (notes : Notes) → g.statements ≡ h.statements → g.budget ≡ x.pass.space.budget →
    RunsLoop gives g phase ran.before ran.index (pass_here lent_bucket x notes from) ran.exit (pass_machine lent_bucket y notes) y.core
