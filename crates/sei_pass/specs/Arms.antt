-- What a loop over the steps of a pass does with one statement: it asks how often the act is to be made, and makes it once.
use Rattle.std.specs.Prelude.{ℕ, Bool, true, false, if◌then◌else◌}
use Rattle.sei_fault.specs.declared.place.Act.{Act}
use Rattle.sei_fault.specs.declared.place.Phase.{Phase}
use Rattle.sei_fault.specs.declared.place.Site.{Site}
use Rattle.sei_fault.specs.declared.place.Times.{Times}
use Rattle.sei_fault.specs.declared.place.Times.TheVariants.{Once, Skip, Twice}
use Rattle.sei_fault.specs.Question.Question.{Often}
use Rattle.sei_fault.specs.Tree.{Tree, bound}
use Rattle.sei_fault.specs.Tree.Tree.{Done, Ask}
use Rattle.sei_stmt.specs.declared.stmt.Stmt.{Stmt}
use Rattle.sei_stmt.specs.declared.stmt.Stmt.TheVariants.{Now, Alloc, Parse, Render}
use Rattle.sei_stmt.specs.Machine.{Machine, Setting, Outcome, After, one_made}
use Rattle.sei_stmt.specs.Machine.Outcome.{Next, Halted, Bad}
use Rattle.sei_stmt.specs.Statements.{statement_tree}
use Rattle.sei_pass.specs.declared.loops.Asked.{Asked}
use Rattle.sei_pass.specs.declared.loops.Asked.TheVariants as asked
use Rattle.sei_pass.specs.Acts.{act_of}

-- the statements that the loop makes. The others are rare, and their steps are made by themselves
abbrev pub is_looped : Stmt → Bool
is_looped (Now to) = false
is_looped (Alloc to moment) = false
is_looped Parse = false
is_looped Render = false
is_looped s = true

abbrev pub site : Phase → ℕ → Act → Site
site phase index act = record { place = record { phase = phase; index = index }; act = act }

-- a machine, and how the statement ended whose step was asked for first
pub record Arm : Type 0 where
  pub machine : Machine
  pub asked : Asked

abbrev pub asked_of : Outcome → Asked
asked_of (Next index) = asked.Next index
asked_of Halted = asked.Halted
asked_of (Bad cause) = asked.Bad cause

abbrev pub arm_of : After → Tree Arm
arm_of x = Done (record { machine = x.machine; asked = asked_of x.outcome })

-- the statement is counted and made if it is to be made once
abbrev pub arm_as : Tree After → Machine → Act → Times → Tree Arm
arm_as tree m act Once = bound tree arm_of
arm_as tree m act Skip = Done (record { machine = m; asked = asked.Struck act Skip })
arm_as tree m act Twice = Done (record { machine = m; asked = asked.Struck act Twice })

abbrev pub arm_at : Setting → Phase → ℕ → Machine → Stmt → Act → Tree Arm
arm_at g phase index m s act = Ask (Often (site phase index act)) (arm_as (statement_tree g index (one_made m) s) m act)

-- how often, and then the statement, if the loop makes such statements
abbrev pub arm_tree : Setting → Phase → ℕ → Machine → Stmt → Tree Arm
arm_tree g phase index m s = if is_looped s then arm_at g phase index m s (act_of m.registers s) else Done (record { machine = m; asked = asked.Alone })
