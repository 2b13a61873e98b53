use Rattle.std.proofs.Common.{◌≡◌, ℕ, List}
use Rattle.std.specs.Prelude.{map, take}
use Rattle.sei_stmt.specs.declared.program.Program.{Program}
use Rattle.sei_stmt.specs.Written.{prog_of}
use Rattle.sei_hand.specs.Commands as commands
use Rattle.sei_hand.proofs.commands.programs.Given as goal

-- the programs of the first i commands
pub record SoFar (i : ℕ) (made : List Program) : Type 0 where
  pub programs : map prog_of made ≡ take i commands.programs

abbrev pub invariant-loop-verb : goal.invariant-loop-verb
invariant-loop-verb l = SoFar l.verb-index l.programs.items
