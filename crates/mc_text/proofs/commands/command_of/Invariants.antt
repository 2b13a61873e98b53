use Rattle.std.proofs.Common.{◌≡◌, drop}
use Rattle.mc_text.specs.Commands.{command_of}
use Rattle.mc_text.proofs.TableLaws.{coded_in}
use Rattle.mc_text.proofs.commands.command_of.Given as goal

abbrev pub invariant-loop-name : goal.invariant-loop-name
invariant-loop-name l = command_of l.word ≡ coded_in l.word (drop l.name-index l.name-items)
