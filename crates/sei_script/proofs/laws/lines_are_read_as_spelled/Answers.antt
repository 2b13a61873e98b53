use Rattle.sei_script.proofs.SpellingLaws.{line_told, line_only}
use Rattle.sei_script.proofs.laws.lines_are_read_as_spelled.Goals as goal

pub returns : goal.returns
returns c = record { told = line_told; only = line_only }
