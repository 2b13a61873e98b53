use Rattle.sei_script.proofs.OneSpelling.{one_line}
use Rattle.sei_script.proofs.laws.a_text_spells_one_line.Goals as goal

pub returns : goal.returns
returns c = one_line
