use Rattle.tab_read.proofs.PublicRead.{parts_answer}
use Rattle.tab_read.proofs.laws.parts_answer.Goals as goal

pub returns : goal.returns
returns c = parts_answer
