use Rattle.tab_store.proofs.PublicStore.{parts_answer}
use Rattle.tab_store.proofs.laws.parts_answer.Goals as goal

pub returns : goal.returns
returns c = parts_answer
