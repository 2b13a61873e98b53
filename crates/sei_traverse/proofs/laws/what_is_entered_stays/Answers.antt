use Rattle.sei_traverse.proofs.EnteredLaws.{entered_given, entered_sent, entered_finished}
use Rattle.sei_traverse.proofs.laws.what_is_entered_stays.Goals as goal

pub returns-clause-given : goal.returns-clause-given
returns-clause-given c = λ e begin x y lent left state. entered_given e begin x y lent left state

pub returns-clause-sent : goal.returns-clause-sent
returns-clause-sent c = λ e begin x y lent left state. entered_sent e begin x y lent left state

pub returns-clause-finished : goal.returns-clause-finished
returns-clause-finished c = λ e begin x y lent left state. entered_finished e begin x y lent left state
