use Rattle.sei_traverse.proofs.WayLaws.{way_entered, way_still, way_given, way_sent, end_finished}
use Rattle.sei_traverse.proofs.laws.both_passes_are_made.Goals as goal

pub returns-clause-entered : goal.returns-clause-entered
returns-clause-entered c = way_entered

pub returns-clause-given : goal.returns-clause-given
returns-clause-given c = way_given

pub returns-clause-sent : goal.returns-clause-sent
returns-clause-sent c = way_sent

pub returns-clause-finished : goal.returns-clause-finished
returns-clause-finished c = end_finished

pub returns-clause-still : goal.returns-clause-still
returns-clause-still c = way_still
