use Rattle.sei_traverse.proofs.WantingLaws.{wanted_at_most_once, finished_wants, refused_wants}
use Rattle.sei_traverse.proofs.laws.wants_come_once.Goals as goal

pub returns-clause-once : goal.returns-clause-once
returns-clause-once c = wanted_at_most_once

pub returns-clause-finished : goal.returns-clause-finished
returns-clause-finished c = finished_wants

pub returns-clause-refused : goal.returns-clause-refused
returns-clause-refused c = refused_wants
