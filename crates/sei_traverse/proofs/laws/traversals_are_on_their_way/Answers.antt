use Rattle.sei_traverse.proofs.WayLaws.{way_begins, way_lends, way_gives}
use Rattle.sei_traverse.proofs.laws.traversals_are_on_their_way.Goals as goal

pub returns-clause-begins : goal.returns-clause-begins
returns-clause-begins c = way_begins

pub returns-clause-lends : goal.returns-clause-lends
returns-clause-lends c = way_lends

pub returns-clause-gives : goal.returns-clause-gives
returns-clause-gives c = way_gives
