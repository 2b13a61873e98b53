use Rattle.sei_traverse.proofs.WayLaws.{way_ends, end_ends}
use Rattle.sei_traverse.proofs.laws.traversals_end.Goals as goal

pub returns-clause-running : goal.returns-clause-running
returns-clause-running c = way_ends

pub returns-clause-ended : goal.returns-clause-ended
returns-clause-ended c = end_ends
