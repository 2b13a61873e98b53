use Rattle.sei_traverse.proofs.FaultInvariantLaws.{invariant_begin, invariant_lent, invariant_given, known_are_on_their_way}
use Rattle.sei_traverse.proofs.laws.faults_are_isolated.Goals as goal

pub returns-clause-begins : goal.returns-clause-begins
returns-clause-begins c = invariant_begin

pub returns-clause-lends : goal.returns-clause-lends
returns-clause-lends c = invariant_lent

pub returns-clause-gives : goal.returns-clause-gives
returns-clause-gives c = invariant_given

pub returns-clause-on_way : goal.returns-clause-on_way
returns-clause-on_way c = known_are_on_their_way
