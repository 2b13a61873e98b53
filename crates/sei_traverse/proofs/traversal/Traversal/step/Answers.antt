use Rattle.sei_traverse.proofs.traversal.Traversal.step.Goals as goal

pub returns-in-None-clause-makes : goal.returns-in-None-clause-makes
returns-in-None-clause-makes g c = rw c.in-None.is c.step_on.ensures.makes

pub returns-in-Some-clause-makes : goal.returns-in-Some-clause-makes
returns-in-Some-clause-makes g c = rw c.in-Some.is c.step_on-in-Some.ensures.makes

pub returns-in-None-clause-on_way : goal.returns-in-None-clause-on_way
returns-in-None-clause-on_way g c = rw c.in-None.is c.step_on.ensures.on_way

pub returns-in-None-clause-refused : goal.returns-in-None-clause-refused
returns-in-None-clause-refused g c = c.step_on.ensures.refused

pub returns-in-Some-clause-on_way : goal.returns-in-Some-clause-on_way
returns-in-Some-clause-on_way g c = rw c.in-Some.is c.step_on-in-Some.ensures.on_way

pub returns-in-Some-clause-refused : goal.returns-in-Some-clause-refused
returns-in-Some-clause-refused g c = c.step_on-in-Some.ensures.refused

pub returns-in-None-clause-isolated : goal.returns-in-None-clause-isolated
returns-in-None-clause-isolated g c = rw c.in-None.is c.step_on.ensures.isolated

pub returns-in-Some-clause-isolated : goal.returns-in-Some-clause-isolated
returns-in-Some-clause-isolated g c = rw c.in-Some.is c.step_on-in-Some.ensures.isolated

pub returns-in-None-clause-within : goal.returns-in-None-clause-within
returns-in-None-clause-within g c = c.step_on.ensures.within

pub returns-in-Some-clause-within : goal.returns-in-Some-clause-within
returns-in-Some-clause-within g c = c.step_on-in-Some.ensures.within

pub returns-in-None-clause-room : goal.returns-in-None-clause-room
returns-in-None-clause-room g c = c.step_on.ensures.room

pub returns-in-Some-clause-room : goal.returns-in-Some-clause-room
returns-in-Some-clause-room g c = c.step_on-in-Some.ensures.room
