use Rattle.sei_pass.proofs.pass.Pass.step.Goals as goal

pub returns-in-None-clause-stepped : goal.returns-in-None-clause-stepped
returns-in-None-clause-stepped g c = rw c.in-None.is c.step_on.ensures.stepped

pub returns-in-Some-clause-stepped : goal.returns-in-Some-clause-stepped
returns-in-Some-clause-stepped g c = rw c.in-Some.is c.step_on-in-Some.ensures.stepped

pub returns-in-Some-clause-lent : goal.returns-in-Some-clause-lent
returns-in-Some-clause-lent g c = rw c.in-Some.is c.step_on-in-Some.ensures.lent
