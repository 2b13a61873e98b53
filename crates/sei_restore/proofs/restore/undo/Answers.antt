use Rattle.sei_restore.proofs.restore.undo.Goals as goal

pub returns-in-Some-clause-undone : goal.returns-in-Some-clause-undone
returns-in-Some-clause-undone g c = rw c.in-Some.is c.undo_on-in-Some.ensures.undone

pub returns-in-Some-clause-lent : goal.returns-in-Some-clause-lent
returns-in-Some-clause-lent g c = rw c.in-Some.is c.undo_on-in-Some.ensures.lent
