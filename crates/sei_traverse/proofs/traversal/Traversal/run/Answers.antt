use Rattle.sei_traverse.proofs.traversal.Traversal.run.Goals as goal

pub returns-in-None : goal.returns-in-None
returns-in-None g c = record { run = rw c.in-None.is c.run_on.ensures.run }

pub returns-in-Some : goal.returns-in-Some
returns-in-Some g c = record { run = rw c.in-Some.is c.run_on-in-Some.ensures.run }
