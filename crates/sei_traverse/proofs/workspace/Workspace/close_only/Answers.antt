use Rattle.sei_traverse.proofs.workspace.Workspace.close_only.Goals as goal

pub returns-clause-act : goal.returns-clause-act
returns-clause-act g c = λ words. rw c.closing_want-want.ensures at (rw c.closing_place.ensures at (c.close.ensures.act words))
