use Rattle.sei_restore.proofs.UndoLaws.{restores, stays_inside}
use Rattle.sei_restore.proofs.laws.logs_are_undone.Goals as goal

pub returns : goal.returns
returns c = record { restores = restores; stays_inside = stays_inside }
