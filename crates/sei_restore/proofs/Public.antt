-- The lemmas that other crates use.
pub use Rattle.sei_restore.proofs.UndoLaws.{restores, stays_inside}
