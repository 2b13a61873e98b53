-- The lemmas that other crates use.
pub use Rattle.sei_traverse.proofs.Branches.{below}
pub use Rattle.sei_traverse.proofs.FaultInvariantLaws.{invariant_begin, invariant_given, invariant_lent}
pub use Rattle.sei_traverse.proofs.StepsBound.{begun_within, steps_bounded}
pub use Rattle.sei_traverse.proofs.TrustLaws.{sound_is_trusted}
