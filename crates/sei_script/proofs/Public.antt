-- The lemmas that other crates use.
pub use Rattle.sei_script.proofs.Fit.{reads_fit, reads_valid}
pub use Rattle.sei_script.proofs.SaysLaws.{reads_bytes}
