-- The lemmas that other crates use.
pub use Rattle.sei_outside.proofs.Parts.{append_known_none, wrote_both, wrote_first, wrote_last, wrote_last_of, wrote_nothing, wrote_part, wrote_part_of}
