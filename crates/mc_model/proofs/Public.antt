-- The lemmas that other crates use.
pub use Rattle.mc_model.proofs.PackLaws.{length_pack, unpack_before}
pub use Rattle.mc_model.proofs.NumberLaws.{number_within}
