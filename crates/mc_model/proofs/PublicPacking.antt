-- The laws of packed bytes.
pub use Rattle.mc_model.proofs.PackLaws.{length_pack, pack_apart}
