-- The lemmas that other crates use.
pub use Rattle.sei_pass.proofs.RoomLaws.{Keeps, keeps}
pub use Rattle.sei_pass.proofs.StepLaws.{is_below, made_one, some_answer}
