-- The lemmas that other crates use.
pub use Rattle.mc_text.proofs.CallLaws.{words_few, length-bucket_calls}
pub use Rattle.mc_text.proofs.FitLaws.{calls_fit}
pub use Rattle.mc_text.proofs.FrontLaws.{begins_front, front_reads}
pub use Rattle.mc_text.proofs.StreamLaws.{front_length, no_requests, takes_more, takes_push, takes_requests}
