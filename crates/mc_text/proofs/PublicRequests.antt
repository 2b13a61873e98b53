-- The request at the front of some bytes, and those of a stream.
pub use Rattle.mc_text.proofs.FrontLaws.{front_reads, begins_front, spells_whole}
pub use Rattle.mc_text.proofs.StreamLaws.{front_length, takes_more, takes_push, takes_requests, no_requests}
