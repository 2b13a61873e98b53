-- The lemmas that other crates use.
pub use Rattle.sei_words.proofs.FreshLaws.{fresh_stands}
