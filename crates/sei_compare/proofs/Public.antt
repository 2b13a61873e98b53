-- The lemmas that other crates use.
pub use Rattle.sei_compare.proofs.CompareLaws.{is_message-one, is_message-same, same_change-one, same_change-same, same_reply-one, same_reply-same, word_at-honest, word_outcome-new, word_outcome-same}
