-- What holds of each call of a request.
pub use Rattle.mc_text.proofs.FitLaws.{no_key, calls_fit, own_calls_fit, ends_where}
pub use Rattle.mc_text.proofs.ByteLaws.{calls_hold_bytes}
pub use Rattle.mc_text.proofs.CallLaws.{words_few, length-bucket_calls}
