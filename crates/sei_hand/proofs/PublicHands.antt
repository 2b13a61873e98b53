-- What may be used of the hands: the calls that are found in an input and their input words, which fit, and that each run serves.
pub use Rattle.sei_hand.proofs.RequestLaws.{request_spelled, found_call, found_bytes}
pub use Rattle.sei_hand.proofs.InputLaws.{length_input_words}
pub use Rattle.sei_hand.proofs.HandsLaws.{call_is_asked}
pub use Rattle.sei_hand.proofs.Serving.{hands_serve}
pub use Rattle.sei_hand.proofs.SoundLaws.{sound_hands}
pub use Rattle.sei_hand.proofs.PassLaws.{sealed_words_fit, one_geometry}
