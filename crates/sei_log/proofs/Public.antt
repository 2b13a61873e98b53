-- The lemmas that other crates use.
pub use Rattle.sei_log.proofs.ChangeLaws.{applied_off, applied_push, applied_there, equal_or, get_past, get_set_other, get_set_same, lt_or, same_push, same_within, set_same, set_set, stands_cases, stands_last, stands_push, take_stands, take_whole, undone_push}
