-- The lemmas that other crates use.
pub use Rattle.sei_stmt.proofs.PublicEffects.{Effect, HonestEffect, StruckEffect, honest_effect, keeps_honest, struck_effect}
pub use Rattle.sei_stmt.proofs.FrameLaws.{any_program, may_render_open, open_is_parsed, put_other, repeat, seq, then_so}
pub use Rattle.sei_stmt.proofs.HonestLaws.{after_one, begins, halts_or_aborts, halts_or_goes_on, run_ends, still_halted}
pub use Rattle.sei_stmt.proofs.Invariant.{Keeps, keeps, one_end}
pub use Rattle.sei_stmt.proofs.Relog.{IsGoing, Relogs, relog, relog_asks}
pub use Rattle.sei_stmt.proofs.ServeLaws.{Ended, serves}
pub use Rattle.sei_stmt.proofs.TieLaws.{lowest_admissible}
pub use Rattle.sei_stmt.proofs.PublicTimes.{Asks, asks, timing, timed_step, timeless, timeless_again, on_way_at}
