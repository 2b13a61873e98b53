-- The lemmas that other crates use.
pub use Rattle.sei_fault.proofs.Bound.{honest_bound, weighed_bound}
pub use Rattle.sei_fault.proofs.Runs.{always, always_honest, always_map, counted_runs, runs_bound}
pub use Rattle.sei_fault.proofs.Scripted.{scripted_runs}
pub use Rattle.sei_fault.proofs.Strikes.{core_room_left, grows, never_falls, split}
pub use Rattle.sei_fault.proofs.PublicStruckRuns.{Counted, StruckBound, always_struck, count, struck_bound}
