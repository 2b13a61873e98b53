pub mod Bound
pub mod Faults
pub mod PublicChains
pub mod Runs
pub mod Scripted
pub mod Strikes
pub mod PublicStruckRuns
pub mod Public
