pub mod Bytes
pub mod Faults
pub mod Memory
pub mod Plan
pub mod Reads
pub mod Seconds
pub mod StdEdge
pub mod Writes
