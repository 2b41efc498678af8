pub mod Chunks
pub mod Faults
