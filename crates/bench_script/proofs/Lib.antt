pub mod Chunks
pub mod Loads
pub mod Sessions
