pub mod Chunks
pub mod Loaded
pub mod Position
