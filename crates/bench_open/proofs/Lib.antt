pub mod Begins
pub mod FirstChunk
pub mod Longer
pub mod Opened
