pub mod Formats
pub mod Gather
pub mod NodeTests
pub mod Chunks
