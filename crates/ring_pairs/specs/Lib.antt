pub mod Loaded
pub mod Stored
