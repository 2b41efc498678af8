pub mod Plays
pub mod Sessions
pub mod Joined
pub mod Parts
