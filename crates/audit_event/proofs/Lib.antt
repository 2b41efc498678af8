pub mod Notes
pub mod Plays
pub mod Tells
