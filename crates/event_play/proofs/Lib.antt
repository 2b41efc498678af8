pub mod Plays
pub mod Played
