pub mod Gives
pub mod Steps
pub mod Joined
