pub mod Passes
pub mod Turns
pub mod Refused
pub mod Reaching
