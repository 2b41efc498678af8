pub mod Playing
pub mod Whole
pub mod Turns
