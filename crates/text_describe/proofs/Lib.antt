pub mod Described
pub mod Openings
pub mod Pieces
pub mod Steps
