pub mod Rounds
pub mod Progress
pub mod Windows
pub mod GettingClean
