pub mod Marks
pub mod Updates
