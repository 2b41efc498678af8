pub mod Difference
pub mod Linked
pub mod Walk
pub mod Turn
pub mod Counting
