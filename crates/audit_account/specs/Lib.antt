pub mod Points
pub mod Partings
pub mod Accounts
pub mod Whole
