pub mod Changes
pub mod WellFormed
pub mod Calls
