pub mod Raises
pub mod Rows
pub mod Messages
pub mod Join
