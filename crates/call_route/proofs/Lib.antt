pub mod Hops
pub mod Walks
pub mod Refused
pub mod Given
