pub mod Covered
pub mod Quiescent
