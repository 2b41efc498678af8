mod Loads
pub mod Stores
