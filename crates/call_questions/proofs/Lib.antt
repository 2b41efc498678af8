pub mod Asked
pub mod Held
