pub mod Tokens
pub mod Readers
pub mod Bounded
