pub mod Ascii
pub mod Names
pub mod Describe
pub mod Assemble
