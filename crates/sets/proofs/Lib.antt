pub mod Ascending
pub mod Bits
pub mod Collect
pub mod Arrays
pub mod UpTo
pub mod Turns
pub mod Numbers
