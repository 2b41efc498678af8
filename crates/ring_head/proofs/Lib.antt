pub mod Decoded
pub mod Holds
pub mod Arrays
pub mod ReadRing
mod AllKeys
