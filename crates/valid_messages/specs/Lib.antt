pub mod Senders
pub mod Messages
pub mod Parts
pub mod Rests
pub mod Masks
