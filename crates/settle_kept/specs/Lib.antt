pub mod Settled
pub mod Improving
pub mod Jammed
