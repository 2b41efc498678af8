pub mod Joined
pub mod Auditing
pub mod Turning
pub mod Beginning
