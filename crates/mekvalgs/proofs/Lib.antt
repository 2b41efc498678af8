pub mod Far
pub mod Chain
pub mod Listening
pub mod Unwrapped
