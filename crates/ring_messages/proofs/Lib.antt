pub mod Queue
pub mod Sends
pub mod Sent
