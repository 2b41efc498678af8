pub mod Nodes
pub mod Hashes
