pub mod Acting
pub mod Changes
