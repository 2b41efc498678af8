pub mod Span
pub mod Narrow
