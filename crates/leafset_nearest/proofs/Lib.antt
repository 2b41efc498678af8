pub mod Pick
pub mod Spans
pub mod Firsts
pub mod Narrow
pub mod MinBy
