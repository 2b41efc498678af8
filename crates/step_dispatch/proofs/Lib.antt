pub mod ByTimer
pub mod ByType
