pub mod Circle
pub mod Links
pub mod Points
