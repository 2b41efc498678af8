pub mod Effects
pub mod Lent
pub mod Says
