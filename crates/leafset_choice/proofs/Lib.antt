pub mod Choices
pub mod Spare
