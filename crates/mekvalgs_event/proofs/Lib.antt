pub mod Base
pub mod Numbers
pub mod Theorems
