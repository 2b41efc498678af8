pub mod Actors
pub mod Lent
pub mod Decides
pub mod Written
pub mod Counted
pub mod Leaving
