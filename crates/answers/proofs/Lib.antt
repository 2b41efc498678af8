pub mod Valid
pub mod Refusals
pub mod Answered
pub mod Stages
