pub mod Rest
pub mod Within
pub mod Numbers
