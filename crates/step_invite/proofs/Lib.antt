pub mod Invited
