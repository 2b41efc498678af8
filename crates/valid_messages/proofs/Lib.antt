pub mod MessageTests
pub mod RestTests
pub mod Lanes
pub mod Views
pub mod Counted
