pub mod RowTests
pub mod PairFormats
pub mod PairTest
pub mod ShortRows
