pub mod ShortRegions
