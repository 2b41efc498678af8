pub mod Fills
pub mod Alike
pub mod Finding
pub mod Tearing
pub mod Rooms
pub mod Sided
