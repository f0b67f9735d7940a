pub mod Passing
pub mod Sizes
pub mod Reading
pub mod Counting
pub mod Rooms
pub mod Keeping
