pub mod Kept
pub mod Counting
pub mod Held
