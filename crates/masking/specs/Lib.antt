pub mod Roots
pub mod Pictures
pub mod Masks
pub mod Words
pub mod Levels
pub mod Shown
