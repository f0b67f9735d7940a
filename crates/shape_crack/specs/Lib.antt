pub mod Terms
pub mod MarkBits
pub mod Marked
