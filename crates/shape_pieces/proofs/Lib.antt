pub mod Longest
pub mod Fronting
pub mod Fits
pub mod Growth
