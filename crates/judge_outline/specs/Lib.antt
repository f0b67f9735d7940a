pub mod CoverState
pub mod Segments
pub mod Terms
pub mod Listings
pub mod Exposure
pub mod PlaneState
