pub mod Bits
pub mod Masks
pub mod Compute
pub mod SimpleTable
