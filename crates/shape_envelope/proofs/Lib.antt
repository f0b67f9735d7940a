pub mod PartSteps
pub mod LineNumbers
pub mod Fences
pub mod Blocks
pub mod LinesDone
