pub mod Pixels
pub mod Rows
pub mod Beginnings
pub mod MarkSteps
pub mod CrackValues
pub mod Rounds
pub mod Listing
