pub mod Growth
pub mod PathSteps
pub mod Searching
pub mod Passing
pub mod LineOf
pub mod Growing
