pub mod Tallies
pub mod Analyses
pub mod Growing
pub mod Finding
pub mod Facing
