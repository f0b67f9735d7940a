pub mod Lines
pub mod Gaps
pub mod Ways
pub mod Arcs
pub mod LineOf
pub mod Steps
pub mod EdgeState
pub mod Taken
