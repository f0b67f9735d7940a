pub mod Deciding
pub mod Taken
pub mod Coursing
