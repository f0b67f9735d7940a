pub mod Chosen
pub mod Keeping
pub mod Listed
pub mod Ranks
