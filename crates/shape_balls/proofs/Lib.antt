pub mod Choosing
pub mod Facts
pub mod Keeping
pub mod Ranking
pub mod Fitting
pub mod Spelling
