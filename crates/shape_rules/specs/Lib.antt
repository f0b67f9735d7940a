pub mod Names
pub mod FactsOf
pub mod Few
pub mod Entries
pub mod Lending
pub mod Ruled
