pub mod Edges
pub mod Slants
pub mod Entries
pub mod Searches
pub mod Growing
