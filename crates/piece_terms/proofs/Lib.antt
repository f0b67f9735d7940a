pub mod Breaks
pub mod Fewest
pub mod Listed
pub mod ListedLines
pub mod LineLaws
pub mod HoldsShows
