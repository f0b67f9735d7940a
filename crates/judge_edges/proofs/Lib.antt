pub mod CornerRounds
pub mod WaySteps
pub mod Shears
pub mod PathRuns
pub mod Folds
pub mod Standings
pub mod Taken
