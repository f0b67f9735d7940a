pub mod BitCounts
pub mod HeldLaws
pub mod CopiedCells
pub mod Forms
pub mod ObjectCells
