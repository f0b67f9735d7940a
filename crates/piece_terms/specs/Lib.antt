pub mod Splits
pub mod Pieces
pub mod SplitLines
pub mod Lines
pub mod PieceReports
pub mod Shown
