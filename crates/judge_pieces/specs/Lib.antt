pub mod PieceState
pub mod LineOf
pub mod Judged
