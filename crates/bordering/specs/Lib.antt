pub mod Told
pub mod Cells
pub mod Kept
pub mod OneMore
pub mod Tells
