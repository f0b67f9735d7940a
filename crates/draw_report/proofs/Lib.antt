pub mod Gathering
pub mod HeadingLaws
pub mod CircleLaws
pub mod ContourLaws
pub mod BorderLaws
pub mod PathLaws
pub mod CornerLaws
pub mod OverLaws
mod AxesMore
mod Words
mod NumbersMade
mod Deepest
mod Drawn
mod MeasuredMade
mod MeasuresTell
