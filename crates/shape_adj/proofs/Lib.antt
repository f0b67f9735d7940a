pub mod Flooding
pub mod Relabelling
pub mod RunLines
pub mod RowPlaces
pub mod PictureRows
pub mod Links
pub mod Entering
mod OpenLinks
mod ObjectRows
pub mod Labelling
pub mod FlatSteps
mod SolidSteps
pub mod Offsets
pub mod Inner
mod GapSteps
pub mod MaskBits
pub mod CubeRows
mod LowestBits
mod WordsFrom
mod Gaining
mod Layers
mod ShownFaces
