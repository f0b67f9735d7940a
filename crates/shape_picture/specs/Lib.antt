pub mod Pbm
pub mod Raw
pub mod Answers
pub mod Bytes
pub mod Header
pub mod Raster
pub mod Parts
