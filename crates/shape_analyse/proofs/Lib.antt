pub mod Growth
pub mod ContourGrowth
pub mod FaceGrowth
pub mod ThinningGrowth
pub mod FoundLines
pub mod TallyGrowth
