pub mod BallLists
pub mod BallUnion
pub mod RasterRise
pub mod LineLaws
pub mod CourseLaws
pub mod HoldsShows
