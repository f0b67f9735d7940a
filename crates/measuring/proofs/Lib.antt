mod Gaps
mod Pairs
mod BestPairs
mod SiteLists
mod SiteNumbers
mod Gathering
mod HullsOutdo
mod Outdoing
mod LayersPut
mod FeretsFound
mod Widening
mod Places
mod Labelled
mod Reading
mod Turning
mod Pointing
mod Chaining
mod Listing
mod Closing
mod Going
mod Rounds
mod Between
mod Summing
mod Narrowing
mod LinesPut
mod Shorts
mod Roots
mod LabelledHulls
mod Sized
pub mod Steps
pub mod NewCells
pub mod Halves
pub mod Ones
pub mod Outs
pub mod OneLabel
pub mod Counting
mod Ranges
mod Portions
mod ShareBounds
mod Gathered
pub mod PointsRead
pub mod RowsTold
pub mod SmallCoordinates
pub mod MomentBounds
pub mod Squares
pub mod Lengths
pub mod AxisTurning
pub mod Parts
pub mod Adding
mod PointFacts
mod TableSteps
mod TextSteps
