pub mod PaintSteps
pub mod CentreSteps
pub mod RowPlaces
pub mod BallSteps
pub mod KnownPlaces
pub mod GreatestBalls
pub mod GreatestSquares
pub mod ThicknessLaws
