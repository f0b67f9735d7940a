pub mod EventsFollowed
pub mod RowLaws
pub mod OneLine
pub mod FirstLine
pub mod ThinningJudged
