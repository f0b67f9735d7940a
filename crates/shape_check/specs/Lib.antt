pub mod EventStanding
pub mod Rows
pub mod Entered
pub mod Going
pub mod Heading
pub mod Followed
pub mod Checks
