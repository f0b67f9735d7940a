pub mod LineOf
pub mod Standing
pub mod Tests
pub mod Course
