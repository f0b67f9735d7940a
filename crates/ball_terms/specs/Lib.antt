pub mod Balls
pub mod Lines
pub mod Reports
pub mod Shows
