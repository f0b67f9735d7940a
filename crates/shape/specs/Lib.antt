pub mod Pages
pub mod Products
pub mod Runs
pub mod Slips
