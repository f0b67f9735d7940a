pub mod Loops
pub mod Between
pub mod ScalarProducts
