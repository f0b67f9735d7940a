pub mod Fronts
pub mod Fitting
pub mod Standing
pub mod Runs
pub mod Laws
pub mod EventLists
