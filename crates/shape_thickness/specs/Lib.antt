pub mod Greatest
pub mod Centres
pub mod Painting
pub mod Laws
