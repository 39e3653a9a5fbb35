pub mod Laws
pub mod Matrix
pub mod Lanes
pub mod Fold
pub mod Identity
