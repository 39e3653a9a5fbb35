pub mod Lanes
pub mod Choices
