pub mod Choices
pub mod Patch
pub mod Filling
pub mod Tabling
