pub mod Parts
pub mod Sifting
pub mod OneRule
pub mod Cleaning
