mod Fields
pub mod Passing
