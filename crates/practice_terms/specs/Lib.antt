pub mod Draw
pub mod Practice
pub mod Described
pub mod Claims
pub mod Examples
