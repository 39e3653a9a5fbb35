pub mod Choices
pub mod Rules
pub mod Passes
pub mod Tree
pub mod Sheet
pub mod Examples
