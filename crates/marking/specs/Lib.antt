pub mod Marking
pub mod Private
