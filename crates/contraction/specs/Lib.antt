pub mod Chain
pub mod Terminal
pub mod Substitution
