-- A transition added during the lesson (document 02, R-8).
pub mod Dependence
pub mod Adding
pub mod Claims
pub mod Examples
