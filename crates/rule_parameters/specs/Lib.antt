pub mod Numbers
pub mod Strict
