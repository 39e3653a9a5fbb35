pub mod Restored
pub mod Errors
