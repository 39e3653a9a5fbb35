pub mod Passed
pub mod Entries
