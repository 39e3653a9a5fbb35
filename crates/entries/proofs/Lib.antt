pub mod OfRule
pub mod Entries
