pub mod Symbols
pub mod OfRule
pub mod Sums
pub mod Slots
pub mod Readable
pub mod Counted
pub mod Start
