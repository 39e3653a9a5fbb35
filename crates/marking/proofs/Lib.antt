pub mod Shared
pub mod Marked
