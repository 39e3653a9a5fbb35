pub mod Bodies
pub mod Counts
