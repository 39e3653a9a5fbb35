pub mod Places
pub mod Kept
pub mod Numbers
pub mod Lines
pub mod Sums
pub mod Totals
pub mod Steps
pub mod Examples
