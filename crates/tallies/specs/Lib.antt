pub mod Turn
pub mod Counts
pub mod Lists
pub mod OneSet
pub mod Claims
pub mod Examples
