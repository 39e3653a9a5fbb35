pub mod Trees
pub mod Passed
pub mod Noted
pub mod Reading
