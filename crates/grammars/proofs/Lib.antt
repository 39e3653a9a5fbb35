pub mod List
pub mod Body
pub mod Rule
pub mod Reading
pub mod EachRule
pub mod Turns
