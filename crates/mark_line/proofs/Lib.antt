pub mod Sized
pub mod Lined
