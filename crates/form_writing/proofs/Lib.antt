pub mod Pasted
pub mod Held
