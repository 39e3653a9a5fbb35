pub mod Descent
pub mod Places
