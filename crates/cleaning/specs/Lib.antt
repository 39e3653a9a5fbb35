pub mod Sifting
pub mod Clean
