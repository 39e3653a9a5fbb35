pub mod Drawing
pub mod Numbers
pub mod Written
pub mod Reached
