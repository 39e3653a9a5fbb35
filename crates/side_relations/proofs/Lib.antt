pub mod Parameters
pub mod Scanning
