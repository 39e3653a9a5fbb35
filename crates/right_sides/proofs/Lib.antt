pub mod Scanning
pub mod Lower
pub mod Ruling
