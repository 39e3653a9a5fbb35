pub mod Made
pub mod Sheet
pub mod Certified
pub mod Demand
