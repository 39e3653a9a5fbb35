pub mod Parameters
pub mod Changed
pub mod StrictScan
pub mod StrictLaw
