-- What the contracts of functions that are no calls cite. No call's promise depends on it.
pub mod Table
pub mod Opened
