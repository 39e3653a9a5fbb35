mod Term
mod Place
mod Open
mod Fit
mod Subst
mod Entering
pub mod Sets
pub mod Digits
mod Bits
mod Calls
mod Fold
pub mod Method
pub mod Tables
pub mod Sheet
pub mod Examples
